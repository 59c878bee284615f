use Rattle.wg_bodies.proofs.Plain.{plain_room}
use Rattle.wg_bodies.proofs.law.plain_functions_have_no_objects.Goals as goal

pub returns : goal.returns
returns c = record {
  input = λ text number f h e. (plain_room text number f h e).input;
  outputs = λ text number f h e. (plain_room text number f h e).outputs;
  handles = λ text number f h e. (plain_room text number f h e).handles;
}
