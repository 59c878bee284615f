use Rattle.wg_bodies.proofs.Functions.{same_doing}
use Rattle.wg_bodies.proofs.law.plain_functions_ask_for_structs.Goals as goal

pub returns : goal.returns
returns c = record { same = same_doing }
