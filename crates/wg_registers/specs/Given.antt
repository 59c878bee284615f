-- What the evaluator is given, as the definitions of node code have it.
use Rattle.std.specs.Prelude.{ℕ, List}
use Rattle.wg_machine.specs.Buffers.{Buffers}
use Rattle.wg_code.specs.Lane.{Around, Site}
use Rattle.wg_registers.specs.declared.around.Around.{Around as Given}
use Rattle.wg_registers.specs.declared.outside.Outside.{Outside}

abbrev pub around_of : Given → Around
around_of a = record {
  functions = a.functions.now;
  buffers = a.buffers;
  handles = a.handles.now;
  outputs = a.outputs.now;
  level = a.level;
  lane = a.lane;
  numbers = a.numbers;
  last = a.last;
}

-- the buffers are the memory's
abbrev pub site_of : List ℕ → Outside → Buffers → Site
site_of registers s buffers = record { registers = registers; shared = s.shared; world = record s.world { buffers = buffers } }
