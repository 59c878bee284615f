use Rattle.std.proofs.Common.{◌≡◌}
use Rattle.wg_control.specs.Simple.{SetsFirst}
use Rattle.wg_control.proofs.simple.run_front.Given as goal

abbrev pub invariant-loop-op : goal.invariant-loop-op
invariant-loop-op l = (l.done ≡ l.op-index) × SetsFirst l.op-index l.ops l.initial.registers l.registers
