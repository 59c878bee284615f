use Rattle.std.proofs.Common.{◌≡◌, ◌++◌, ◌+◌, ◌-◌}
use Rattle.wg_lowered.specs.Where.{run as run_of}
use Rattle.wg_emit.proofs.registers.run.Given as goal

abbrev pub invariant-loop-i : goal.invariant-loop-i
invariant-loop-i l = l.list ++ run_of (l.at + l.i) (l.count - l.i) ≡ run_of l.at l.count
