use Rattle.std.proofs.Common.{◌≡◌, replicate}
use Rattle.wg_emit.proofs.registers.repeat.Given as goal

abbrev pub invariant-loop-i : goal.invariant-loop-i
invariant-loop-i l = l.list ≡ replicate l._i l.register
