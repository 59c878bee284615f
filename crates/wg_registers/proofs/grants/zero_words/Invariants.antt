use Rattle.std.proofs.Common.{◌≡◌, replicate}
use Rattle.wg_registers.proofs.grants.zero_words.Given as goal

abbrev pub invariant-loop-i : goal.invariant-loop-i
invariant-loop-i l = l.list.items ≡ replicate l._i 0
