use Rattle.std.proofs.Common.{◌≡◌, replicate}
use Rattle.wg_graph.proofs.bools.twos.Given as goal

abbrev pub invariant-loop-i : goal.invariant-loop-i
invariant-loop-i l = l.words ≡ replicate l._i 2
