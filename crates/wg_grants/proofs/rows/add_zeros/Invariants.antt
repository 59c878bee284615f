use Rattle.std.proofs.Common.{◌≡◌, ◌++◌, replicate}
use Rattle.wg_state.specs.WordLists.{zeros}
use Rattle.wg_grants.proofs.rows.add_zeros.Given as goal

abbrev pub invariant-loop-i : goal.invariant-loop-i
invariant-loop-i l = l.records ≡ l.initial.records ++ replicate l._i (zeros l.words)
