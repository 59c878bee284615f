use Rattle.std.proofs.Common.{◌≡◌, ◌++◌, take}
use Rattle.wg_grants.proofs.rows.add_copies.Given as goal

abbrev pub invariant-loop-words : goal.invariant-loop-words
invariant-loop-words l = l.records ≡ l.initial.records ++ take l.words-index l.lists
