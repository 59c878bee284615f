use Rattle.std.proofs.Common.{◌≡◌, take, drop}
use Rattle.wg_grants.proofs.rows.records_of.Given as goal

abbrev pub invariant-loop-index : goal.invariant-loop-index
invariant-loop-index l = l.lists ≡ take l.index (drop l.span.first l.records)
