use Rattle.std.proofs.Common.{◌≡◌, take}
use Rattle.wg_grants.specs.Rows.{grants_of}
use Rattle.wg_grants.proofs.rows.all_grants.Given as goal

abbrev pub invariant-loop-row : goal.invariant-loop-row
invariant-loop-row l = l.list ≡ grants_of (take l.row-index l.rows) l.records
