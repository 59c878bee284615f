use Rattle.std.proofs.Common.{◌≡◌, take}
use Rattle.wg_grants.proofs.grants.table_of.Given as goal

abbrev pub invariant-loop-grant : goal.invariant-loop-grant
invariant-loop-grant l = l.table ≡ take l.grant-index l.grants
