use Rattle.std.proofs.Common.{length}
use Rattle.wg_grants.proofs.Tables.{span_at}
use Rattle.wg_grants.proofs.rows.all_grants.Goals as goal

pub grant_of_row-requires : goal.grant_of_row-requires
grant_of_row-requires c = span_at c.args.rows.now (length c.args.records.now) c.loop-row.row-index _ c.requires c.loop-row-test.true
