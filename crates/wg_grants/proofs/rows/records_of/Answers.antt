use Rattle.std.proofs.Common.{◌∙◌}
use Rattle.wg_grants.proofs.Tables.{next_record}
use Rattle.wg_grants.proofs.rows.records_of.Goals as goal

pub loop-index-preserved : goal.loop-index-preserved
loop-index-preserved c =
    c.in_ok-push.ensures.ok ∙ next_record c.args.span c.args.records.now c.loop-index.index c.loop-index.lists c.in_ok-from_slice.field-0 c.requires c.loop-index-test.true (c.in_ok-from_slice.ensures ∙ c.list-words.ensures) c.loop-index.invariant
