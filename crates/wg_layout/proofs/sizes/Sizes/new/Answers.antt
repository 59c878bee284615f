use Rattle.std.proofs.Common.{arith, ◌∙◌}
use Rattle.wg_layout.proofs.Capping.{structs_ended, table_is}
use Rattle.wg_layout.proofs.sizes.Sizes.new.Goals as goal

-- src/sizes.rt:30:5
pub returns : goal.returns
returns c = structs_ended c.loop-of.sizes _ c.as_slice-of-items.result.now c.loop-of.of-index (omega (arith, c.loop-of-test.false)) c.loop-of.invariant ∙ table_is c.args.structs.now
