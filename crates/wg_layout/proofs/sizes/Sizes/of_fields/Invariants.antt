use Rattle.wg_layout.proofs.Capping.{Reached}
use Rattle.wg_layout.proofs.sizes.Sizes.of_fields.Given as goal

abbrev pub invariant-loop-field : goal.invariant-loop-field
invariant-loop-field l = Reached l.self l.field-items l.fields l.field-index l.at l.even
