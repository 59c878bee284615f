use Rattle.std.proofs.Common.{[], ◌∷◌, ◌∙◌}
use Rattle.wg_touches.proofs.Passes.{one_passes}
use Rattle.wg_touches.proofs.statements.destination_passes.Goals as goal

pub returns-in-Scalar : goal.returns-in-Scalar
returns-in-Scalar c touch h = rw (c.in-Scalar.is) (c.place_passes.ensures (touch ∷ []) (h ∙ one_passes c.args.stores touch))
