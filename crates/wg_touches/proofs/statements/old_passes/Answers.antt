use Rattle.std.proofs.Common.{[], ◌∷◌}
use Rattle.wg_additive.specs.Touch.{a_store}
use Rattle.wg_touches.proofs.Passes.{one_passes}
use Rattle.wg_touches.proofs.statements.old_passes.Goals as goal

pub returns-in-Some : goal.returns-in-Some
returns-in-Some c = rw (c.in-Some.is) (c.place_passes.ensures (a_store ∷ []) (one_passes c.args.stores a_store))
