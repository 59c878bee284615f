use Rattle.std.proofs.Common.{◌∙◌, ◌++◌, [], ◌∷◌, ◌+◌, List, refl, sym, ap, subst}
use Rattle.std.specs.Prelude.{slice_index}
use Rattle.wg_slots.specs.Kept.{Kept}
use Rattle.wg_slots.proofs.Rows.{UnitsSoFar, one_unit_more}
use Rattle.wg_slots.proofs.slots.lay_out.Goals as goal

pub loop-unit-preserved : goal.loop-unit-preserved
loop-unit-preserved c =
    let counts = c.args.counts.now in
    let words = c.args.words.now in
    let unit = c.loop-unit.unit in
    subst (λ (l : List Kept). UnitsSoFar counts words l (unit + 1) c.in_ok-end.end) (sym (c.in_ok-push.ensures.items ∙ ap (λ (k : Kept). c.loop-unit.units.items ++ k ∷ []) c.in_ok-new.ensures.slots))
    (one_unit_more counts words c.loop-unit.units.items unit c.loop-unit.first c.in_ok-end.end (slice_index counts unit) (slice_index words unit) c.loop-unit.invariant refl refl c.in_ok-new.ensures.small c.in_ok-end.ensures.end c.in_ok-end.ensures.fits)
