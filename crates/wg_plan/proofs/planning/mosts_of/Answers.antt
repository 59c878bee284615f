use Rattle.std.proofs.Common.{◌≡◌, ◌<◌, length, ap, sym, ◌∙◌, arith, refl}
use Rattle.wg_plan.specs.Limits.{IsSmallUnit}
use Rattle.wg_plan.proofs.Small.{need_small, small_item}
use Rattle.wg_plan.proofs.Mosts.{row_at, row_sound, mosts_more, mosts_kept}
use Rattle.wg_plan.proofs.planning.mosts_of.Goals as goal

pub raise-requires-clause-sound : goal.raise-requires-clause-sound
raise-requires-clause-sound c =
    let within : c.loop-place.place < length c.in_ok-rows.rows = omega (arith, c.loop-place-test.true, c.len-place-end.ensures) in
    let same : length c.args.shape.now.units ≡ length c.deref_mut.result.now = omega (arith, c.loop-place.invariant.count_is, ap length c.deref_mut.ensures.value) in
    row_sound _ c.in_ok-rows.rows c.loop-place.place c.row.result.now (rw same at c.in_ok-rows.ensures.sound) within c.row.ensures

pub raise-requires-clause-few : goal.raise-requires-clause-few
raise-requires-clause-few c v h =
    let within : c.loop-place.place < length c.in_ok-rows.rows = omega (arith, c.loop-place-test.true, c.len-place-end.ensures) in
    let row = row_at c.args.shape.now c.in_ok-rows.rows c.loop-place.place c.row.result.now c.in_ok-rows.ensures.count within c.row.ensures c.in_ok-rows.ensures.needs in
    let small : IsSmallUnit row.unit = small_item c.args.shape.now c.args.shape.now.units c.loop-place.place row.unit c.requires refl (omega (arith, c.in_ok-rows.ensures.count, within)) row.is in
    omega (arith, need_small row.unit v small, row.needs v (omega (arith, h, ap length c.deref_mut.ensures.value, c.loop-place.invariant.count_is)))

pub loop-place-preserved : goal.loop-place-preserved
loop-place-preserved c =
    let within : c.loop-place.place < length c.in_ok-rows.rows = omega (arith, c.loop-place-test.true, c.len-place-end.ensures) in
    let row = row_at c.args.shape.now c.in_ok-rows.rows c.loop-place.place c.row.result.now c.in_ok-rows.ensures.count within c.row.ensures c.in_ok-rows.ensures.needs in
    let below : c.loop-place.place < length c.args.shape.now.units = omega (arith, c.in_ok-rows.ensures.count, within) in
    let small : IsSmallUnit row.unit = small_item c.args.shape.now c.args.shape.now.units c.loop-place.place row.unit c.requires refl below row.is in
    let raised = rw c.deref_mut.ensures.value at c.raise.ensures in
    let same : length c.raise.new.mosts ≡ length c.loop-place.mosts.items = c.raise.auto.mosts ∙ ap length c.deref_mut.ensures.value in
    mosts_kept _ _ c.loop-place.mosts.len c.loop-place.mosts.items c.raise.new.mosts (sym c.deref_mut.ensures.len ∙ ap length c.deref_mut.ensures.value) same
    (mosts_more c.loop-place.mosts.items c.raise.new.mosts c.row.result.now c.args.shape.now.units c.loop-place.place row.unit
    same raised row.needs (λ v. need_small row.unit v small) below row.is c.loop-place.invariant)
