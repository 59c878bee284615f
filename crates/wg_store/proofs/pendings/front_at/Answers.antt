use Rattle.std.proofs.Common.{◌≡◌, ◌∙◌, ◌+◌, ◌∷◌, drop, ap, sym, arith}
use Rattle.wg_store.specs.Items.{first_at, fits_unit}
use Rattle.wg_store.proofs.Found.{drop_all, step_at, unit_past, unit_with}
use Rattle.wg_store.proofs.pendings.front_at.Goals as goal

pub returns-then-waits_at : goal.returns-then-waits_at
returns-then-waits_at c =
    let xs = c.args.items.now in
    let x = c.item-item.result in
    let rest = drop (c.loop-item.item-index + 1) xs in
    let here = step_at xs c.loop-item.item-index x c.loop-item-test.true c.item-item.is in
    let whole : fits_unit c.args.unit xs ≡ x ∷ fits_unit c.args.unit rest = sym c.loop-item.invariant ∙ ap (fits_unit c.args.unit) here ∙ unit_with c.args.unit x rest (sym c.waits_at.ensures ∙ c.if-waits_at.true) in
    c.next_of.ensures ∙ sym (ap first_at whole)

pub loop-item-preserved : goal.loop-item-preserved
loop-item-preserved c =
    let xs = c.args.items.now in
    let x = c.item-item.result in
    let rest = drop (c.loop-item.item-index + 1) xs in
    let here = step_at xs c.loop-item.item-index x c.loop-item-test.true c.item-item.is in
    sym (unit_past c.args.unit x rest (sym c.waits_at.ensures ∙ c.if-waits_at.false)) ∙ ap (fits_unit c.args.unit) (sym here) ∙ c.loop-item.invariant

pub unreachable-requires : goal.unreachable-requires
unreachable-requires c = c.requires (sym c.loop-item.invariant ∙ ap (fits_unit c.args.unit) (drop_all c.args.items.now c.loop-item.item-index (omega (arith, c.loop-item-test.false))))
