use Rattle.std.proofs.Common.{◌∙◌, ◌+◌, List, ℕ, drop, ap, sym, subst, arith}
use Rattle.wg_store.specs.declared.item.Item.{Item as ItemOf}
use Rattle.wg_store.specs.Items.{fits_unit}
use Rattle.wg_store.proofs.Found.{Goes, drop_all, goes_full, goes_out, goes_past, goes_with, step_at, unit_past, unit_with}
use Rattle.wg_store.proofs.fronts.first_waiting.Goals as goal

pub returns-then-len-most : goal.returns-then-len-most
returns-then-len-most c = goes_full (fits_unit c.args.unit) c.args.most c.args.items.now (drop c.loop-item.item-index c.args.items.now) c.loop-item.numbers (sym c.len.ensures ∙ c.if-len-most.true) c.loop-item.invariant

pub loop-item-preserved-then-not-waits_at : goal.loop-item-preserved-then-not-waits_at
loop-item-preserved-then-not-waits_at c =
    let xs = c.args.items.now in
    let x = c.item-item.result in
    let rest = drop (c.loop-item.item-index + 1) xs in
    let here = step_at xs c.loop-item.item-index x c.loop-item-test.true c.item-item.is in
    goes_past (fits_unit c.args.unit) c.args.most xs x rest c.loop-item.numbers (unit_past c.args.unit x rest (sym c.waits_at.ensures ∙ c.if-not-waits_at.true))
    (subst (λ (ys : List ItemOf). Goes (fits_unit c.args.unit) c.args.most xs ys c.loop-item.numbers) here c.loop-item.invariant)

pub loop-item-preserved : goal.loop-item-preserved
loop-item-preserved c =
    let xs = c.args.items.now in
    let x = c.item-item.result in
    let rest = drop (c.loop-item.item-index + 1) xs in
    let here = step_at xs c.loop-item.item-index x c.loop-item-test.true c.item-item.is in
    let few = c.loop-item.invariant.few in
    let other = c.if-len-most.false in
    let long = c.len.ensures in
    subst (λ (ns : List ℕ). Goes (fits_unit c.args.unit) c.args.most xs rest ns) (sym c.in_ok-push.ensures.ok)
    (goes_with (fits_unit c.args.unit) c.args.most xs x rest c.loop-item.numbers (unit_with c.args.unit x rest (sym c.waits_at.ensures ∙ c.if-not-waits_at.false)) (omega (arith, few, other, long))
    (subst (λ (ys : List ItemOf). Goes (fits_unit c.args.unit) c.args.most xs ys c.loop-item.numbers) here c.loop-item.invariant))

pub returns : goal.returns
returns c = goes_out (fits_unit c.args.unit) c.args.most c.args.items.now (drop c.loop-item.item-index c.args.items.now) c.loop-item.numbers (ap (fits_unit c.args.unit) (drop_all c.args.items.now c.loop-item.item-index (omega (arith, c.loop-item-test.false)))) c.loop-item.invariant
