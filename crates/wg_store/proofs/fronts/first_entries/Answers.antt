use Rattle.std.proofs.Common.{◌≡◌, ◌∙◌, ◌+◌, ◌==◌, ◌∷◌, List, ℕ, true, false, drop, ap, sym, subst, arith}
use Rattle.std.proofs.lemmas.Bool.Decides.{nat_tests}
use Rattle.wg_store.specs.declared.item.Item.{Item as ItemOf}
use Rattle.wg_store.specs.Items.{fits_next}
use Rattle.wg_store.proofs.Found.{Goes, drop_all, goes_full, goes_out, goes_past, goes_with, next_past, next_stops, next_with, step_at}
use Rattle.wg_store.proofs.fronts.first_entries.Goals as goal

pub returns-then-len-most : goal.returns-then-len-most
returns-then-len-most c = goes_full (fits_next c.args.unit) c.args.most c.args.items.now (drop c.loop-item.item-index c.args.items.now) c.loop-item.numbers (sym c.len.ensures ∙ c.if-len-most.true) c.loop-item.invariant

pub loop-item-preserved-then-not-waits : goal.loop-item-preserved-then-not-waits
loop-item-preserved-then-not-waits c =
    let xs = c.args.items.now in
    let x = c.item-item.result in
    let rest = drop (c.loop-item.item-index + 1) xs in
    let here = step_at xs c.loop-item.item-index x c.loop-item-test.true c.item-item.is in
    goes_past (fits_next c.args.unit) c.args.most xs x rest c.loop-item.numbers (next_past c.args.unit x rest (sym c.waits.ensures ∙ c.if-not-waits.true))
    (subst (λ (ys : List ItemOf). Goes (fits_next c.args.unit) c.args.most xs ys c.loop-item.numbers) here c.loop-item.invariant)

pub returns-then-item-unit : goal.returns-then-item-unit
returns-then-item-unit c =
    let xs = c.args.items.now in
    let x = c.item-item.result in
    let rest = drop (c.loop-item.item-index + 1) xs in
    let here = step_at xs c.loop-item.item-index x c.loop-item-test.true c.item-item.is in
    let other = c.if-item-unit.true in
    let differs : (x.unit == c.args.unit) ≡ false = grind (arith, nat_tests) in
    goes_out (fits_next c.args.unit) c.args.most xs (x ∷ rest) c.loop-item.numbers (next_stops c.args.unit x rest (sym c.waits.ensures ∙ c.if-not-waits.false) differs)
    (subst (λ (ys : List ItemOf). Goes (fits_next c.args.unit) c.args.most xs ys c.loop-item.numbers) here c.loop-item.invariant)

pub loop-item-preserved : goal.loop-item-preserved
loop-item-preserved c =
    let xs = c.args.items.now in
    let x = c.item-item.result in
    let rest = drop (c.loop-item.item-index + 1) xs in
    let here = step_at xs c.loop-item.item-index x c.loop-item-test.true c.item-item.is in
    let few = c.loop-item.invariant.few in
    let other = c.if-len-most.false in
    let long = c.len.ensures in
    let unit = c.if-item-unit.false in
    let same : (x.unit == c.args.unit) ≡ true = grind (arith, nat_tests) in
    subst (λ (ns : List ℕ). Goes (fits_next c.args.unit) c.args.most xs rest ns) (sym c.in_ok-push.ensures.ok)
    (goes_with (fits_next c.args.unit) c.args.most xs x rest c.loop-item.numbers (next_with c.args.unit x rest (sym c.waits.ensures ∙ c.if-not-waits.false) same) (omega (arith, few, other, long))
    (subst (λ (ys : List ItemOf). Goes (fits_next c.args.unit) c.args.most xs ys c.loop-item.numbers) here c.loop-item.invariant))

pub returns : goal.returns
returns c = goes_out (fits_next c.args.unit) c.args.most c.args.items.now (drop c.loop-item.item-index c.args.items.now) c.loop-item.numbers (ap (fits_next c.args.unit) (drop_all c.args.items.now c.loop-item.item-index (omega (arith, c.loop-item-test.false)))) c.loop-item.invariant
