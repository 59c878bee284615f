use Rattle.std.proofs.Common.{◌≡◌, ◌∙◌, ◌+◌, ◌∷◌, List, drop, ap, sym, arith}
use Rattle.std.specs.Prelude.{filter, slice_get}
use Rattle.wg_store.specs.declared.item.Item.{Item as ItemOf}
use Rattle.wg_store.specs.Items.{waits_item}
use Rattle.wg_store.proofs.Found.{drop_all, step_at, wait_past, wait_with}
use Rattle.wg_store.proofs.pendings.first_item.Goals as goal

pub returns-then-waits : goal.returns-then-waits
returns-then-waits c =
    let xs = c.args.entries.now in
    let x = c.item-item.result in
    let rest = drop (c.loop-item.item-index + 1) xs in
    let here = step_at xs c.loop-item.item-index x c.loop-item-test.true c.item-item.is in
    let whole : filter waits_item xs ≡ x ∷ filter waits_item rest = sym c.loop-item.invariant ∙ ap (filter waits_item) here ∙ wait_with x rest (sym c.waits.ensures ∙ c.if-waits.true) in
    sym (ap (λ (ys : List ItemOf). slice_get ys 0) whole)

pub loop-item-preserved : goal.loop-item-preserved
loop-item-preserved c =
    let xs = c.args.entries.now in
    let x = c.item-item.result in
    let rest = drop (c.loop-item.item-index + 1) xs in
    let here = step_at xs c.loop-item.item-index x c.loop-item-test.true c.item-item.is in
    sym (wait_past x rest (sym c.waits.ensures ∙ c.if-waits.false)) ∙ ap (filter waits_item) (sym here) ∙ c.loop-item.invariant

pub returns : goal.returns
returns c = sym (ap (λ (ys : List ItemOf). slice_get ys 0) (sym c.loop-item.invariant ∙ ap (filter waits_item) (drop_all c.args.entries.now c.loop-item.item-index (omega (arith, c.loop-item-test.false)))))
