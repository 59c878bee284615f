use Rattle.std.proofs.Common.{◌+◌, ◌≤◌, drop, refl, arith}
use Rattle.wg_store.specs.declared.item.Item.{Item}
use Rattle.wg_store.specs.Items.{with_counted}
use Rattle.wg_entries.proofs.Placed.{changes_can, changes_first, changes_last, changes_more, next_at, none_left}
use Rattle.wg_entries.proofs.changes.count_all.Goals as goal

pub loop-number-init : goal.loop-number-init
loop-number-init c = changes_first (λ (x : Item). 1 ≤ x.opening.left) with_counted c.args.numbers.now c.args.items.now c.requires.places c.requires.can c.requires.apart

pub count_one-requires-clause-places : goal.count_one-requires-clause-places
count_one-requires-clause-places c = c.loop-number.invariant.places

pub count_one-requires-clause-can : goal.count_one-requires-clause-can
count_one-requires-clause-can c =
    let ns = c.args.numbers.now in
    let i = c.loop-number.number-index in
    changes_can (λ (x : Item). 1 ≤ x.opening.left) with_counted ns (drop i ns) _ (drop (i + 1) ns) c.args.items.now c.loop-number.items (next_at ns i _ c.loop-number-test.true) c.loop-number.invariant

pub loop-number-preserved : goal.loop-number-preserved
loop-number-preserved c =
    let ns = c.args.numbers.now in
    let i = c.loop-number.number-index in
    changes_more (λ (x : Item). 1 ≤ x.opening.left) with_counted ns (drop i ns) _ (drop (i + 1) ns) c.args.items.now c.loop-number.items c.count_one.new.items (λ x. refl) (next_at ns i _ c.loop-number-test.true) c.count_one.ensures c.loop-number.invariant

pub returns : goal.returns
returns c =
    let ns = c.args.numbers.now in
    let i = c.loop-number.number-index in
    changes_last (λ (x : Item). 1 ≤ x.opening.left) with_counted ns (drop i ns) c.args.items.now c.loop-number.items (none_left ns i (omega (arith, c.loop-number-test.false))) c.loop-number.invariant
