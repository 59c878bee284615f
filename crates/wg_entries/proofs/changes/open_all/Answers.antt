use Rattle.std.proofs.Common.{◌+◌, ◌<◌, drop, refl, arith}
use Rattle.std.specs.Prelude.{◌^◌}
use Rattle.wg_store.specs.declared.item.Item.{Item}
use Rattle.wg_store.specs.Items.{with_opened}
use Rattle.wg_entries.proofs.Placed.{changes_can, changes_first, changes_last, changes_more, next_at, none_left}
use Rattle.wg_entries.proofs.changes.open_all.Goals as goal

pub loop-number-init : goal.loop-number-init
loop-number-init c = changes_first (λ (x : Item). x.opening.opened + 1 < 2 ^ 32) with_opened c.args.numbers.now c.args.items.now c.requires.places c.requires.can c.requires.apart

pub open_one-requires-clause-places : goal.open_one-requires-clause-places
open_one-requires-clause-places c = c.loop-number.invariant.places

pub open_one-requires-clause-can : goal.open_one-requires-clause-can
open_one-requires-clause-can c =
    let ns = c.args.numbers.now in
    let i = c.loop-number.number-index in
    changes_can (λ (x : Item). x.opening.opened + 1 < 2 ^ 32) with_opened ns (drop i ns) _ (drop (i + 1) ns) c.args.items.now c.loop-number.items (next_at ns i _ c.loop-number-test.true) c.loop-number.invariant

pub loop-number-preserved : goal.loop-number-preserved
loop-number-preserved c =
    let ns = c.args.numbers.now in
    let i = c.loop-number.number-index in
    changes_more (λ (x : Item). x.opening.opened + 1 < 2 ^ 32) with_opened ns (drop i ns) _ (drop (i + 1) ns) c.args.items.now c.loop-number.items c.open_one.new.items (λ x. refl) (next_at ns i _ c.loop-number-test.true) c.open_one.ensures c.loop-number.invariant

pub returns : goal.returns
returns c =
    let ns = c.args.numbers.now in
    let i = c.loop-number.number-index in
    changes_last (λ (x : Item). x.opening.opened + 1 < 2 ^ 32) with_opened ns (drop i ns) c.args.items.now c.loop-number.items (none_left ns i (omega (arith, c.loop-number-test.false))) c.loop-number.invariant
