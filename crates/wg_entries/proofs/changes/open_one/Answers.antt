use Rattle.std.proofs.Common.{◌∙◌, ◌+◌, ◌<◌, length, refl, ap, subst, sym, arith}
use Rattle.std.specs.Prelude.{◌^◌, slice_set}
use Rattle.std.proofs.lemmas.Option.{slice_get_read}
use Rattle.wg_store.specs.declared.item.Item.{Item}
use Rattle.wg_store.specs.Items.{with_opened}
use Rattle.wg_entries.proofs.Placed.{by_first, by_past_first, may_first}
use Rattle.wg_entries.proofs.changes.open_one.Goals as goal

pub returns-then-place-items : goal.returns-then-place-items
returns-then-place-items c = by_past_first with_opened c.args.number c.args.items.now c.requires.places (omega (arith, c.if-place-items.true))

pub open_item-requires : goal.open_item-requires
open_item-requires c =
    let xs = c.args.items.now in
    let x = c.index-items-place.result in
    let there = slice_get_read xs (length xs) c.args.number x refl (omega (arith, c.if-place-items.false)) c.index-items-place.is in
    subst (λ (x : Item). x.opening.opened + 1 < 2 ^ 32) c.index-items-place.is (may_first (λ (x : Item). x.opening.opened + 1 < 2 ^ 32) c.args.number xs x c.requires.places there c.requires.can)

pub returns : goal.returns
returns c =
    let xs = c.args.items.now in
    let x = c.index-items-place.result in
    let there = slice_get_read xs (length xs) c.args.number x refl (omega (arith, c.if-place-items.false)) c.index-items-place.is in
    ap (slice_set xs c.args.number) (c.open_item.ensures ∙ ap with_opened (sym c.index-items-place.is)) ∙ by_first with_opened c.args.number xs x c.requires.places there
