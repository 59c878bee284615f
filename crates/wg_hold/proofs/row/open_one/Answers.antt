use Rattle.std.proofs.Common.{◌≡◌, ◌∙◌, ◌+◌, ◌<◌, ◌^◌, true, length, refl, ap, sym, subst}
use Rattle.std.specs.Prelude.{slice_set}
use Rattle.std.proofs.lemmas.Option.{slice_get_read}
use Rattle.wg_store.specs.declared.item.Item.{Item as ItemOf}
use Rattle.wg_store.specs.Items.{has_left, with_opened}
use Rattle.wg_hold.specs.RowsOf.{if_left}
use Rattle.wg_hold.proofs.Changes.{can_at, changes_at, changes_missing, named_at}
use Rattle.wg_hold.proofs.row.open_one.Goals as goal

pub returns-in_default : goal.returns-in_default
returns-in_default c = changes_missing c.args.number with_opened c.args.items.now c.in_default.ensures.none

pub open_left-requires : goal.open_left-requires
open_left-requires c =
    let xs = c.args.items.now in
    let x = c.index-items-place.result in
    let there = slice_get_read xs (length xs) c.in-Some.place x refl c.in-Some.ensures.within c.index-items-place.is in
    let named = named_at c.args.number xs x (sym c.in-Some.ensures.found ∙ there) in
    subst (λ (z : ItemOf). has_left z ≡ true → z.opening.opened + 1 < 2 ^ 32) c.index-items-place.is (λ l. can_at c.args.number xs c.in-Some.place x there named c.requires.can l)

pub returns : goal.returns
returns c =
    let xs = c.args.items.now in
    let x = c.index-items-place.result in
    let there = slice_get_read xs (length xs) c.in-Some.place x refl c.in-Some.ensures.within c.index-items-place.is in
    let named = named_at c.args.number xs x (sym c.in-Some.ensures.found ∙ there) in
    ap (slice_set xs c.in-Some.place) (c.open_left.ensures ∙ ap (if_left with_opened) (sym c.index-items-place.is)) ∙ changes_at c.args.number 0 with_opened xs c.in-Some.place x c.requires.rises there named
