use Rattle.std.proofs.Common.{◌∙◌, length, refl, ap, sym, Some}
use Rattle.std.specs.Prelude.{slice_set}
use Rattle.std.proofs.lemmas.Option.{slice_get_read}
use Rattle.wg_store.specs.declared.item.Item.{Item as ItemOf}
use Rattle.wg_store.specs.Items.{with_counted}
use Rattle.wg_hold.specs.RowsOf.{if_left, unit_of_last}
use Rattle.wg_hold.proofs.Changes.{changes_at, changes_missing, last_left, last_missing, named_at}
use Rattle.wg_hold.proofs.row.count_one.Goals as goal

pub returns-in_default-clause-items : goal.returns-in_default-clause-items
returns-in_default-clause-items c = changes_missing c.args.number with_counted c.args.items.now c.in_default.ensures.none

pub returns-in_default-clause-unit : goal.returns-in_default-clause-unit
returns-in_default-clause-unit c = last_missing c.args.number c.args.items.now c.requires c.in_default.ensures.none

pub returns-clause-items : goal.returns-clause-items
returns-clause-items c =
    let xs = c.args.items.now in
    let x = c.index-items-place.result in
    let there = slice_get_read xs (length xs) c.in-Some.place x refl c.in-Some.ensures.within c.index-items-place.is in
    let named = named_at c.args.number xs x (sym c.in-Some.ensures.found ∙ there) in
    ap (slice_set xs c.in-Some.place) (c.count_left.ensures.item ∙ ap (if_left with_counted) (sym c.index-items-place.is)) ∙ changes_at c.args.number 0 with_counted xs c.in-Some.place x c.requires there named

pub returns-clause-unit : goal.returns-clause-unit
returns-clause-unit c =
    let xs = c.args.items.now in
    let x = c.index-items-place.result in
    let there = slice_get_read xs (length xs) c.in-Some.place x refl c.in-Some.ensures.within c.index-items-place.is in
    c.count_left.ensures.unit ∙ ap (λ (z : ItemOf). unit_of_last (Some z)) (sym c.index-items-place.is) ∙ last_left c.args.number xs x c.requires (sym c.in-Some.ensures.found ∙ there)
