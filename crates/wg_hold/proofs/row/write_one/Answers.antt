use Rattle.std.proofs.Common.{◌∙◌, length, refl, ap, sym}
use Rattle.std.specs.Prelude.{slice_set}
use Rattle.std.proofs.lemmas.Option.{slice_get_read}
use Rattle.wg_hold.specs.RowsOf.{if_left, worded}
use Rattle.wg_hold.proofs.Changes.{changes_at, changes_missing, named_at}
use Rattle.wg_hold.proofs.row.write_one.Goals as goal

pub returns-in_default : goal.returns-in_default
returns-in_default c = changes_missing c.args.number (worded c.args.words) c.args.items.now c.in_default.ensures.none

pub returns : goal.returns
returns c =
    let xs = c.args.items.now in
    let x = c.index-items-place.result in
    let there = slice_get_read xs (length xs) c.in-Some.place x refl c.in-Some.ensures.within c.index-items-place.is in
    let named = named_at c.args.number xs x (sym c.in-Some.ensures.found ∙ there) in
    ap (slice_set xs c.in-Some.place) (c.write_left.ensures ∙ ap (if_left (worded c.args.words)) (sym c.index-items-place.is)) ∙ changes_at c.args.number 0 (worded c.args.words) xs c.in-Some.place x c.requires there named
