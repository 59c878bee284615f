use Rattle.std.proofs.Common.{◌≡◌, ◌∙◌, ◌<◌, List, None, ap, sym, subst, length, refl, true, false}
use Rattle.std.specs.Prelude.{slice_get}
use Rattle.std.proofs.lemmas.Option.{slice_get_read}
use Rattle.wg_store.specs.declared.item.Item.{Item as ItemOf}
use Rattle.wg_store.specs.Items.{item_in}
use Rattle.wg_hold.specs.RowsOf.{RowsOf}
use Rattle.wg_hold.proofs.Changes.{seen_here, seen_missing}
use Rattle.wg_hold.proofs.rows.Rows.get.Goals as goal

pub returns-in_default : goal.returns-in_default
returns-in_default c =
    let none = subst (λ (ys : List ItemOf). item_in c.args.number ys ≡ None) c.deref.ensures.value c.in_default.ensures.none in
    seen_missing c.args.number c.self.inside.items.items c.self.invariant.rises none ∙ ap (λ (v : RowsOf). item_in c.args.number v.items) c.self.view_is

pub returns-then-not-has_left : goal.returns-then-not-has_left
returns-then-not-has_left c =
    let xs = c.self.inside.items.items in
    let x = c.index-item.result.now in
    let within = subst (λ (ys : List ItemOf). c.in-Some.place < length ys) c.deref.ensures.value c.in-Some.ensures.within in
    let there = slice_get_read xs (length xs) c.in-Some.place x refl within c.index-item.ensures in
    let found = subst (λ (ys : List ItemOf). slice_get ys c.in-Some.place ≡ item_in c.args.number ys) c.deref.ensures.value c.in-Some.ensures.found in
    seen_here c.args.number xs x false c.self.invariant.rises (sym found ∙ there) (sym c.has_left.ensures ∙ c.if-not-has_left.true) ∙ ap (λ (v : RowsOf). item_in c.args.number v.items) c.self.view_is

pub returns : goal.returns
returns c =
    let xs = c.self.inside.items.items in
    let x = c.index-item.result.now in
    let within = subst (λ (ys : List ItemOf). c.in-Some.place < length ys) c.deref.ensures.value c.in-Some.ensures.within in
    let there = slice_get_read xs (length xs) c.in-Some.place x refl within c.index-item.ensures in
    let found = subst (λ (ys : List ItemOf). slice_get ys c.in-Some.place ≡ item_in c.args.number ys) c.deref.ensures.value c.in-Some.ensures.found in
    seen_here c.args.number xs x true c.self.invariant.rises (sym found ∙ there) (sym c.has_left.ensures ∙ c.if-not-has_left.false) ∙ ap (λ (v : RowsOf). item_in c.args.number v.items) c.self.view_is
