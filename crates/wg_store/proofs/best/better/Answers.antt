use Rattle.std.proofs.Common.{◌≡◌, ◌∙◌, IsTrue, Bool, true, false, List, length, refl, sym, subst, take, Some}
use Rattle.std.proofs.lemmas.Option.{slice_get_read}
use Rattle.wg_store.specs.declared.item.Item.{Item as ItemOf}
use Rattle.wg_store.specs.Best.{CanTake, IsBestOf}
use Rattle.wg_store.proofs.Bests.{best_more, best_skips}
use Rattle.wg_store.proofs.Found.{take_more}
use Rattle.wg_store.proofs.best.better.Goals as goal

never : (b : Bool) → b ≡ false → IsTrue b → ⊥
never true e t = absurd (cc)
never false e t = absurd (cc)

pub returns-then-not-has_room : goal.returns-then-not-has_room
returns-then-not-has_room c =
    let xs = c.args.items.now in
    let x = c.index-items-place.result in
    let there = slice_get_read xs (length xs) c.args.place x refl c.requires.place c.index-items-place.is in
    subst (λ (ys : List ItemOf). IsBestOf c.args.shape.now c.args.room.now ys c.args.best) (sym (take_more xs c.args.place x there))
    (best_skips c.args.shape.now c.args.room.now (take c.args.place xs) x c.args.best (λ (can : CanTake c.args.room.now x). never c.has_room.result c.if-not-has_room.true (c.has_room.ensures.1 can.room)) c.requires.so_far)

pub returns : goal.returns
returns c =
    let xs = c.args.items.now in
    let x = c.index-items-place.result in
    let there = slice_get_read xs (length xs) c.args.place x refl c.requires.place c.index-items-place.is in
    let can : CanTake c.args.room.now x = record { waits = sym c.waits.ensures ∙ c.if-not-waits.false; room = c.has_room.ensures.0 c.if-not-has_room.false } in
    subst (λ (ys : List ItemOf). IsBestOf c.args.shape.now c.args.room.now ys (Some c.deeper.result)) (sym (take_more xs c.args.place x there))
    (best_more c.args.shape.now c.args.room.now (take c.args.place xs) x c.args.best c.deeper.result can c.requires.so_far c.deeper.ensures)
