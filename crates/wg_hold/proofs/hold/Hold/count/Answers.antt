use Rattle.std.proofs.Common.{refl, true, get_or, ◌≡◌, ◌∙◌, ◌∷◌, [], List, ap, sym, subst}
use Rattle.std.specs.Prelude.{filter}
use Rattle.wg_words.specs.Each.{Each}
use Rattle.wg_room.specs.Counts.{Counts}
use Rattle.wg_store.specs.declared.item.Item.{Item as ItemOf}
use Rattle.wg_store.specs.Items.{all_counted, has_left}
use Rattle.wg_hold.specs.Held.{Held}
use Rattle.wg_hold.specs.RowsOf.{EndsWith}
use Rattle.wg_hold.proofs.Counting.{counts_next, counts_nothing, ends_next}
use Rattle.std.proofs.lemmas.Option.{slice_get-get_or}
use Rattle.wg_hold.proofs.hold.Hold.count.Goals as goal

pub loop-number-init : goal.loop-number-init
loop-number-init c =
    let left = subst (λ (h : Held). Each (λ (x : ItemOf). has_left x ≡ true) h.items) c.self.view_is c.keeps_laws.ensures.left in
    (counts_nothing c.args.self.now.items left, refl, refl)

pub count_one-requires : goal.count_one-requires
count_one-requires c =
    let ns = c.args.inputs.now in
    let i = c.loop-number.number-index in
    let there = slice_get-get_or ns i 0 c.loop-number-test.true in
    subst (λ (xs : List ItemOf). Each (EndsWith (get_or ns i 0)) xs) (sym c.loop-number.invariant.0) (ends_next ns i (get_or ns i 0) c.args.self.now.items c.requires.apart there c.requires.ends)

pub loop-number-preserved : goal.loop-number-preserved
loop-number-preserved c =
    let ns = c.args.inputs.now in
    let i = c.loop-number.number-index in
    let there = slice_get-get_or ns i 0 c.loop-number-test.true in
    let left = subst (λ (h : Held). Each (λ (x : ItemOf). has_left x ≡ true) h.items) c.self.view_is c.keeps_laws.ensures.left in (
      c.count_one.ensures.items ∙ ap (λ (xs : List ItemOf). filter has_left (all_counted (get_or ns i 0 ∷ []) xs)) c.loop-number.invariant.0 ∙ counts_next ns i (get_or ns i 0) c.args.self.now.items c.requires.apart there left,
      c.count_one.ensures.shape ∙ c.loop-number.invariant.1,
      c.count_one.ensures.room ∙ ap (λ (r : Counts). (let t : Counts = record r { used = c.count_one.new.self.room.used } in t)) c.loop-number.invariant.2,
    )
