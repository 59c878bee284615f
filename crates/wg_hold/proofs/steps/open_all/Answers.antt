use Rattle.std.proofs.Common.{◌∙◌, ◌∷◌, [], List, ap, sym, subst, get_or}
use Rattle.std.proofs.lemmas.Option.{slice_get-get_or}
use Rattle.wg_words.specs.Each.{Each}
use Rattle.wg_store.specs.declared.item.Item.{Item as ItemOf}
use Rattle.wg_store.specs.Items.{CanOpen, all_opened}
use Rattle.wg_hold.specs.RowsOf.{RowsOf}
use Rattle.wg_hold.proofs.Opens.{can_next, opened_nothing, opens_next}
use Rattle.wg_hold.proofs.steps.open_all.Goals as goal

pub loop-number-init : goal.loop-number-init
loop-number-init c = ap (λ (xs : List ItemOf). (let r : RowsOf = record c.args.rows.now { items = xs } in r)) (sym (opened_nothing c.args.rows.now.items))

pub open-requires : goal.open-requires
open-requires c =
    let ns = c.args.numbers.now in
    let i = c.loop-number.number-index in
    let there = slice_get-get_or ns i 0 c.loop-number-test.true in
    subst (λ (r : RowsOf). Each (CanOpen (get_or ns i 0 ∷ [])) r.items) (sym c.loop-number.invariant) (can_next ns i (get_or ns i 0) c.args.rows.now.items c.requires.apart there c.requires.can)

pub loop-number-preserved : goal.loop-number-preserved
loop-number-preserved c =
    let ns = c.args.numbers.now in
    let i = c.loop-number.number-index in
    let there = slice_get-get_or ns i 0 c.loop-number-test.true in
    c.open.ensures
    ∙ ap (λ (r : RowsOf). (let t : RowsOf = record r { items = all_opened (get_or ns i 0 ∷ []) r.items } in t)) c.loop-number.invariant
    ∙ ap (λ (xs : List ItemOf). (let r : RowsOf = record c.args.rows.now { items = xs } in r)) (opens_next ns i (get_or ns i 0) c.args.rows.now.items c.requires.apart there)
