use Rattle.std.proofs.Common.{◌∙◌, ◌+◌, ◌∷◌, [], List, ℕ, Option, ap, sym, subst}
use Rattle.std.specs.Prelude.{filter, vec_capacity}
use Rattle.wg_words.specs.Each.{Each}
use Rattle.wg_store.specs.declared.item.Item.{Item as ItemOf}
use Rattle.wg_store.specs.Items.{all_counted, has_left, with_counted}
use Rattle.wg_hold.specs.Held.{count_of}
use Rattle.wg_hold.specs.RowsOf.{EndsWith, RowsOf, changed, gone_at, gone_size}
use Rattle.wg_hold.proofs.Changes.{counted_rows, counts_left, fewer_rows, moved_rows}
use Rattle.wg_hold.proofs.rows.Rows.count.Goals as goal

pub invariant_of-self : goal.invariant_of-self
invariant_of-self c =
    let i = c.self.inside in
    let ends = subst (λ (v : RowsOf). Each (EndsWith c.args.number) v.items) (sym c.self.view_is) c.requires in
    let less = ap (λ (o : Option ℕ). c.less-self-inside.result + gone_size o) (sym c.count_in-unit.ensures.unit) ∙ c.less-self-inside.ensures in
    moved_rows (changed c.args.number with_counted i.items.items) c.count_in-unit.new.items.items i.units c.less-self-inside.result i.most (vec_capacity i.items) (vec_capacity c.count_in-unit.new.items) c.count_in-unit.ensures.items c.count_in-unit.ensures.capacity
    (counted_rows c.args.number i.items.items i.units i.live i.most (vec_capacity i.items) c.less-self-inside.result c.self.invariant ends less)

pub returns-clause-items : goal.returns-clause-items
returns-clause-items c =
    let i = c.self.inside in
    ap (λ (xs : List ItemOf). (let v : RowsOf = record { items = xs; most = i.most; units = i.units } in v)) (ap (filter has_left) c.count_in-unit.ensures.items ∙ counts_left c.args.number i.items.items)
    ∙ ap (λ (v : RowsOf). (let w : RowsOf = record v { items = filter has_left (all_counted (c.args.number ∷ []) v.items) } in w)) c.self.view_is

pub returns-clause-fewer : goal.returns-clause-fewer
returns-clause-fewer c = λ v.
    let i = c.self.inside in
    ap (λ (xs : List ItemOf). count_of v (filter has_left xs) + gone_at v c.count_in-unit.result) c.count_in-unit.ensures.items
    ∙ ap (λ (o : Option ℕ). count_of v (filter has_left (changed c.args.number with_counted i.items.items)) + gone_at v o) c.count_in-unit.ensures.unit
    ∙ fewer_rows v c.args.number i.items.items c.self.invariant.rises
    ∙ ap (λ (r : RowsOf). count_of v r.items) c.self.view_is
