use Rattle.std.proofs.Common.{◌∙◌, ◌+◌, ◌<◌, ◌∷◌, ◌++◌, [], List, ap, sym, subst}
use Rattle.std.specs.Prelude.{filter, vec_capacity}
use Rattle.wg_store.specs.declared.item.Item.{Item as ItemOf}
use Rattle.wg_store.specs.Items.{has_left}
use Rattle.wg_hold.specs.RowsOf.{RowsOf}
use Rattle.wg_hold.proofs.Changes.{left_push, moved_rows, placed_left, pushed_rows}
use Rattle.wg_hold.proofs.rows.Rows.push.Goals as goal

pub invariant_of-self : goal.invariant_of-self
invariant_of-self c =
    let i = c.self.inside in
    let x = c.args.item in
    let within = subst (λ (v : RowsOf). x.unit < v.units) (sym c.self.view_is) c.requires.unit in
    moved_rows (c.make_place.new.items.items ++ x ∷ []) c.push_reserved.new.self.items i.units (i.live + 1) i.most (vec_capacity i.items) (vec_capacity c.push_reserved.new.self) c.push_reserved.ensures.items (c.push_reserved.ensures.capacity ∙ c.make_place.ensures.capacity)
    (pushed_rows i.items.items c.make_place.new.items.items x i.units i.live i.most (vec_capacity i.items) c.make_place.ensures.items c.make_place.ensures.above c.requires.left within c.self.invariant)

pub returns : goal.returns
returns c =
    let i = c.self.inside in
    let x = c.args.item in
    ap (λ (xs : List ItemOf). (let v : RowsOf = record { items = xs; most = i.most; units = i.units } in v)) (ap (filter has_left) c.push_reserved.ensures.items ∙ left_push c.make_place.new.items.items x c.requires.left ∙ ap (λ (ys : List ItemOf). ys ++ x ∷ []) (placed_left i.items.items c.make_place.new.items.items c.make_place.ensures.items))
    ∙ ap (λ (v : RowsOf). (let w : RowsOf = record v { items = v.items ++ x ∷ [] } in w)) c.self.view_is
