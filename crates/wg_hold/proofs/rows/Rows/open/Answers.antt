use Rattle.std.proofs.Common.{◌∙◌, ◌∷◌, [], List, ap}
use Rattle.std.specs.Prelude.{filter, vec_capacity}
use Rattle.wg_store.specs.declared.item.Item.{Item as ItemOf}
use Rattle.wg_store.specs.Items.{all_opened, has_left, with_opened}
use Rattle.wg_hold.specs.RowsOf.{RowsOf, changed}
use Rattle.wg_hold.proofs.Changes.{moved_rows, opened_left, opened_rows}
use Rattle.wg_hold.proofs.rows.Rows.open.Goals as goal

pub invariant_of-self : goal.invariant_of-self
invariant_of-self c =
    let i = c.self.inside in
    moved_rows (changed c.args.number with_opened i.items.items) c.open_in.new.items.items i.units i.live i.most (vec_capacity i.items) (vec_capacity c.open_in.new.items) c.open_in.ensures.items c.open_in.ensures.capacity
    (opened_rows c.args.number i.items.items i.units i.live i.most (vec_capacity i.items) c.self.invariant)

pub returns : goal.returns
returns c =
    let i = c.self.inside in
    ap (λ (xs : List ItemOf). (let v : RowsOf = record { items = xs; most = i.most; units = i.units } in v)) (ap (filter has_left) c.open_in.ensures.items ∙ opened_left c.args.number i.items.items)
    ∙ ap (λ (v : RowsOf). (let w : RowsOf = record v { items = all_opened (c.args.number ∷ []) v.items } in w)) c.self.view_is
