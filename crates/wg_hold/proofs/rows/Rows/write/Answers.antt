use Rattle.std.proofs.Common.{◌∙◌, List, ap}
use Rattle.std.specs.Prelude.{filter, vec_capacity}
use Rattle.wg_store.specs.declared.item.Item.{Item as ItemOf}
use Rattle.wg_store.specs.Items.{has_left, with_words}
use Rattle.wg_hold.specs.RowsOf.{RowsOf, changed_words}
use Rattle.wg_hold.proofs.Changes.{moved_rows, worded_left, worded_rows}
use Rattle.wg_hold.proofs.rows.Rows.write.Goals as goal

pub invariant_of-self : goal.invariant_of-self
invariant_of-self c =
    let i = c.self.inside in
    moved_rows (changed_words c.args.number c.args.words i.items.items) c.write_in.new.items.items i.units i.live i.most (vec_capacity i.items) (vec_capacity c.write_in.new.items) c.write_in.ensures.items c.write_in.ensures.capacity
    (worded_rows c.args.number c.args.words i.items.items i.units i.live i.most (vec_capacity i.items) c.self.invariant)

pub returns : goal.returns
returns c =
    let i = c.self.inside in
    ap (λ (xs : List ItemOf). (let v : RowsOf = record { items = xs; most = i.most; units = i.units } in v)) (ap (filter has_left) c.write_in.ensures.items ∙ worded_left c.args.number c.args.words i.items.items)
    ∙ ap (λ (v : RowsOf). (let w : RowsOf = record v { items = with_words c.args.number c.args.words v.items } in w)) c.self.view_is
