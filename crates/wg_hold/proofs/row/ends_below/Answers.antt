use Rattle.std.proofs.Common.{◌-◌, ◌<◌, length, refl, sym, subst, arith}
use Rattle.std.proofs.lemmas.Option.{slice_get_read}
use Rattle.wg_store.specs.declared.item.Item.{Item as ItemOf}
use Rattle.wg_hold.proofs.Changes.{each_empty, last_below, true_lt}
use Rattle.wg_hold.proofs.row.ends_below.Goals as goal

pub returns-then-count-eq0 : goal.returns-then-count-eq0
returns-then-count-eq0 c = λ t. each_empty (λ (x : ItemOf). x.number < c.args.number) c.args.items.now c.if-count-eq0.true

pub returns : goal.returns
returns c = λ t.
    let xs = c.args.items.now in
    let x = c.index-items-count.result in
    let some = c.if-count-eq0.false in
    let there = slice_get_read xs (length xs) (length xs - 1) x refl (omega (arith, some)) c.index-items-count.is in
    last_below 0 c.args.number xs (length xs - 1) x c.requires there (omega (arith, some)) (subst (λ (z : ItemOf). z.number < c.args.number) (sym c.index-items-count.is) (true_lt _ _ t))
