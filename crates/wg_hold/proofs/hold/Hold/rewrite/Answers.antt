use Rattle.std.proofs.Common.{◌≡◌, ◌∙◌, Some, length, ap, sym, subst}
use Rattle.wg_machine.specs.Units.{words_at}
use Rattle.wg_store.specs.declared.item.Item.{Item as ItemOf}
use Rattle.wg_store.specs.Items.{item_in}
use Rattle.wg_hold.specs.Held.{Held, count_of}
use Rattle.wg_hold.specs.RowsOf.{RowsOf}
use Rattle.wg_hold.proofs.Holding.{Fits, count_worded, fits_of, fits_worded, same_hold}
use Rattle.wg_hold.proofs.hold.Hold.rewrite.Goals as goal

pub invariant_of-self : goal.invariant_of-self
invariant_of-self c =
    let i = c.self.inside in
    let n = c.args.number in
    let most = ap (λ (r : RowsOf). r.most) c.write.ensures in
    let units = ap (λ (r : RowsOf). r.units) c.write.ensures in
    let fit = subst (λ (h : Held). (x : ItemOf) → item_in n h.items ≡ Some x → length c.args.words ≡ words_at h.shape x.unit) (sym c.self.view_is) c.requires.words in
    let fits = subst (λ (r : RowsOf). Fits i.shape r.items) (sym c.write.ensures) (fits_worded i.shape n 0 c.args.words i.rows.items c.keeps_laws.ensures.rises fit (fits_of i.shape i.rows i.room i.bytes c.self.invariant)) in
    same_hold i.shape i.rows c.write.new.self i.room i.bytes c.self.invariant most units fits (λ v. ap (λ (r : RowsOf). count_of v r.items) c.write.ensures ∙ count_worded v n c.args.words i.rows.items)
