use Rattle.std.proofs.Common.{◌≡◌, true, false, ap, sym, subst}
use Rattle.wg_words.specs.Each.{Each}
use Rattle.wg_machine.specs.Step.{has_number}
use Rattle.wg_store.specs.declared.item.Item.{Item}
use Rattle.wg_store.specs.Items.{CanCount, waits_item}
use Rattle.wg_hold.specs.Held.{Held}
use Rattle.wg_kept.proofs.Counting.{each_worded, put_counted}
use Rattle.wg_kept.proofs.Finding.{each_parts}
use Rattle.wg_kept.proofs.Settlings.{once_apart}
use Rattle.wg_kept.proofs.store.Store.settle.Goals as goal

pub count-requires-clause-apart : goal.count-requires-clause-apart
count-requires-clause-apart c = once_apart c.args.inputs.now c.requires.apart

pub count-requires-clause-can : goal.count-requires-clause-can
count-requires-clause-can c =
    let s = c.args.self.now in
    let P = CanCount c.args.inputs.now in
    subst (Each P) (sym c.write.ensures.entries) (each_worded P c.args.inputs.now c.args.shared s.entries (λ x w h. h) (each_parts P s.entries s.hold.items c.requires.can).0)

pub count-requires-2-clause-can : goal.count-requires-2-clause-can
count-requires-2-clause-can c =
    let s = c.args.self.now in
    let P = CanCount c.args.inputs.now in
    subst (Each P) (sym (ap (λ (h : Held). h.items) c.write.ensures.hold)) (each_worded P c.args.inputs.now c.args.shared s.hold.items (λ x w h. h) (each_parts P s.entries s.hold.items c.requires.can).1)

pub count-requires-2-clause-ends : goal.count-requires-2-clause-ends
count-requires-2-clause-ends c =
    let s = c.args.self.now in
    let P : Item → Type 0 = λ x. has_number c.args.inputs.now x.number ≡ true → x.opening.left ≡ 1 → waits_item x ≡ false in
    subst (Each P) (sym (ap (λ (h : Held). h.items) c.write.ensures.hold)) (each_worded P c.args.inputs.now c.args.shared s.hold.items (λ x w h. h) c.requires.ends)

pub put_all-requires : goal.put_all-requires
put_all-requires c =
    put_counted c.args.self.now.hold c.write.new.self.hold c.count-2.new.self c.args.next c.args.inputs.now c.args.shared c.args.sent c.requires.puts c.write.ensures.hold
    (record { items = c.count-2.ensures.items; shape = c.count-2.ensures.shape; room = c.count-2.ensures.room })
