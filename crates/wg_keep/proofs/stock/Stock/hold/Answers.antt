use Rattle.std.proofs.Common.{◌≡◌, ◌∙◌, ℕ, length, ap, refl}
use Rattle.wg_keep.specs.declared.stock.Stock.{Stock}
use Rattle.wg_keep.proofs.Stocks.{changed_stock, hold_changes}
use Rattle.std.specs.Prelude.{nat_lt, slice_set}
use Rattle.wg_pick.specs.Order.{Waiting}
use Rattle.wg_slots.specs.SlotsOf.{slots_at, waiting_of}
use Rattle.wg_keep.proofs.stock.Stock.hold.Goals as goal

pub returns-clause-sound : goal.returns-clause-sound
returns-clause-sound c =
    let s = c.args.self.now in
    let t : Stock = record { shape = s.shape; slots = c.hold-slot.new.self; room = s.room; picker = c.set.new.self; bytes = s.bytes } in
    let picks : t.picker ≡ record s.picker { waits = slice_set s.picker.waits c.args.unit (nat_lt 0 (length (waiting_of (slots_at t.slots c.args.unit)))) } = c.set.ensures ∙ ap (λ (n : ℕ). (let w : Waiting = record s.picker { waits = slice_set s.picker.waits c.args.unit (nat_lt 0 n) } in w)) c.waiting-left.ensures in
    let d = hold_changes s t c.args.unit c.hold-slot.result c.requires.sound c.requires.unit c.hold-slot.ensures.holds c.hold-slot.ensures.others refl refl picks refl in
    changed_stock s t c.args.unit _ _ c.requires.sound c.requires.unit d
