use Rattle.std.proofs.Common.{◌≡◌, ◌∙◌, ◌<◌, ◌^◌, List, ℕ, length, ap, sym, subst, arith}
use Rattle.std.specs.Prelude.{replicate, slice_index}
use Rattle.wg_machine.specs.Need.{need}
use Rattle.wg_room.specs.Counts.{need_at}
use Rattle.wg_hold.specs.Parts.{IsHold, slots_in}
use Rattle.wg_hold.specs.RowsOf.{RowsOf}
use Rattle.wg_hold.proofs.Holding.{new_hold}
use Rattle.wg_hold.proofs.hold.Hold.new.Goals as goal

pub invariant_of-result : goal.invariant_of-result
invariant_of-result c =
    let shape = c.args.shape in
    let room = c.in_ok-room.room in
    let bounds = c.in_ok-room.ensures.bounds in
    let small : (v : ℕ) → slice_index c.args.counts.now v < 2 ^ 32 = λ v. (let h = c.type_inv.counts v in omega (arith, h)) in
    let slots = ap slots_in bounds in
    let total = c.in_ok-total.ensures in
    subst (λ (r : RowsOf). IsHold shape r room 0) (sym c.in_ok-rows.ensures)
    (new_hold shape _ _ room c.requires.good (ap (λ (l : List ℕ). length l) bounds ∙ c.requires.count) (c.in_ok-room.ensures.used ∙ ap (λ (l : List ℕ). replicate (length l) 0) (sym bounds))
    (subst (λ (l : List ℕ). (v : ℕ) → slice_index l v < 2 ^ 32) (sym bounds) small)
    (subst (λ (l : List ℕ). (u v : ℕ) → v < length l → need_at room u v ≡ need shape u v) (sym bounds) c.in_ok-room.ensures.needs)
    (subst (λ (l : List ℕ). (u v : ℕ) → 0 < need_at room u v → v < length l) (sym bounds) c.in_ok-room.ensures.within)
    (omega (arith, slots, total))
    (let units = ap length c.as_slice.ensures in units))
