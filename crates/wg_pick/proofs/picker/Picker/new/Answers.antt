use Rattle.std.proofs.Common.{◌≡◌, ℕ, List, length, ap, ◌∙◌, arith}
use Rattle.std.specs.Int.{div_ceil}
use Rattle.std.proofs.lemmas.List.{length-map}
use Rattle.wg_machine.specs.declared.shape.Unit.{Unit}
use Rattle.wg_pick.proofs.Rows.{new_row, new_waits, same_waiting}
use Rattle.wg_pick.proofs.picker.Picker.new.Goals as goal

pub invariant_of-result : goal.invariant_of-result
invariant_of-result c =
    let order = rw c.deref.ensures.value at c.in_ok-order.ensures in
    let placed = rw c.deref-2.ensures.value at c.in_ok-places.ensures.placed in
    let count = rw c.deref-2.ensures.value at c.in_ok-places.ensures.count in
    let depths = rw c.as_slice-units.ensures at c.in_ok-depths.ensures in
    let flags = rw c.as_slice-units.ensures at c.in_ok-flags.ensures in
    let n = length c.args.shape.now.units in
    let long : length c.in_ok-depths.depths.items ≡ n = ap (λ (xs : List ℕ). length xs) depths ∙ length-map c.args.shape.now.units (λ (u : Unit). u.depth) in
    rw flags (new_row c.in_ok-depths.depths.items c.in_ok-order.order.items c.in_ok-places.places.items (div_ceil n 64) (omega (arith, long, c.requires)) order count placed
    (omega (arith, long)) (omega (arith, c.requires)))

pub returns : goal.returns
returns c =
    let order = rw c.deref.ensures.value at c.in_ok-order.ensures in
    let count = rw c.deref-2.ensures.value at c.in_ok-places.ensures.count in
    let depths = rw c.as_slice-units.ensures at c.in_ok-depths.ensures in
    let flags = rw c.as_slice-units.ensures at c.in_ok-flags.ensures in
    let n = length c.args.shape.now.units in
    let long : length c.in_ok-depths.depths.items ≡ n = ap (λ (xs : List ℕ). length xs) depths ∙ length-map c.args.shape.now.units (λ (u : Unit). u.depth) in
    let waits = new_waits c.in_ok-places.places.items (div_ceil n 64) n (omega (arith, count, order.count, long)) in
    rw flags (same_waiting _ _ _ _ depths waits)
