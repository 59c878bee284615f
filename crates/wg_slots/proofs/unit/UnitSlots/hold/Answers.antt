use Rattle.std.proofs.Common.{sym, subst}
use Rattle.std.specs.Prelude.{vec_capacity}
use Rattle.wg_slots.specs.Places.{PlacesOf, IsRing}
use Rattle.wg_slots.proofs.Turns.{ring_hold}
use Rattle.wg_slots.proofs.unit.UnitSlots.hold.Goals as goal

pub invariant_of-self : goal.invariant_of-self
invariant_of-self c =
    let ns = c.self.inside.numbers.items in
    subst (λ (p : PlacesOf). IsRing c.self.inside.count (vec_capacity c.self.inside.numbers) p ns) (sym c.hold.ensures.same)
    (ring_hold c.self.inside.count (vec_capacity c.self.inside.numbers) c.self.inside.places ns c.hold.new.self.waiting c.hold.result c.self.invariant c.hold.ensures.waited)
