use Rattle.std.proofs.Common.{◌≡◌, ◌∙◌, false, sym, subst, ap}
use Rattle.std.specs.Prelude.{vec_capacity, IsSome}
use Rattle.wg_slots.specs.SlotsOf.{waits_in}
use Rattle.wg_slots.specs.Kept.{Kept, number_at, DropsNumber}
use Rattle.wg_slots.specs.Places.{PlacesOf, IsRing}
use Rattle.wg_slots.proofs.Turns.{kept_by, release_room, ring_release, drops}
use Rattle.wg_slots.proofs.unit.UnitSlots.release.Goals as goal

pub release-requires : goal.release-requires
release-requires c =
    let p = c.self.inside.places in
    let ns = c.self.inside.numbers.items in
    let slot = c.args.slot in
    let some = subst (λ (k : Kept). IsSome (number_at k slot)) (sym c.self.view_is) c.requires.there in
    let none : waits_in p.waiting slot ≡ false = ap (λ (k : Kept). waits_in k.waiting slot) c.self.view_is ∙ c.requires.waits in
    release_room c.self.inside.count (vec_capacity c.self.inside.numbers) p ns slot c.self.invariant some none

pub invariant_of-self : goal.invariant_of-self
invariant_of-self c =
    let p = c.self.inside.places in
    let ns = c.self.inside.numbers.items in
    let slot = c.args.slot in
    let some = subst (λ (k : Kept). IsSome (number_at k slot)) (sym c.self.view_is) c.requires.there in
    let none : waits_in p.waiting slot ≡ false = ap (λ (k : Kept). waits_in k.waiting slot) c.self.view_is ∙ c.requires.waits in
    subst (λ (q : PlacesOf). IsRing c.self.inside.count (vec_capacity c.self.inside.numbers) q ns) (sym c.release.ensures) (ring_release c.self.inside.count (vec_capacity c.self.inside.numbers) p ns slot c.self.invariant some none)

pub returns : goal.returns
returns c =
    let p = c.self.inside.places in
    let ns = c.self.inside.numbers.items in
    let slot = c.args.slot in
    let some = subst (λ (k : Kept). IsSome (number_at k slot)) (sym c.self.view_is) c.requires.there in
    let none : waits_in p.waiting slot ≡ false = ap (λ (k : Kept). waits_in k.waiting slot) c.self.view_is ∙ c.requires.waits in
    subst (λ (k : Kept). DropsNumber k (kept_by c.self.inside.count c.self.inside.words c.self.inside.first c.release.new.self ns) slot) c.self.view_is
    (subst (λ (q : PlacesOf). DropsNumber (kept_by c.self.inside.count c.self.inside.words c.self.inside.first p ns) (kept_by c.self.inside.count c.self.inside.words c.self.inside.first q ns) slot) (sym c.release.ensures)
    (drops c.self.inside.count (vec_capacity c.self.inside.numbers) c.self.inside.words c.self.inside.first p ns slot c.self.invariant some none))
