use Rattle.std.proofs.Common.{◌≡◌, ◌∙◌, Some, false, length, refl, sym, ap, subst}
use Rattle.std.specs.Prelude.{IsSome, slice_get, slice_set}
use Rattle.wg_slots.specs.SlotsOf.{SlotsOf, slots_at, record_at, waits_in, Releases}
use Rattle.wg_slots.specs.Kept.{Kept, IsSound, DropsNumber, shown}
use Rattle.wg_slots.specs.Layout.{IsLaid}
use Rattle.wg_slots.proofs.Rows.{unit_there, unit_shown, laid_set, both_at, others_stay}
use Rattle.wg_slots.proofs.Units.{number_there, releases, sound_release}
use Rattle.wg_slots.proofs.slots.Slots.release.Goals as goal

pub release-requires-clause-there : goal.release-requires-clause-there
release-requires-clause-there c =
    let k = c.index_mut-slots.result.now in
    let ks = c.self.inside.units.items in
    let a = c.self.inside.block.items in
    let u = c.args.unit in
    let old = c.args.self.now in
    let there : slice_get ks u ≡ Some k = unit_there old a ks u k c.self.view_is c.requires.unit c.index_mut-slots.ensures.value in
    let sound : IsSound k = c.self.invariant.sound u k there in
    let is : slots_at old u ≡ shown a k = unit_shown old a ks u k c.self.view_is there in
    number_there a k c.args.slot (subst (λ (s : SlotsOf). IsSome (record_at s c.args.slot)) is c.requires.held.there)

pub release-requires-clause-waits : goal.release-requires-clause-waits
release-requires-clause-waits c =
    let k = c.index_mut-slots.result.now in
    let ks = c.self.inside.units.items in
    let a = c.self.inside.block.items in
    let u = c.args.unit in
    let old = c.args.self.now in
    let there : slice_get ks u ≡ Some k = unit_there old a ks u k c.self.view_is c.requires.unit c.index_mut-slots.ensures.value in
    let is : slots_at old u ≡ shown a k = unit_shown old a ks u k c.self.view_is there in
    sym (ap (λ (s : SlotsOf). waits_in s.places c.args.slot) is) ∙ c.requires.held.waits

pub invariant_of-self : goal.invariant_of-self
invariant_of-self c =
    let k = c.index_mut-slots.result.now in
    let ks = c.self.inside.units.items in
    let a = c.self.inside.block.items in
    let u = c.args.unit in
    let old = c.args.self.now in
    let there : slice_get ks u ≡ Some k = unit_there old a ks u k c.self.view_is c.requires.unit c.index_mut-slots.ensures.value in
    let sound : IsSound k = c.self.invariant.sound u k there in
    let is : slots_at old u ≡ shown a k = unit_shown old a ks u k c.self.view_is there in
    let drops = subst (λ (n : Kept). DropsNumber k n c.args.slot) c.release.ensures.same c.release.ensures in
    let none : waits_in k.waiting c.args.slot ≡ false = sym (ap (λ (s : SlotsOf). waits_in s.places c.args.slot) is) ∙ c.requires.held.waits in
    subst (λ (n : Kept). IsLaid (slice_set ks u n) (length a)) (sym c.release.ensures.same)
    (laid_set ks (length a) u k k.waiting c.release.new.self.numbers c.self.invariant there (sound_release k c.release.new.self.numbers c.args.slot sound drops none))

pub returns-clause-releases : goal.returns-clause-releases
returns-clause-releases c =
    let k = c.index_mut-slots.result.now in
    let ks = c.self.inside.units.items in
    let a = c.self.inside.block.items in
    let u = c.args.unit in
    let old = c.args.self.now in
    let there : slice_get ks u ≡ Some k = unit_there old a ks u k c.self.view_is c.requires.unit c.index_mut-slots.ensures.value in
    let sound : IsSound k = c.self.invariant.sound u k there in
    let is : slots_at old u ≡ shown a k = unit_shown old a ks u k c.self.view_is there in
    let drops = subst (λ (n : Kept). DropsNumber k n c.args.slot) c.release.ensures.same c.release.ensures in
    let none : waits_in k.waiting c.args.slot ≡ false = sym (ap (λ (s : SlotsOf). waits_in s.places c.args.slot) is) ∙ c.requires.held.waits in
    both_at (λ (x y : SlotsOf). Releases x y c.args.slot) old a a ks u k c.release.new.self c.self.view_is there
    (subst (λ (n : Kept). Releases (shown a k) (shown a n) c.args.slot) (sym c.release.ensures.same) (releases a k c.release.new.self.numbers c.args.slot drops none))

pub returns-clause-others : goal.returns-clause-others
returns-clause-others c =
    let k = c.index_mut-slots.result.now in
    let ks = c.self.inside.units.items in
    let a = c.self.inside.block.items in
    let u = c.args.unit in
    let old = c.args.self.now in
    let there : slice_get ks u ≡ Some k = unit_there old a ks u k c.self.view_is c.requires.unit c.index_mut-slots.ensures.value in
    let sound : IsSound k = c.self.invariant.sound u k there in
    let is : slots_at old u ≡ shown a k = unit_shown old a ks u k c.self.view_is there in
    others_stay old a a ks u k c.release.new.self c.self.view_is there (λ j m ne e. refl)
