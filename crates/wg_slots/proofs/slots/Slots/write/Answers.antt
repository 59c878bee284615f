use Rattle.std.proofs.Common.{◌≡◌, ◌∙◌, ◌<◌, ℕ, List, Some, length, map, sym, ap, subst, arith}
use Rattle.std.specs.Prelude.{IsSome, slice_get, slice_set}
use Rattle.wg_slots.specs.SlotsOf.{SlotsOf, slots_at, record_at, Writes}
use Rattle.wg_slots.specs.Kept.{Kept, IsSound, shown, start_of, number_at}
use Rattle.wg_slots.specs.Layout.{IsLaid, IsWritten}
use Rattle.wg_slots.proofs.Rows.{unit_there, unit_shown, both_at, others_stay, units_apart, set_same, lies_at, slot_ends, whole_again}
use Rattle.wg_slots.proofs.Units.{number_there, writes}
use Rattle.wg_slots.proofs.slots.Slots.write.Goals as goal

pub start-start-requires-clause-within : goal.start-start-requires-clause-within
start-start-requires-clause-within c =
    let k = c.index.result.now in
    let ks = c.self.inside.units.items in
    let a = c.self.inside.block.items in
    let u = c.args.unit in
    let old = c.args.self.now in
    let there : slice_get ks u ≡ Some k = unit_there old a ks u k c.self.view_is c.requires.unit c.index.ensures in
    let sound : IsSound k = c.self.invariant.sound u k there in
    let is : slots_at old u ≡ shown a k = unit_shown old a ks u k c.self.view_is there in
    let slot = c.args.slot in
    let number : IsSome (number_at k slot) = number_there a k slot (subst (λ (s : SlotsOf). IsSome (record_at s slot)) is c.requires.there) in
    let within : slot < k.count = sound.within slot number in
    let lies = lies_at 0 ks (length a) u k c.self.invariant.lies there in
    let long : length c.args.words.now ≡ k.words = c.requires.words ∙ ap (λ (s : SlotsOf). s.words) is in
    within

pub start-start-requires-clause-fits : goal.start-start-requires-clause-fits
start-start-requires-clause-fits c =
    let k = c.index.result.now in
    let ks = c.self.inside.units.items in
    let a = c.self.inside.block.items in
    let u = c.args.unit in
    let old = c.args.self.now in
    let there : slice_get ks u ≡ Some k = unit_there old a ks u k c.self.view_is c.requires.unit c.index.ensures in
    let sound : IsSound k = c.self.invariant.sound u k there in
    let is : slots_at old u ≡ shown a k = unit_shown old a ks u k c.self.view_is there in
    let slot = c.args.slot in
    let number : IsSome (number_at k slot) = number_there a k slot (subst (λ (s : SlotsOf). IsSome (record_at s slot)) is c.requires.there) in
    let within : slot < k.count = sound.within slot number in
    let lies = lies_at 0 ks (length a) u k c.self.invariant.lies there in
    let long : length c.args.words.now ≡ k.words = c.requires.words ∙ ap (λ (s : SlotsOf). s.words) is in
    let high = lies.high in
    let fits = c.self.invariant.fits in
    omega arith

pub write-requires : goal.write-requires
write-requires c =
    let k = c.index.result.now in
    let ks = c.self.inside.units.items in
    let a = c.self.inside.block.items in
    let u = c.args.unit in
    let old = c.args.self.now in
    let there : slice_get ks u ≡ Some k = unit_there old a ks u k c.self.view_is c.requires.unit c.index.ensures in
    let sound : IsSound k = c.self.invariant.sound u k there in
    let is : slots_at old u ≡ shown a k = unit_shown old a ks u k c.self.view_is there in
    let slot = c.args.slot in
    let number : IsSome (number_at k slot) = number_there a k slot (subst (λ (s : SlotsOf). IsSome (record_at s slot)) is c.requires.there) in
    let within : slot < k.count = sound.within slot number in
    let lies = lies_at 0 ks (length a) u k c.self.invariant.lies there in
    let long : length c.args.words.now ≡ k.words = c.requires.words ∙ ap (λ (s : SlotsOf). s.words) is in
    let start = c.start-start.ensures in
    let ends = slot_ends k slot within in
    let high = lies.high in
    let block = ap (λ (l : List ℕ). length l) c.deref_mut.ensures.value in
    omega arith

pub invariant_of-self : goal.invariant_of-self
invariant_of-self c =
    let k = c.index.result.now in
    let ks = c.self.inside.units.items in
    let a = c.self.inside.block.items in
    let u = c.args.unit in
    let old = c.args.self.now in
    let there : slice_get ks u ≡ Some k = unit_there old a ks u k c.self.view_is c.requires.unit c.index.ensures in
    let sound : IsSound k = c.self.invariant.sound u k there in
    let is : slots_at old u ≡ shown a k = unit_shown old a ks u k c.self.view_is there in
    let slot = c.args.slot in
    let number : IsSome (number_at k slot) = number_there a k slot (subst (λ (s : SlotsOf). IsSome (record_at s slot)) is c.requires.there) in
    let within : slot < k.count = sound.within slot number in
    let lies = lies_at 0 ks (length a) u k c.self.invariant.lies there in
    let long : length c.args.words.now ≡ k.words = c.requires.words ∙ ap (λ (s : SlotsOf). s.words) is in
    let b = c.write.new.block in
    let w : IsWritten a b (start_of k slot) c.args.words.now =
    subst (λ (l : List ℕ). IsWritten l b (start_of k slot) c.args.words.now) c.deref_mut.ensures.value
    (subst (λ (s : ℕ). IsWritten c.deref_mut.result.now b s c.args.words.now) c.start-start.ensures c.write.ensures) in
    let whole = whole_again a b c.self.inside.block.len (c.write.ensures.size ∙ c.deref_mut.ensures.len) in
    subst (λ (n : ℕ). IsLaid ks n) (sym (ap (λ (l : List ℕ). length l) whole ∙ w.size)) c.self.invariant

pub returns-clause-writes : goal.returns-clause-writes
returns-clause-writes c =
    let k = c.index.result.now in
    let ks = c.self.inside.units.items in
    let a = c.self.inside.block.items in
    let u = c.args.unit in
    let old = c.args.self.now in
    let there : slice_get ks u ≡ Some k = unit_there old a ks u k c.self.view_is c.requires.unit c.index.ensures in
    let sound : IsSound k = c.self.invariant.sound u k there in
    let is : slots_at old u ≡ shown a k = unit_shown old a ks u k c.self.view_is there in
    let slot = c.args.slot in
    let number : IsSome (number_at k slot) = number_there a k slot (subst (λ (s : SlotsOf). IsSome (record_at s slot)) is c.requires.there) in
    let within : slot < k.count = sound.within slot number in
    let lies = lies_at 0 ks (length a) u k c.self.invariant.lies there in
    let long : length c.args.words.now ≡ k.words = c.requires.words ∙ ap (λ (s : SlotsOf). s.words) is in
    let b = c.write.new.block in
    let w : IsWritten a b (start_of k slot) c.args.words.now =
    subst (λ (l : List ℕ). IsWritten l b (start_of k slot) c.args.words.now) c.deref_mut.ensures.value
    (subst (λ (s : ℕ). IsWritten c.deref_mut.result.now b s c.args.words.now) c.start-start.ensures c.write.ensures) in
    let whole = whole_again a b c.self.inside.block.len (c.write.ensures.size ∙ c.deref_mut.ensures.len) in
    subst (λ (l : List ℕ). Writes (slots_at old u) (slots_at (map (shown l) ks) u) slot c.args.words.now) (sym whole)
    (subst (λ (l : List Kept). Writes (slots_at old u) (slots_at (map (shown b) l) u) slot c.args.words.now) (set_same ks u k there)
    (both_at (λ (x y : SlotsOf). Writes x y slot c.args.words.now) old a b ks u k k c.self.view_is there (writes a b c.args.words.now k slot number long w)))

pub returns-clause-others : goal.returns-clause-others
returns-clause-others c =
    let k = c.index.result.now in
    let ks = c.self.inside.units.items in
    let a = c.self.inside.block.items in
    let u = c.args.unit in
    let old = c.args.self.now in
    let there : slice_get ks u ≡ Some k = unit_there old a ks u k c.self.view_is c.requires.unit c.index.ensures in
    let sound : IsSound k = c.self.invariant.sound u k there in
    let is : slots_at old u ≡ shown a k = unit_shown old a ks u k c.self.view_is there in
    let slot = c.args.slot in
    let number : IsSome (number_at k slot) = number_there a k slot (subst (λ (s : SlotsOf). IsSome (record_at s slot)) is c.requires.there) in
    let within : slot < k.count = sound.within slot number in
    let lies = lies_at 0 ks (length a) u k c.self.invariant.lies there in
    let long : length c.args.words.now ≡ k.words = c.requires.words ∙ ap (λ (s : SlotsOf). s.words) is in
    let b = c.write.new.block in
    let w : IsWritten a b (start_of k slot) c.args.words.now =
    subst (λ (l : List ℕ). IsWritten l b (start_of k slot) c.args.words.now) c.deref_mut.ensures.value
    (subst (λ (s : ℕ). IsWritten c.deref_mut.result.now b s c.args.words.now) c.start-start.ensures c.write.ensures) in
    let whole = whole_again a b c.self.inside.block.len (c.write.ensures.size ∙ c.deref_mut.ensures.len) in
    subst (λ (l : List ℕ). map (shown l) ks ≡ slice_set old u (slots_at (map (shown l) ks) u)) (sym whole)
    (subst (λ (l : List Kept). map (shown b) l ≡ slice_set old u (slots_at (map (shown b) l) u)) (set_same ks u k there)
    (others_stay old a b ks u k k c.self.view_is there (units_apart a b c.args.words.now ks (length a) u slot k c.self.invariant there within long w)))
