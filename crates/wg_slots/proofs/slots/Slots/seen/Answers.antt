use Rattle.std.proofs.Common.{◌≡◌, ◌∙◌, ◌<◌, ℕ, List, Option, Some, length, sym, ap, subst, arith}
use Rattle.std.specs.Prelude.{IsSome, slice_get}
use Rattle.wg_slots.specs.SlotsOf.{SlotsOf, slots_at, record_at}
use Rattle.wg_slots.specs.Kept.{IsSound, shown, part, start_of, number_at}
use Rattle.wg_slots.proofs.Records.{with_words}
use Rattle.wg_slots.proofs.Rows.{unit_there, unit_shown, lies_at, slot_ends}
use Rattle.wg_slots.proofs.Units.{number_there, seen_at, words_in}
use Rattle.wg_slots.proofs.slots.Slots.seen.Goals as goal

pub start-start-requires-clause-within : goal.start-start-requires-clause-within
start-start-requires-clause-within c =
    let k = c.index-slots.result.now in
    let ks = c.self.inside.units.items in
    let a = c.self.inside.block.items in
    let u = c.args.unit in
    let old = c.args.self.now in
    let there : slice_get ks u ≡ Some k = unit_there old a ks u k c.self.view_is c.requires.unit c.index-slots.ensures in
    let sound : IsSound k = c.self.invariant.sound u k there in
    let is : slots_at old u ≡ shown a k = unit_shown old a ks u k c.self.view_is there in
    let number : IsSome (number_at k c.args.slot) = number_there a k c.args.slot (subst (λ (s : SlotsOf). IsSome (record_at s c.args.slot)) is c.requires.there) in
    let within : c.args.slot < k.count = sound.within c.args.slot number in
    let lies = lies_at 0 ks (length a) u k c.self.invariant.lies there in
    within

pub start-start-requires-clause-fits : goal.start-start-requires-clause-fits
start-start-requires-clause-fits c =
    let k = c.index-slots.result.now in
    let ks = c.self.inside.units.items in
    let a = c.self.inside.block.items in
    let u = c.args.unit in
    let old = c.args.self.now in
    let there : slice_get ks u ≡ Some k = unit_there old a ks u k c.self.view_is c.requires.unit c.index-slots.ensures in
    let sound : IsSound k = c.self.invariant.sound u k there in
    let is : slots_at old u ≡ shown a k = unit_shown old a ks u k c.self.view_is there in
    let number : IsSome (number_at k c.args.slot) = number_there a k c.args.slot (subst (λ (s : SlotsOf). IsSome (record_at s c.args.slot)) is c.requires.there) in
    let within : c.args.slot < k.count = sound.within c.args.slot number in
    let lies = lies_at 0 ks (length a) u k c.self.invariant.lies there in
    let high = lies.high in
    let fits = c.self.invariant.fits in
    omega arith

pub number-requires : goal.number-requires
number-requires c =
    let k = c.index-slots.result.now in
    let ks = c.self.inside.units.items in
    let a = c.self.inside.block.items in
    let u = c.args.unit in
    let old = c.args.self.now in
    let there : slice_get ks u ≡ Some k = unit_there old a ks u k c.self.view_is c.requires.unit c.index-slots.ensures in
    let sound : IsSound k = c.self.invariant.sound u k there in
    let is : slots_at old u ≡ shown a k = unit_shown old a ks u k c.self.view_is there in
    let number : IsSome (number_at k c.args.slot) = number_there a k c.args.slot (subst (λ (s : SlotsOf). IsSome (record_at s c.args.slot)) is c.requires.there) in
    let within : c.args.slot < k.count = sound.within c.args.slot number in
    let lies = lies_at 0 ks (length a) u k c.self.invariant.lies there in
    number

pub part-requires : goal.part-requires
part-requires c =
    let k = c.index-slots.result.now in
    let ks = c.self.inside.units.items in
    let a = c.self.inside.block.items in
    let u = c.args.unit in
    let old = c.args.self.now in
    let there : slice_get ks u ≡ Some k = unit_there old a ks u k c.self.view_is c.requires.unit c.index-slots.ensures in
    let sound : IsSound k = c.self.invariant.sound u k there in
    let is : slots_at old u ≡ shown a k = unit_shown old a ks u k c.self.view_is there in
    let number : IsSome (number_at k c.args.slot) = number_there a k c.args.slot (subst (λ (s : SlotsOf). IsSome (record_at s c.args.slot)) is c.requires.there) in
    let within : c.args.slot < k.count = sound.within c.args.slot number in
    let lies = lies_at 0 ks (length a) u k c.self.invariant.lies there in
    let high = lies.high in
    let ends = slot_ends k c.args.slot within in
    let start = c.start-start.ensures in
    let words = c.words.ensures in
    let size = ap (λ (l : List ℕ). length l) c.deref.ensures.value in
    omega arith

pub returns : goal.returns
returns c =
    let k = c.index-slots.result.now in
    let ks = c.self.inside.units.items in
    let a = c.self.inside.block.items in
    let u = c.args.unit in
    let old = c.args.self.now in
    let there : slice_get ks u ≡ Some k = unit_there old a ks u k c.self.view_is c.requires.unit c.index-slots.ensures in
    let sound : IsSound k = c.self.invariant.sound u k there in
    let is : slots_at old u ≡ shown a k = unit_shown old a ks u k c.self.view_is there in
    let number : IsSome (number_at k c.args.slot) = number_there a k c.args.slot (subst (λ (s : SlotsOf). IsSome (record_at s c.args.slot)) is c.requires.there) in
    let within : c.args.slot < k.count = sound.within c.args.slot number in
    let lies = lies_at 0 ks (length a) u k c.self.invariant.lies there in
    let shows : c.part.result.now ≡ words_in a k c.args.slot =
    c.part.ensures ∙ (ap (λ (l : List ℕ). part l c.start-start.result c.words.result) c.deref.ensures.value ∙ (ap (λ (s : ℕ). part a s c.words.result) c.start-start.ensures ∙ ap (λ (n : ℕ). part a (start_of k c.args.slot) n) c.words.ensures)) in
    ap (λ (s : SlotsOf). record_at s c.args.slot) is
    ∙ (seen_at a k c.args.slot
    ∙ (ap (λ (o : Option ℕ). with_words o (words_in a k c.args.slot)) c.number.ensures
    ∙ ap (λ (l : List ℕ). with_words (Some c.number.result) l) (sym shows)))
