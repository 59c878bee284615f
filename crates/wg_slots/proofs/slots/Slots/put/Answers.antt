use Rattle.std.proofs.Common.{◌≡◌, ◌∙◌, ◌<◌, ℕ, List, Some, length, map, ◌++◌, [], ◌∷◌, sym, ap, subst, arith}
use Rattle.std.specs.Prelude.{slice_get, slice_set}
use Rattle.wg_slots.specs.SlotsOf.{SlotsOf, slots_at, free_of, Puts}
use Rattle.wg_slots.specs.Kept.{Kept, IsSound, KeepsNumber, shown, start_of, end_of}
use Rattle.wg_slots.specs.Layout.{IsLaid, IsWritten}
use Rattle.wg_slots.proofs.Rows.{unit_there, unit_shown, laid_set, both_at, others_stay, units_apart, lies_at, slot_ends, whole_again}
use Rattle.wg_slots.proofs.Units.{free_some, puts, put_kept, sound_put}
use Rattle.wg_slots.proofs.slots.Slots.put.Goals as goal

pub put-slot-requires : goal.put-slot-requires
put-slot-requires c =
    let k = c.index_mut-slots.result.now in
    let ks = c.self.inside.units.items in
    let a = c.self.inside.block.items in
    let u = c.args.unit in
    let old = c.args.self.now in
    let there : slice_get ks u ≡ Some k = unit_there old a ks u k c.self.view_is c.requires.unit c.index_mut-slots.ensures.value in
    let sound : IsSound k = c.self.invariant.sound u k there in
    let is : slots_at old u ≡ shown a k = unit_shown old a ks u k c.self.view_is there in
    let free = free_some a k (subst (λ (s : SlotsOf). 0 < free_of s) is c.requires.free) in
    free

pub start-start-requires-clause-within : goal.start-start-requires-clause-within
start-start-requires-clause-within c =
    let k = c.index_mut-slots.result.now in
    let ks = c.self.inside.units.items in
    let a = c.self.inside.block.items in
    let u = c.args.unit in
    let old = c.args.self.now in
    let there : slice_get ks u ≡ Some k = unit_there old a ks u k c.self.view_is c.requires.unit c.index_mut-slots.ensures.value in
    let sound : IsSound k = c.self.invariant.sound u k there in
    let is : slots_at old u ≡ shown a k = unit_shown old a ks u k c.self.view_is there in
    let free = free_some a k (subst (λ (s : SlotsOf). 0 < free_of s) is c.requires.free) in
    let slot = c.put-slot.result in
    let new = c.put-slot.new.self in
    let keeps : KeepsNumber k (put_kept k slot new.numbers) c.args.item.number slot = subst (λ (n : Kept). KeepsNumber k n c.args.item.number slot) c.put-slot.ensures.same c.put-slot.ensures in
    let long : length c.args.item.words ≡ k.words = c.requires.words ∙ ap (λ (s : SlotsOf). s.words) is in
    let lies = lies_at 0 ks (length a) u k c.self.invariant.lies there in
    let within = keeps.within in
    let same = ap (λ (n : Kept). n.count) c.put-slot.ensures.same in
    omega arith

pub start-start-requires-clause-fits : goal.start-start-requires-clause-fits
start-start-requires-clause-fits c =
    let k = c.index_mut-slots.result.now in
    let ks = c.self.inside.units.items in
    let a = c.self.inside.block.items in
    let u = c.args.unit in
    let old = c.args.self.now in
    let there : slice_get ks u ≡ Some k = unit_there old a ks u k c.self.view_is c.requires.unit c.index_mut-slots.ensures.value in
    let sound : IsSound k = c.self.invariant.sound u k there in
    let is : slots_at old u ≡ shown a k = unit_shown old a ks u k c.self.view_is there in
    let free = free_some a k (subst (λ (s : SlotsOf). 0 < free_of s) is c.requires.free) in
    let slot = c.put-slot.result in
    let new = c.put-slot.new.self in
    let keeps : KeepsNumber k (put_kept k slot new.numbers) c.args.item.number slot = subst (λ (n : Kept). KeepsNumber k n c.args.item.number slot) c.put-slot.ensures.same c.put-slot.ensures in
    let long : length c.args.item.words ≡ k.words = c.requires.words ∙ ap (λ (s : SlotsOf). s.words) is in
    let lies = lies_at 0 ks (length a) u k c.self.invariant.lies there in
    let same = ap end_of c.put-slot.ensures.same in
    let high = lies.high in
    let fits = c.self.invariant.fits in
    omega arith

pub write-requires : goal.write-requires
write-requires c =
    let k = c.index_mut-slots.result.now in
    let ks = c.self.inside.units.items in
    let a = c.self.inside.block.items in
    let u = c.args.unit in
    let old = c.args.self.now in
    let there : slice_get ks u ≡ Some k = unit_there old a ks u k c.self.view_is c.requires.unit c.index_mut-slots.ensures.value in
    let sound : IsSound k = c.self.invariant.sound u k there in
    let is : slots_at old u ≡ shown a k = unit_shown old a ks u k c.self.view_is there in
    let free = free_some a k (subst (λ (s : SlotsOf). 0 < free_of s) is c.requires.free) in
    let slot = c.put-slot.result in
    let new = c.put-slot.new.self in
    let keeps : KeepsNumber k (put_kept k slot new.numbers) c.args.item.number slot = subst (λ (n : Kept). KeepsNumber k n c.args.item.number slot) c.put-slot.ensures.same c.put-slot.ensures in
    let long : length c.args.item.words ≡ k.words = c.requires.words ∙ ap (λ (s : SlotsOf). s.words) is in
    let lies = lies_at 0 ks (length a) u k c.self.invariant.lies there in
    let start : c.start-start.result ≡ start_of k slot = c.start-start.ensures ∙ ap (λ (n : Kept). start_of n slot) c.put-slot.ensures.same in
    let ends = slot_ends k slot keeps.within in
    let high = lies.high in
    let item = ap (λ (l : List ℕ). length l) c.as_slice.ensures in
    let block = ap (λ (l : List ℕ). length l) c.deref_mut.ensures.value in
    omega arith

pub invariant_of-self : goal.invariant_of-self
invariant_of-self c =
    let k = c.index_mut-slots.result.now in
    let ks = c.self.inside.units.items in
    let a = c.self.inside.block.items in
    let u = c.args.unit in
    let old = c.args.self.now in
    let there : slice_get ks u ≡ Some k = unit_there old a ks u k c.self.view_is c.requires.unit c.index_mut-slots.ensures.value in
    let sound : IsSound k = c.self.invariant.sound u k there in
    let is : slots_at old u ≡ shown a k = unit_shown old a ks u k c.self.view_is there in
    let free = free_some a k (subst (λ (s : SlotsOf). 0 < free_of s) is c.requires.free) in
    let slot = c.put-slot.result in
    let new = c.put-slot.new.self in
    let keeps : KeepsNumber k (put_kept k slot new.numbers) c.args.item.number slot = subst (λ (n : Kept). KeepsNumber k n c.args.item.number slot) c.put-slot.ensures.same c.put-slot.ensures in
    let long : length c.args.item.words ≡ k.words = c.requires.words ∙ ap (λ (s : SlotsOf). s.words) is in
    let lies = lies_at 0 ks (length a) u k c.self.invariant.lies there in
    let start : c.start-start.result ≡ start_of k slot = c.start-start.ensures ∙ ap (λ (n : Kept). start_of n slot) c.put-slot.ensures.same in
    let b = c.write.new.block in
    let w : IsWritten a b (start_of k slot) c.args.item.words =
    subst (λ (l : List ℕ). IsWritten l b (start_of k slot) c.args.item.words) c.deref_mut.ensures.value
    (subst (λ (s : ℕ). IsWritten c.deref_mut.result.now b s c.args.item.words) start
    (subst (λ (l : List ℕ). IsWritten c.deref_mut.result.now b c.start-start.result l) c.as_slice.ensures c.write.ensures)) in
    let whole = whole_again a b c.self.inside.block.len (c.write.ensures.size ∙ c.deref_mut.ensures.len) in
    subst (λ (n : ℕ). IsLaid (slice_set ks u new) n) (sym (ap (λ (l : List ℕ). length l) whole ∙ w.size))
    (subst (λ (n : Kept). IsLaid (slice_set ks u n) (length a)) (sym c.put-slot.ensures.same)
    (laid_set ks (length a) u k (k.waiting ++ slot ∷ []) new.numbers c.self.invariant there (sound_put k new.numbers c.args.item.number slot sound keeps free)))

pub returns-clause-puts : goal.returns-clause-puts
returns-clause-puts c =
    let k = c.index_mut-slots.result.now in
    let ks = c.self.inside.units.items in
    let a = c.self.inside.block.items in
    let u = c.args.unit in
    let old = c.args.self.now in
    let there : slice_get ks u ≡ Some k = unit_there old a ks u k c.self.view_is c.requires.unit c.index_mut-slots.ensures.value in
    let sound : IsSound k = c.self.invariant.sound u k there in
    let is : slots_at old u ≡ shown a k = unit_shown old a ks u k c.self.view_is there in
    let free = free_some a k (subst (λ (s : SlotsOf). 0 < free_of s) is c.requires.free) in
    let slot = c.put-slot.result in
    let new = c.put-slot.new.self in
    let keeps : KeepsNumber k (put_kept k slot new.numbers) c.args.item.number slot = subst (λ (n : Kept). KeepsNumber k n c.args.item.number slot) c.put-slot.ensures.same c.put-slot.ensures in
    let long : length c.args.item.words ≡ k.words = c.requires.words ∙ ap (λ (s : SlotsOf). s.words) is in
    let lies = lies_at 0 ks (length a) u k c.self.invariant.lies there in
    let start : c.start-start.result ≡ start_of k slot = c.start-start.ensures ∙ ap (λ (n : Kept). start_of n slot) c.put-slot.ensures.same in
    let b = c.write.new.block in
    let w : IsWritten a b (start_of k slot) c.args.item.words =
    subst (λ (l : List ℕ). IsWritten l b (start_of k slot) c.args.item.words) c.deref_mut.ensures.value
    (subst (λ (s : ℕ). IsWritten c.deref_mut.result.now b s c.args.item.words) start
    (subst (λ (l : List ℕ). IsWritten c.deref_mut.result.now b c.start-start.result l) c.as_slice.ensures c.write.ensures)) in
    let whole = whole_again a b c.self.inside.block.len (c.write.ensures.size ∙ c.deref_mut.ensures.len) in
    subst (λ (l : List ℕ). Puts (slots_at old u) (slots_at (map (shown l) (slice_set ks u new)) u) c.args.item) (sym whole)
    (both_at (λ (x y : SlotsOf). Puts x y c.args.item) old a b ks u k new c.self.view_is there
    (subst (λ (n : Kept). Puts (shown a k) (shown b n) c.args.item) (sym c.put-slot.ensures.same) (puts a b k new.numbers c.args.item slot sound keeps long w)))

pub returns-clause-others : goal.returns-clause-others
returns-clause-others c =
    let k = c.index_mut-slots.result.now in
    let ks = c.self.inside.units.items in
    let a = c.self.inside.block.items in
    let u = c.args.unit in
    let old = c.args.self.now in
    let there : slice_get ks u ≡ Some k = unit_there old a ks u k c.self.view_is c.requires.unit c.index_mut-slots.ensures.value in
    let sound : IsSound k = c.self.invariant.sound u k there in
    let is : slots_at old u ≡ shown a k = unit_shown old a ks u k c.self.view_is there in
    let free = free_some a k (subst (λ (s : SlotsOf). 0 < free_of s) is c.requires.free) in
    let slot = c.put-slot.result in
    let new = c.put-slot.new.self in
    let keeps : KeepsNumber k (put_kept k slot new.numbers) c.args.item.number slot = subst (λ (n : Kept). KeepsNumber k n c.args.item.number slot) c.put-slot.ensures.same c.put-slot.ensures in
    let long : length c.args.item.words ≡ k.words = c.requires.words ∙ ap (λ (s : SlotsOf). s.words) is in
    let lies = lies_at 0 ks (length a) u k c.self.invariant.lies there in
    let start : c.start-start.result ≡ start_of k slot = c.start-start.ensures ∙ ap (λ (n : Kept). start_of n slot) c.put-slot.ensures.same in
    let b = c.write.new.block in
    let w : IsWritten a b (start_of k slot) c.args.item.words =
    subst (λ (l : List ℕ). IsWritten l b (start_of k slot) c.args.item.words) c.deref_mut.ensures.value
    (subst (λ (s : ℕ). IsWritten c.deref_mut.result.now b s c.args.item.words) start
    (subst (λ (l : List ℕ). IsWritten c.deref_mut.result.now b c.start-start.result l) c.as_slice.ensures c.write.ensures)) in
    let whole = whole_again a b c.self.inside.block.len (c.write.ensures.size ∙ c.deref_mut.ensures.len) in
    subst (λ (l : List ℕ). map (shown l) (slice_set ks u new) ≡ slice_set old u (slots_at (map (shown l) (slice_set ks u new)) u)) (sym whole)
    (others_stay old a b ks u k new c.self.view_is there (units_apart a b c.args.item.words ks (length a) u slot k c.self.invariant there keeps.within long w))
