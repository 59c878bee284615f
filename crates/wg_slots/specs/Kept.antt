-- How a unit's slots are kept: where its row of the block begins, the slots that wait and the numbers by slot. This project's own.
use Rattle.std.specs.Prelude.{◌≡◌, ◌≢◌, ⊤, ℕ, zero, suc, ◌+◌, ◌*◌, ◌^◌, ◌<◌, ◌≤◌, true, false, List, [], ◌∷◌, ◌++◌, is_some, IsSome, count_by, slice_index, slice_index_or, Option, Some, None}
use Rattle.std.specs.Option.{option_map}
use Rattle.wg_machine.specs.declared.launch.Record.{Record}
use Rattle.wg_slots.specs.SlotsOf.{SlotsOf, slot_words, waits_in}

pub record Kept : Type 0 where
  pub count : ℕ
  pub words : ℕ
  pub first : ℕ
  pub waiting : List ℕ
  pub numbers : List (Option ℕ)

-- slots of which each is free
abbrev pub empty_kept : ℕ → ℕ → ℕ → Kept
empty_kept count words first = record { count = count; words = words; first = first; waiting = []; numbers = [] }

-- the number of a slot's record
abbrev pub number_at : Kept → ℕ → Option ℕ
number_at k slot = slice_index_or k.numbers slot None

abbrev pub numbers_used : Kept → ℕ
numbers_used k = count_by is_some k.numbers

-- where a slot begins in the block
abbrev pub start_of : Kept → ℕ → ℕ
start_of k slot = k.first + slot * slot_words k.words

-- where a unit's row ends in the block
abbrev pub end_of : Kept → ℕ
end_of k = k.first + k.count * slot_words k.words

-- so many words of a block, from a place on
abbrev pub part : List ℕ → ℕ → ℕ → List ℕ
part block at zero = []
part block at (suc n) = slice_index block at ∷ part block (at + 1) n

-- records by slot, from their numbers and the words of a slot
abbrev pub records_by : (ℕ → List ℕ) → ℕ → List (Option ℕ) → List (Option Record)
records_by words slot [] = []
records_by words slot (o ∷ os) = option_map (λ (n : ℕ). record { number = n; words = words slot }) o ∷ records_by words (slot + 1) os

-- a unit's slots with the words that the block has
abbrev pub shown : List ℕ → Kept → SlotsOf
shown block k = record { slots = k.count; words = k.words; places = k.waiting; records = records_by (λ slot. part block (start_of k slot) k.words) 0 k.numbers }

-- no slot stands twice
abbrev pub AreApart : List ℕ → Type 0
AreApart [] = ⊤
AreApart (p ∷ ps) = (waits_in ps p ≡ false) × AreApart ps

-- the slots that wait have a record each, and every record's slot is one of the unit's
pub record IsSound (k : Kept) : Type 0 where
  pub small : k.count < 2 ^ 32
  pub used : numbers_used k ≤ k.count
  pub within : (slot : ℕ) → IsSome (number_at k slot) → slot < k.count
  pub there : (slot : ℕ) → waits_in k.waiting slot ≡ true → IsSome (number_at k slot)
  pub apart : AreApart k.waiting

-- a number comes to a slot that had none, and the slot waits after the others
pub record KeepsNumber (old new : Kept) (number slot : ℕ) : Type 0 where
  pub within : slot < old.count
  pub was_free : number_at old slot ≡ None
  pub is_there : number_at new slot ≡ Some number
  pub others : (other : ℕ) → other ≢ slot → number_at new other ≡ number_at old other
  pub used : numbers_used new ≡ numbers_used old + 1
  pub same : new ≡ record old { waiting = old.waiting ++ slot ∷ []; numbers = new.numbers }

-- a slot has no number any more
pub record DropsNumber (old new : Kept) (slot : ℕ) : Type 0 where
  pub is_free : number_at new slot ≡ None
  pub others : (other : ℕ) → other ≢ slot → number_at new other ≡ number_at old other
  pub used : numbers_used new + 1 ≡ numbers_used old
  pub same : new ≡ record old { numbers = new.numbers }
