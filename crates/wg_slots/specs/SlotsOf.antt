-- The records of a unit by their slots: those that wait and those that are held. This project's own.
use Rattle.std.specs.Prelude.{◌≡◌, ◌≢◌, ℕ, ◌+◌, ◌-◌, ◌*◌, ◌<◌, ◌==◌, Bool, false, if◌then◌else◌, List, [], ◌∷◌, ◌++◌, is_some, IsSome, count_by, filter_map, slice_get, slice_index_or, unwrap_or, Option, Some, None}
use Rattle.std.specs.List.{list_any}
use Rattle.wg_machine.specs.declared.launch.Record.{Record}

-- A unit's slots: how many there are, the words of each record, the slots of the records that wait, in rising order of
-- number, and by slot the record that waits or is held there.
pub record SlotsOf : Type 0 where
  pub slots : ℕ
  pub words : ℕ
  pub places : List ℕ
  pub records : List (Option Record)

-- slots of which each is free
abbrev pub all_free : ℕ → ℕ → SlotsOf
all_free slots words = record { slots = slots; words = words; places = []; records = [] }

-- the slots of a unit by its number; none of an unknown one
abbrev pub slots_at : List SlotsOf → ℕ → SlotsOf
slots_at units u = unwrap_or (slice_get units u) (all_free 0 0)

-- the record in a slot
abbrev pub record_at : SlotsOf → ℕ → Option Record
record_at k slot = slice_index_or k.records slot None

-- a slot is among those of the records that wait
abbrev pub waits_in : List ℕ → ℕ → Bool
waits_in places slot = list_any (λ p. p == slot) places

-- a slot has a record that does not wait
pub record IsHeld (k : SlotsOf) (slot : ℕ) : Type 0 where
  pub there : IsSome (record_at k slot)
  pub waits : waits_in k.places slot ≡ false

-- the records that wait, in rising order of number
abbrev pub waiting_of : SlotsOf → List Record
waiting_of k = filter_map (record_at k) k.places

-- how many slots have a record
abbrev pub used_of : SlotsOf → ℕ
used_of k = count_by is_some k.records

-- how many slots have none
abbrev pub free_of : SlotsOf → ℕ
free_of k = k.slots - used_of k

-- the words of a slot: a fourth of its stride, so one where its records have none
abbrev pub slot_words : ℕ → ℕ
slot_words words = if words == 0 then 1 else words

-- the words of all slots of a unit
abbrev pub row_words : SlotsOf → ℕ
row_words k = k.slots * slot_words k.words

-- a record comes to a slot that had none and waits there, after the others; all else stays
pub record Puts (old new : SlotsOf) (r : Record) : Type 0 where
  pub slot : ℕ
  pub within : slot < old.slots
  pub was_free : record_at old slot ≡ None
  pub is_there : record_at new slot ≡ Some r
  pub others : (other : ℕ) → other ≢ slot → record_at new other ≡ record_at old other
  pub used : used_of new ≡ used_of old + 1
  pub places : new.places ≡ old.places ++ slot ∷ []
  pub waiting : waiting_of new ≡ waiting_of old ++ r ∷ []
  pub same : new ≡ record old { places = new.places; records = new.records }

-- the first record that waits is held in its slot, and all else stays
pub record HoldsFirst (old new : SlotsOf) (slot : ℕ) : Type 0 where
  pub record_is : Record
  pub waited : waiting_of old ≡ record_is ∷ waiting_of new
  pub places : old.places ≡ slot ∷ new.places
  pub within : slot < old.slots
  pub is_there : record_at new slot ≡ Some record_is
  pub waits : waits_in new.places slot ≡ false
  pub same : new ≡ record old { places = new.places }

-- a slot has no record any more, and all else stays
pub record Releases (old new : SlotsOf) (slot : ℕ) : Type 0 where
  pub is_free : record_at new slot ≡ None
  pub others : (other : ℕ) → other ≢ slot → record_at new other ≡ record_at old other
  pub used : used_of new + 1 ≡ used_of old
  pub waiting : waiting_of new ≡ waiting_of old
  pub same : new ≡ record old { records = new.records }

-- the record in a slot has other words, and all else stays
pub record Writes (old new : SlotsOf) (slot : ℕ) (words : List ℕ) : Type 0 where
  pub before : Record
  pub was_there : record_at old slot ≡ Some before
  pub is_there : record_at new slot ≡ Some (record before { words = words })
  pub others : (other : ℕ) → other ≢ slot → record_at new other ≡ record_at old other
  pub used : used_of new ≡ used_of old
  pub same : new ≡ record old { records = new.records }
