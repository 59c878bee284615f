-- How the rows of the units lie in the block, one after the other. This project's own.
use Rattle.std.specs.Prelude.{◌≡◌, ◌⊎◌, ℕ, ◌+◌, ◌*◌, ◌^◌, ◌<◌, ◌≤◌, List, [], ◌∷◌, length, slice_get, slice_index, Some}
use Rattle.wg_slots.specs.SlotsOf.{slot_words}
use Rattle.wg_slots.specs.Kept.{Kept, IsSound, empty_kept, part}

-- a unit's row begins where the one before it ends
abbrev pub LiesFrom : ℕ → List Kept → ℕ → Type 0
LiesFrom at [] end = at ≡ end
LiesFrom at (k ∷ ks) end = (k.first ≡ at) × LiesFrom (at + k.count * slot_words k.words) ks end

-- sound units whose rows fill a block of so many words
pub record IsLaid (units : List Kept) (words : ℕ) : Type 0 where
  pub sound : (u : ℕ) (k : Kept) → slice_get units u ≡ Some k → IsSound k
  pub lies : LiesFrom 0 units words
  pub fits : words < 2 ^ 64

-- units of these counts and words, without a record
abbrev pub AreEmpty : List ℕ → List ℕ → List Kept → Type 0
AreEmpty counts words units = (u : ℕ) (k : Kept) → slice_get units u ≡ Some k → k ≡ empty_kept (slice_index counts u) (slice_index words u) k.first

-- a block that has these words from a place on, and else what it had
pub record IsWritten (old new : List ℕ) (at : ℕ) (words : List ℕ) : Type 0 where
  pub size : length new ≡ length old
  pub there : part new at (length words) ≡ words
  pub others : (i : ℕ) → (i < at) ⊎ (at + length words ≤ i) → slice_index new i ≡ slice_index old i
