-- The slots of a unit that are in its ring: those that wait and those that are free again. This project's own.
use Rattle.std.specs.Prelude.{◌≡◌, ℕ, ◌+◌, ◌^◌, ◌<◌, ◌≤◌, true, if◌then◌else◌, List, [], ◌∷◌, ◌++◌, length, Option, Some, None}
use Rattle.wg_slots.specs.SlotsOf.{waits_in}
use Rattle.wg_slots.specs.Kept.{AreApart}

-- the slots that wait, in their order, those that were released and are free again, and how many there is room for
pub record PlacesOf : Type 0 where
  pub waiting : List ℕ
  pub free : List ℕ
  pub room : ℕ

-- all slots of the ring
abbrev pub ring : PlacesOf → List ℕ
ring p = p.waiting ++ p.free

-- by slot, from one on, the number of its record: what was written there, but where the slot is free again
abbrev pub in_use : List ℕ → ℕ → List ℕ → List (Option ℕ)
in_use free slot [] = []
in_use free slot (n ∷ ns) = (if waits_in free slot then None else Some n) ∷ in_use free (slot + 1) ns

-- The ring has each of its slots once, and each had a number. There is room in it and among the numbers for all slots.
pub record IsRing (count most : ℕ) (p : PlacesOf) (numbers : List ℕ) : Type 0 where
  pub small : count < 2 ^ 32
  pub room : p.room ≡ count
  pub numbers_room : most ≡ count
  pub few : length numbers ≤ count
  pub apart : AreApart (ring p)
  pub within : (slot : ℕ) → waits_in (ring p) slot ≡ true → slot < length numbers
