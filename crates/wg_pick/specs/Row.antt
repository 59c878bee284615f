-- The row of flags by which units are picked. This project's own.
use Rattle.std.specs.Prelude.{◌≡◌, ◌≢◌, ◌⊎◌, ℕ, ◌*◌, ◌/◌, ◌%◌, ◌^◌, ◌<◌, ◌≤◌, Bool, true, false, List, length, slice_index, Option, Some, None}
use Rattle.wg_words.specs.Words.{is_bit_set}

-- the flag of a place, of which a word holds 64
abbrev pub is_flagged : List ℕ → ℕ → Bool
is_flagged flags place = is_bit_set (slice_index flags (place / 64)) (place % 64)

-- the flag of one place is set, and each other stays
pub record IsFlagSet (old new : List ℕ) (place : ℕ) (is_set : Bool) : Type 0 where
  pub same_length : length new ≡ length old
  pub here : is_flagged new place ≡ is_set
  pub others : (other : ℕ) → other ≢ place → is_flagged new other ≡ is_flagged old other

-- the first place from one on, below an end, that passes
abbrev pub IsFirstFrom : (ℕ → Bool) → ℕ → ℕ → Option ℕ → Type 0
IsFirstFrom p from end None = (k : ℕ) → from ≤ k → k < end → p k ≡ false
IsFirstFrom p from end (Some place) =
    (from ≤ place) × (place < end) × (p place ≡ true) × ((k : ℕ) → from ≤ k → k < place → p k ≡ false)

-- u is the deeper, or as deep and not the greater number
abbrev pub ComesFirst : List ℕ → ℕ → ℕ → Type 0
ComesFirst depths u v =
    (slice_index depths v < slice_index depths u) ⊎ ((slice_index depths v ≡ slice_index depths u) × (u ≤ v))

-- every unit, in the order of picking
pub record IsOrder (depths order : List ℕ) : Type 0 where
  pub count : length order ≡ length depths
  pub within : (place : ℕ) → place < length order → slice_index order place < length order
  pub each : (u : ℕ) → u < length order → (place : ℕ) × (place < length order) × (slice_index order place ≡ u)
  pub sorted : (i j : ℕ) → i ≤ j → j < length order → ComesFirst depths (slice_index order i) (slice_index order j)

-- the place of a unit in the order is its own
pub record HasItsPlace (order places : List ℕ) (u : ℕ) : Type 0 where
  pub within : slice_index places u < length order
  pub own : slice_index order (slice_index places u) ≡ u

-- Each unit has its place in the order, and only places of units are flagged.
pub record IsRow (depths order places flags : List ℕ) : Type 0 where
  pub few : length depths < 2 ^ 32
  pub ordered : IsOrder depths order
  pub count : length places ≡ length order
  pub placed : (u : ℕ) → u < length order → HasItsPlace order places u
  pub room : length order ≤ 64 * length flags
  pub short : length flags < 2 ^ 32
  pub flagged : (place : ℕ) → is_flagged flags place ≡ true → (place < length order) × (slice_index places (slice_index order place) ≡ place)
