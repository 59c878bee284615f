-- The rows of a table of needs: a row for each unit, a need for each target. This project's own.
use Rattle.std.specs.Prelude.{◌≡◌, ℕ, ◌+◌, ◌<◌, ◌==◌, if◌then◌else◌, All, List, [], ◌∷◌, slice_get, unwrap_or}
use Rattle.std.specs.Option.{option_map}
use Rattle.wg_machine.specs.declared.shape.Unit.{Unit}
use Rattle.wg_machine.specs.Need.{need_of}
use Rattle.wg_need.specs.declared.table.Need.{Need}

-- the records for a unit among needs
abbrev pub need_in : List Need → ℕ → ℕ
need_in [] v = 0
need_in (n ∷ needs) v = (if n.unit == v then n.records else 0) + need_in needs v

-- how many records a launch of a unit by its number may send to v
abbrev pub need_by : List Unit → ℕ → ℕ → ℕ
need_by units u v = unwrap_or (option_map (λ (n : Unit). need_of n v) (slice_get units u)) 0

-- the same by a table's rows
abbrev pub need_at : List (List Need) → ℕ → ℕ → ℕ
need_at rows u v = need_in (unwrap_or (slice_get rows u) []) v

-- a need is of some records, and all that its unit, one of so many, needs
pub record IsSoundNeed (count : ℕ) (needs : List Need) (n : Need) : Type 0 where
  pub within : n.unit < count
  pub some : 0 < n.records
  pub whole : need_in needs n.unit ≡ n.records

-- each need of a row is sound
abbrev pub IsSoundRow : ℕ → List Need → Type 0
IsSoundRow count needs = All (IsSoundNeed count needs) needs
