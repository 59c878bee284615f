-- Which units wait, and in which order they are picked. This project's own rule.
use Rattle.std.specs.Prelude.{◌≡◌, ◌⊎◌, ⊤, ℕ, ◌<◌, Bool, true, false, List, length, map, replicate, slice_index, slice_get, Option, Some, None}
use Rattle.wg_machine.specs.declared.shape.Shape.{Shape}
use Rattle.wg_machine.specs.declared.shape.Unit.{Unit}

-- by unit: its depth, and whether it waits
pub record Waiting : Type 0 where
  pub depths : List ℕ
  pub waits : List Bool

-- the units of a shape, of which none waits
abbrev pub none_waits : Shape → Waiting
none_waits shape =
    record { depths = map (λ (u : Unit). u.depth) shape.units; waits = replicate (length shape.units) false }

abbrev pub IsWaiting : Waiting → ℕ → Type 0
IsWaiting w u = slice_get w.waits u ≡ Some true

-- u comes before v: it is deeper, or as deep with the lesser number
abbrev pub IsBefore : Waiting → ℕ → ℕ → Type 0
IsBefore w u v =
    (slice_index w.depths v < slice_index w.depths u) ⊎ ((slice_index w.depths v ≡ slice_index w.depths u) × (u < v))

-- a unit comes before what was picked; each does where nothing was
abbrev pub Precedes : Waiting → ℕ → Option ℕ → Type 0
Precedes w u None = ⊤
Precedes w u (Some v) = IsBefore w u v

-- a unit is deeper than what was picked
abbrev pub IsDeeper : Waiting → ℕ → Option ℕ → Type 0
IsDeeper w u None = ⊤
IsDeeper w u (Some v) = slice_index w.depths v < slice_index w.depths u
