-- The launch that an entry of a journal names.
use Rattle.std.specs.Prelude.{◌≡◌, ℕ, ◌==◌, ◌&&◌, ◌||◌, not, Bool, List, Option, Some, None}
use Rattle.std.specs.List.{list_all}
use Rattle.wg_machine.specs.declared.shape.Shape.{Shape}
use Rattle.wg_machine.specs.declared.launch.Entry.{Entry}
use Rattle.wg_machine.specs.declared.launch.Launch.{Launch}
use Rattle.wg_machine.specs.declared.launch.Live.{Live}
use Rattle.wg_machine.specs.Grids.{has_group}
use Rattle.wg_machine.specs.Step.{Allows, has_number, numbers_of}

-- each of the records with these numbers passes
abbrev pub all_taken : (Live → Bool) → List ℕ → List Live → Bool
all_taken passes numbers bag = list_all (λ (r : Live). not (has_number numbers r.number) || passes r) bag

-- the record is of the unit, and has the group left
abbrev pub is_ready : ℕ → List ℕ → Live → Bool
is_ready unit at r = (r.unit == unit) && has_group r.groups at

-- The launch is one that the bag allows, of the entry's unit, group and records.
pub record IsNamed (shape : Shape) (bag : List Live) (e : Entry) (l : Launch) : Type 0 where
  pub unit : l.unit ≡ e.unit
  pub inputs : numbers_of l.records ≡ e.inputs
  pub allowed : Allows shape bag l e.at

-- the launch that an entry names, or that there is none
abbrev pub FoundIs : Shape → List Live → Entry → Option Launch → Type 0
FoundIs shape bag e None = (l : Launch) → IsNamed shape bag e l → ⊥
FoundIs shape bag e (Some l) = IsNamed shape bag e l
