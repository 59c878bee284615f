-- The units of a shape by their texts.
use Rattle.std.specs.Prelude.{◌≡◌, ℕ, ◌<◌, ◌^◌, List, length, Option, Some, slice_get, unwrap_or}
use Rattle.std.specs.Option.{option_map}
use Rattle.wg_machine.specs.declared.shape.Shape.{Shape}
use Rattle.wg_machine.specs.declared.shape.Unit.{Unit}
use Rattle.wg_machine.specs.declared.shape.NodeName.{NodeName}
use Rattle.wg_text.specs.Names.{found_in}
use Rattle.wg_journal.specs.declared.names.UnitNames.{UnitNames}
use Rattle.wg_journal.specs.Texts.{unit_label}

-- the unit that a text names
abbrev pub unit_in : UnitNames → List ℕ → Option ℕ
unit_in names text = found_in names.by_text text

-- the index of a unit's node in its node array
abbrev pub index_at : Shape → ℕ → ℕ
index_at shape u =
    unwrap_or (option_map (λ (n : Unit). unwrap_or (option_map (λ (m : NodeName). m.index) (slice_get shape.nodes n.node)) 0) (slice_get shape.units u)) 0

-- each text names the unit whose text it is, and no other does
pub record NamesUnits (shape : Shape) (names : List ℕ → Option ℕ) : Type 0 where
  pub sound : (text : List ℕ) (u : ℕ) → names text ≡ Some u → (u < length shape.units) × (text ≡ unit_label shape u)
  pub again : (u : ℕ) → u < length shape.units → names (unit_label shape u) ≡ Some u
  pub index : (u : ℕ) → u < length shape.units → index_at shape u < 2 ^ 64
