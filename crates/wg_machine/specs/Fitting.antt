-- Bags whose records fit a shape, and bodies that keep the laws. This project's own.
use Rattle.std.specs.Prelude.{◌≡◌, ℕ, ◌<◌, ◌≤◌, false, List, length, IfSome}
use Rattle.wg_words.specs.Each.{Each}
use Rattle.wg_machine.specs.declared.launch.Launch.{Launch}
use Rattle.wg_machine.specs.declared.launch.Live.{Live}
use Rattle.wg_machine.specs.declared.shape.Kind.TheVariants.{Thread}
use Rattle.wg_machine.specs.declared.shape.Shape.{Shape}
use Rattle.wg_machine.specs.Buffers.{Buffers, lengths_of}
use Rattle.wg_machine.specs.Grids.{grid_of, groups_of}
use Rattle.wg_machine.specs.LaunchMeaning.{Meaning, FitsShape, KeepsLaws}
use Rattle.wg_machine.specs.Run.{times}
use Rattle.wg_machine.specs.State.{State}
use Rattle.wg_machine.specs.Units.{kind_at, words_at, shared_at}

-- A live record is of a unit of the shape, and has as many words as that. Its grid is the one that its first words gave
-- it, which are its words still where the unit is not shared. Its groups are groups of its grid, each at most once.
pub record IsFitting (shape : Shape) (r : Live) : Type 0 where
  pub unit : r.unit < length shape.units
  pub words : length r.words ≡ words_at shape r.unit
  pub first_words : List ℕ
  pub grid : r.grid ≡ grid_of (kind_at shape r.unit) first_words
  pub stays : shared_at shape r.unit ≡ false → first_words ≡ r.words
  pub groups : (at : List ℕ) → times at r.groups ≤ times at (groups_of r.grid)

abbrev pub BagFits : Shape → List Live → Type 0
BagFits shape bag = Each (IsFitting shape) bag

-- a state's bag fits, and its buffers have these lengths
pub record StateFits (shape : Shape) (lengths : List ℕ) (s : State) : Type 0 where
  pub bag : BagFits shape s.bag
  pub buffers : lengths_of s.buffers ≡ lengths

-- every launch that fits and is not spent keeps to the laws
abbrev pub IsLawful : Shape → Meaning → Type 0
IsLawful shape made = (l : Launch) (m : Buffers) (t : ℕ) → FitsShape shape l → IfSome (made l m t) (KeepsLaws shape l m t)

-- every launch that fits sends at most one record
abbrev pub SendsOne : Shape → Meaning → Type 0
SendsOne shape made = (l : Launch) (m : Buffers) (t : ℕ) → FitsShape shape l → IfSome (made l m t) (λ o. length o.sent ≤ 1)

abbrev pub OnlyThreads : Shape → Type 0
OnlyThreads shape = (u : ℕ) → kind_at shape u ≡ Thread
