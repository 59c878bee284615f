-- What holds of the parts of every script: what the machine asks of entry records and of buffers.
use Rattle.std.specs.Prelude.{◌≡◌, ℕ, ◌≤◌, false, length, slice_index, slice_get, Some, IsTrue}
use Rattle.std.specs.List.{sum}
use Rattle.wg_words.specs.Each.{Each}
use Rattle.wg_words.specs.declared.limits.TheConstants.{MOST_ENTRIES, MOST_BUFFER_WORDS, MOST_ALL_BUFFER_WORDS}
use Rattle.wg_machine.specs.declared.launch.Sent.{Sent}
use Rattle.wg_machine.specs.declared.shape.Shape.{Shape}
use Rattle.wg_machine.specs.declared.shape.Unit.{Unit}
use Rattle.wg_machine.specs.Buffers.{buffer_at}
use Rattle.wg_machine.specs.LaunchMeaning.{Arrives}
use Rattle.wg_script.specs.declared.script.Script.{Script}
use Rattle.wg_script.specs.Rules.{grid_is_large, bool_is_bad}

-- a record that may be handed in: of an entry unit, with its words, a grid within its maximum, and `bool` words 0 or 1
pub record IsGoodRecord (shape : Shape) (r : Sent) : Type 0 where
  pub unit : Unit
  pub there : slice_get shape.units r.unit ≡ Some unit
  pub entry : IsTrue unit.entry
  pub words : length r.words ≡ unit.words
  pub grid : grid_is_large unit.kind r.words ≡ false
  pub bools : bool_is_bad unit.bools r.words ≡ false

-- good records that arrive, within the limits; and as many words of a buffer as it has at most, within the limits
pub record IsFit (shape : Shape) (s : Script) : Type 0 where
  pub records : Each (IsGoodRecord shape) s.entries
  pub arrive : Each (Arrives shape) s.entries
  pub few : length s.entries ≤ MOST_ENTRIES
  pub fits : (b : ℕ) → length (buffer_at s.start b) ≤ slice_index s.lengths b
  pub small : (b : ℕ) → slice_index s.lengths b ≤ MOST_BUFFER_WORDS
  pub all : sum s.lengths ≤ MOST_ALL_BUFFER_WORDS
