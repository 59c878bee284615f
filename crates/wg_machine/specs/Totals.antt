-- What records add to a word of a buffer, with all that comes of them, where bodies only add. This project's own.
use Rattle.std.specs.Prelude.{◌≡◌, ℕ, zero, suc, ◌+◌, ◌-◌, ◌%◌, ◌^◌, ◌<◌, List, length, sum_by, Option, Some, None}
use Rattle.wg_machine.specs.declared.shape.Shape.{Shape}
use Rattle.wg_machine.specs.declared.launch.Sent.{Sent}
use Rattle.wg_machine.specs.Additive.{zero_buffers, group_launch}
use Rattle.wg_machine.specs.Buffers.{Buffers, lengths_of, buffer_at, word_at}
use Rattle.wg_machine.specs.Grids.{grid_of, groups_of, place_of}
use Rattle.wg_machine.specs.LaunchMeaning.{Meaning, Outcome}
use Rattle.wg_machine.specs.Units.{kind_at, depth_at}

-- a graph with its bodies, the turns, the buffers' lengths, and the word in question
pub record Question : Type 0 where
  pub shape : Shape
  pub made : Meaning
  pub turns : ℕ
  pub lengths : List ℕ
  pub buffer : ℕ
  pub word : ℕ

-- what a launch adds to the word, with what its sent records add by `total`; nothing where it is spent
abbrev pub added_by : Question → (ℕ → List ℕ → ℕ) → Option Outcome → ℕ
added_by q total None = 0
added_by q total (Some o) = word_at o.buffers q.buffer q.word + sum_by (λ (s : Sent). total s.unit s.words) o.sent

-- what one group of a record adds
abbrev pub group_adds : Question → (ℕ → List ℕ → ℕ) → ℕ → List ℕ → ℕ → ℕ
group_adds q total unit words place = added_by q total (q.made (group_launch q.shape unit words place) (zero_buffers q.lengths) q.turns)

-- what these groups add
abbrev pub groups_add : Question → (ℕ → List ℕ → ℕ) → ℕ → List ℕ → List (List ℕ) → ℕ
groups_add q total unit words groups =
    sum_by (λ (at : List ℕ). group_adds q total unit words (place_of (grid_of (kind_at q.shape unit) words) at)) groups

-- what a record and all that comes of it in at most so many generations add
abbrev pub total_within : ℕ → Question → ℕ → List ℕ → ℕ
total_within zero q unit words = 0
total_within (suc n) q unit words = groups_add q (total_within n q) unit words (groups_of (grid_of (kind_at q.shape unit) words))

-- What a record of a unit adds to the word, with all that comes of it: no chain of units is longer than 32.
abbrev pub total : Question → ℕ → List ℕ → ℕ
total q unit words = total_within (33 - depth_at q.shape unit) q unit words

abbrev pub total_of_entries : Question → List Sent → ℕ
total_of_entries q script = sum_by (λ (e : Sent). total q e.unit e.words) script

-- The buffers at the end are those of the start, with the totals of the entry records added.
pub record EndsWithTotals (shape : Shape) (made : Meaning) (turns : ℕ) (script : List Sent) (before after : Buffers) : Type 0 where
  pub lengths : lengths_of after ≡ lengths_of before
  pub words : (b w : ℕ) → w < length (buffer_at before b)
      → word_at after b w ≡ (word_at before b w + total_of_entries (record { shape = shape; made = made; turns = turns; lengths = lengths_of before; buffer = b; word = w }) script) % 2 ^ 32
