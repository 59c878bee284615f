-- Which journals are reports of a shape, and which line of a text is the first that no report has there.
use Rattle.std.specs.Prelude.{◌≡◌, ◌≢◌, ◌⊎◌, ℕ, ◌+◌, ◌^◌, ◌<◌, ◌≤◌, ◌&&◌, nat_lt, Bool, true, List, [], ◌∷◌, ◌++◌, length, Option, Some, None, Result, Ok, Err, IsTrue, IfSome}
use Rattle.wg_words.specs.Each.{Each}
use Rattle.wg_machine.specs.declared.shape.Shape.{Shape}
use Rattle.wg_machine.specs.declared.launch.Entry.{Entry}
use Rattle.wg_words.specs.Characters.{is_identifier}
use Rattle.wg_journal.specs.declared.fault.JournalFault.{JournalFault}
use Rattle.wg_journal.specs.declared.fault.JournalFault.TheVariants as faults
use Rattle.wg_machine.specs.declared.journal.Done.{Done}
use Rattle.wg_machine.specs.declared.journal.BufferLine.{BufferLine}
use Rattle.wg_machine.specs.declared.journal.Stop.{Stop}
use Rattle.wg_machine.specs.declared.journal.Stop.TheVariants.{Turns, Launches}
use Rattle.wg_machine.specs.declared.journal.Tail.{Tail}
use Rattle.wg_machine.specs.declared.journal.Journal.{Journal}
use Rattle.wg_journal.specs.Texts.{report_text}

abbrev pub first_is_above : List ℕ → ℕ → Bool
first_is_above [] n = true
first_is_above (m ∷ ms) n = nat_lt n m

-- each number is above the one before it
abbrev pub is_rising : List ℕ → Bool
is_rising [] = true
is_rising (n ∷ ns) = first_is_above ns n && is_rising ns

-- what a launch takes: a group of a unit of the shape, and records in rising order of number
pub record IsTaken (shape : Shape) (unit : ℕ) (group inputs : List ℕ) : Type 0 where
  pub unit_there : unit < length shape.units
  pub three : length group ≡ 3
  pub group_fits : Each (λ n. n < 2 ^ 32) group
  pub some : inputs ≢ []
  pub rising : IsTrue (is_rising inputs)
  pub inputs_fit : Each (λ n. n < 2 ^ 64) inputs

-- The numbers that a launch gives follow one another, and are fewer than 2^32.
pub record IsGoodEntry (shape : Shape) (e : Entry) : Type 0 where
  pub taken : IsTaken shape e.unit e.at e.inputs
  pub outs_few : e.outs < 2 ^ 32
  pub outs_fit : e.first_out + e.outs ≤ 2 ^ 64
  pub none : e.outs ≡ 0 → e.first_out ≡ 0

pub record IsGoodDone (d : Done) : Type 0 where
  pub launches_fit : d.launches < 2 ^ 64
  pub records_fit : d.records < 2 ^ 64
  pub denied_fit : d.denied < 2 ^ 64
  pub peak_fits : d.peak < 2 ^ 64
  pub bytes_fit : d.bytes < 2 ^ 64

-- Any name of HLSL may stand in a buffer's line; whose it is, and how many words it has, is not the format's.
pub record IsGoodBuffer (b : BufferLine) : Type 0 where
  pub named : IsTrue (is_identifier b.name)
  pub count_fits : b.count < 2 ^ 64
  pub words_fit : Each (λ n. n < 2 ^ 32) b.words

abbrev pub IsGoodStop : Shape → Stop → Type 0
IsGoodStop shape (Turns turns unit group inputs) = (turns < 2 ^ 64) × IsTaken shape unit group inputs
IsGoodStop shape (Launches launches) = launches < 2 ^ 64

-- the line of a complete run with buffers, a stop, or nothing
abbrev pub IsGoodTail : Shape → Tail → Type 0
IsGoodTail shape t =
    IfSome t.done IsGoodDone × Each IsGoodBuffer t.buffers × IfSome t.stop (IsGoodStop shape)
    × (t.done ≡ None → t.buffers ≡ []) × ((t.done ≡ None) ⊎ (t.stop ≡ None))

-- a journal that has a report of this shape
pub record IsReport (shape : Shape) (j : Journal) : Type 0 where
  pub few : length j.entries < 2 ^ 64
  pub entries : Each (IsGoodEntry shape) j.entries
  pub tail : IsGoodTail shape j.tail

abbrev pub how_many : {X : Type 0} → Option X → ℕ
how_many None = 0
how_many (Some x) = 1

-- how many lines its report has
abbrev pub lines_in : Journal → ℕ
lines_in j = length j.entries + how_many j.tail.done + length j.tail.buffers + how_many j.tail.stop

-- A text has no line of this number that a report may have there: what stands before the line is a report, what
-- stands up to its end is none.
pub record IsFirstBadLine (shape : Shape) (text : List ℕ) (number : ℕ) : Type 0 where
  pub front : Journal
  pub is_report : IsReport shape front
  pub before : lines_in front + 1 ≡ number
  pub rest : List ℕ
  pub begins : text ≡ report_text shape front ++ rest
  pub more : rest ≢ []
  pub bad : (j : Journal) (after : List ℕ) → IsReport shape j → lines_in j ≡ number → text ≢ report_text shape j ++ after

-- a report's text is read as the report, unless memory runs out
abbrev pub ReadsAs : Journal → Result Journal JournalFault → Type 0
ReadsAs j (Ok read) = read ≡ j
ReadsAs j (Err faults.Memory) = Unit {0}
ReadsAs j (Err (faults.Line number)) = ⊥
