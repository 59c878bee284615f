-- What is printed for an answer, and what the sink holds after it.
use Rattle.std.specs.Prelude.{◌≡◌, ◌⊎◌, ℕ, List, [], Option}
use Rattle.wg_io.specs.Causes.{RoseOnce, Appends, AppendsFront}
use Rattle.wg_tool.specs.declared.answer.Answer.{Answer}
use Rattle.wg_tool.specs.declared.answer.Answer.TheVariants.{Done, Refused, Usage, BadScript, ReadFault, WriteFault, OutOfMemory, TooLong}

-- the exit status
abbrev pub status_of : Answer → ℕ
status_of Done = 0
status_of Refused = 1
status_of Usage = 2
status_of BadScript = 3
status_of (ReadFault input) = 6
status_of WriteFault = 7
status_of OutOfMemory = 8
status_of (TooLong input) = 10

-- a front of the text of some answer is written
abbrev pub BeginsText : (Answer → List ℕ → Type 0) → Option (List ℕ) → Option (List ℕ) → Type 0
BeginsText says old new = (given : Answer) × (text : List ℕ) × says given text × AppendsFront old new text

-- the answer's text is written whole, and no write failed
abbrev pub EndsText : (Answer → List ℕ → Type 0) → Option (List ℕ) → Option (List ℕ) → ℕ → ℕ → Answer → Type 0
EndsText says old new before now given = (text : List ℕ) × says given text × Appends old new text × (now ≡ before)

-- The answer's text is written whole, and no write failed. Where one failed it is the only one, and a front of the text
-- of the answer in place of which the fault comes is written; so it is where memory was wanting, or nothing is.
abbrev pub Concludes : (Answer → List ℕ → Type 0) → Option (List ℕ) → Option (List ℕ) → ℕ → ℕ → Answer → Type 0
Concludes says old new before now WriteFault = RoseOnce before now × BeginsText says old new
Concludes says old new before now OutOfMemory = (now ≡ before) × (Appends old new [] ⊎ BeginsText says old new)
Concludes says old new before now Done = EndsText says old new before now Done
Concludes says old new before now Refused = EndsText says old new before now Refused
Concludes says old new before now Usage = EndsText says old new before now Usage
Concludes says old new before now BadScript = EndsText says old new before now BadScript
Concludes says old new before now (ReadFault input) = EndsText says old new before now (ReadFault input)
Concludes says old new before now (TooLong input) = EndsText says old new before now (TooLong input)

-- The text of an answer is written whole, or else a front of it, where a write failed.
abbrev pub WritesText : Answer → List ℕ → Option (List ℕ) → Option (List ℕ) → ℕ → ℕ → Answer → Type 0
WritesText wanted text old new before now given =
    ((given ≡ wanted) × Appends old new text × (now ≡ before))
    ⊎ ((given ≡ WriteFault) × RoseOnce before now × AppendsFront old new text)
