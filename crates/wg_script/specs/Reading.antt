-- How a script is read line by line. What reading gives is proved to be the script, or the first fault.
use Rattle.std.specs.Prelude.{◌≡◌, ◌⊎◌, ℕ, ◌+◌, ◌==◌, ◌||◌, not, nat_lt, nat_le, if◌then◌else◌, List, [], ◌∷◌, ◌++◌, length, slice_get, slice_set, Option, Some, None, Result, Ok, Err}
use Rattle.std.specs.Option.{option_map}
use Rattle.wg_words.specs.declared.limits.TheConstants.{MOST_ENTRIES, MOST_BUFFER_WORDS, MOST_ALL_BUFFER_WORDS}
use Rattle.wg_machine.specs.declared.launch.Sent.{Sent}
use Rattle.wg_machine.specs.declared.shape.Shape.{Shape}
use Rattle.wg_machine.specs.declared.shape.Unit.{Unit}
use Rattle.wg_script.specs.declared.lines.Line.{Line}
use Rattle.wg_script.specs.declared.lines.Line.TheVariants.{Nothing, Entry, Buffer}
use Rattle.wg_script.specs.declared.draft.Given.{Given}
use Rattle.wg_script.specs.declared.script.ScriptFault.{ScriptFault}
use Rattle.wg_script.specs.declared.script.ScriptFault.TheVariants as faults
use Rattle.wg_script.specs.Naming.{node_place, entry_at, place_among}
use Rattle.wg_script.specs.Rules.{grid_is_large, bool_is_bad}

-- what the lines so far gave: the records, the line of each buffer, and the words of all buffers together
pub record Sofar : Type 0 where
  pub entries : List Sent
  pub given : List (Option Given)
  pub asked : ℕ

-- What a step of reading answers, and leaves, is what reading gives, unless memory ran out.
abbrev pub Adds : {X Y : Type 0} → Result X ScriptFault → Y → Result Y ScriptFault → Type 0
Adds (Ok x) new read = read ≡ Ok new
Adds (Err fault) new read = (fault ≡ faults.Memory) ⊎ (read ≡ Err fault)

-- the first rule from 4 on that a record of a unit breaks, after so many entries
abbrev pub record_fault : Unit → List ℕ → ℕ → ℕ → Option ScriptFault
record_fault unit words entries n =
    if not (length words == unit.words) then Some (faults.WordCount n unit.words (length words))
    else if grid_is_large unit.kind words then Some (faults.GridTooLarge n)
    else if bool_is_bad unit.bools words then Some (faults.BadBool n)
    else if nat_le MOST_ENTRIES entries then Some (faults.TooMany n)
    else None

abbrev pub unless_broken : {X : Type 0} → X → Option ScriptFault → Result X ScriptFault
unless_broken x None = Ok x
unless_broken x (Some fault) = Err fault

abbrev pub unit_checked : Option Unit → ℕ → List ℕ → ℕ → ℕ → Result ℕ ScriptFault
unit_checked None number words entries n = Err (faults.NotEntry n)
unit_checked (Some unit) number words entries n = unless_broken number (record_fault unit words entries n)

-- the entry unit that an entry line names
abbrev pub entry_checked : Shape → Option (Option ℕ) → List ℕ → ℕ → ℕ → Result ℕ ScriptFault
entry_checked shape None words entries n = Err (faults.NoNode n)
entry_checked shape (Some None) words entries n = Err (faults.NotEntry n)
entry_checked shape (Some (Some number)) words entries n = unit_checked (slice_get shape.units number) number words entries n

abbrev pub with_entry : List ℕ → Sofar → Result ℕ ScriptFault → Result Sofar ScriptFault
with_entry words s (Err fault) = Err fault
with_entry words s (Ok unit) = Ok (record s { entries = s.entries ++ (record { unit = unit; words = words }) ∷ [] })

abbrev pub entry_added : Shape → Option (Option ℕ) → List ℕ → ℕ → Sofar → Result Sofar ScriptFault
entry_added shape target words n s = with_entry words s (entry_checked shape target words (length s.entries) n)

abbrev pub slot_checked : Option (Option Given) → ℕ → ℕ → ℕ → ℕ → Result ℕ ScriptFault
slot_checked None place count asked n = Err (faults.NoBuffer n)
slot_checked (Some (Some g)) place count asked n = Err (faults.TwiceBuffer n)
slot_checked (Some None) place count asked n = if nat_lt MOST_BUFFER_WORDS count || nat_lt MOST_ALL_BUFFER_WORDS (asked + count) then Err (faults.TooMany n) else Ok place

abbrev pub place_checked : List (Option Given) → Option ℕ → ℕ → ℕ → ℕ → Result ℕ ScriptFault
place_checked given None count asked n = Err (faults.NoBuffer n)
place_checked given (Some place) count asked n = slot_checked (slice_get given place) place count asked n

-- the place of the buffer that a buffer line names
abbrev pub buffer_checked : List (Option Given) → Option ℕ → ℕ → List ℕ → ℕ → ℕ → Result ℕ ScriptFault
buffer_checked given place count words asked n =
    if nat_lt count (length words) then Err (faults.WordCount n count (length words)) else place_checked given place count asked n

abbrev pub with_buffer : ℕ → List ℕ → Sofar → Result ℕ ScriptFault → Result Sofar ScriptFault
with_buffer count words s (Err fault) = Err fault
with_buffer count words s (Ok place) = Ok (record s { given = slice_set s.given place (Some (record { count = count; words = words })); asked = s.asked + count })

abbrev pub buffer_added : Option ℕ → ℕ → List ℕ → ℕ → Sofar → Result Sofar ScriptFault
buffer_added place count words n s = with_buffer count words s (buffer_checked s.given place count words s.asked n)

-- what was given with one more line
abbrev pub added : Shape → ℕ → Sofar → Line → Result Sofar ScriptFault
added shape n s Nothing = Ok s
added shape n s (Entry name index words) = entry_added shape (option_map (entry_at shape) (node_place shape name index)) words n s
added shape n s (Buffer name count words) = buffer_added (place_among shape.buffers name) count words n s

-- and with a line that may have no form
abbrev pub line_added : Shape → ℕ → Sofar → Option Line → Result Sofar ScriptFault
line_added shape n s None = Err (faults.Form n)
line_added shape n s (Some line) = added shape n s line
