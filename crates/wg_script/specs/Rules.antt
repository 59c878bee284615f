-- The nine rules on a script's lines, and the first that is broken. This project's own.
use Rattle.std.specs.Prelude.{◌≡◌, ℕ, ◌+◌, ◌<◌, ◌==◌, ◌&&◌, ◌||◌, not, nat_lt, nat_le, Bool, true, false, List, [], ◌∷◌, ◌++◌, length, slice_index, slice_get, Option, Some, None, is_none, is_some}
use Rattle.std.specs.List.{list_any}
use Rattle.wg_words.specs.declared.limits.TheConstants.{MOST_ENTRIES, MOST_BUFFER_WORDS, MOST_ALL_BUFFER_WORDS}
use Rattle.wg_machine.specs.declared.shape.Kind.{Kind}
use Rattle.wg_machine.specs.declared.shape.Kind.TheVariants.{Thread, Coalescing, Grid, GridField}
use Rattle.wg_machine.specs.declared.shape.Shape.{Shape}
use Rattle.wg_machine.specs.declared.shape.Unit.{Unit}
use Rattle.wg_script.specs.declared.lines.Line.{Line}
use Rattle.wg_script.specs.declared.lines.Line.TheVariants.{Nothing, Entry, Buffer}
use Rattle.wg_script.specs.declared.script.ScriptFault.{ScriptFault}
use Rattle.wg_script.specs.declared.script.ScriptFault.TheVariants as faults
use Rattle.wg_words.specs.Maybe.{◌>>=◌}
use Rattle.wg_script.specs.Words.{lines_of}
use Rattle.wg_script.specs.Lines.{meaning, all_said}
use Rattle.wg_script.specs.Naming.{node_place, entry_at, entry_unit_at, place_among}
use Rattle.wg_script.specs.Script.{entries_of, given_at, asked_of}

-- an entry line whose name and index no node has
abbrev pub has_no_node : Shape → Line → Bool
has_no_node shape Nothing = false
has_no_node shape (Entry name index words) = is_none (node_place shape name index)
has_no_node shape (Buffer name count words) = false

abbrev pub is_no_entry : Shape → Option ℕ → Bool
is_no_entry shape None = false
is_no_entry shape (Some node) = is_none (entry_at shape node)

-- an entry line whose node is no entry
abbrev pub has_no_entry : Shape → Line → Bool
has_no_entry shape Nothing = false
has_no_entry shape (Entry name index words) = is_no_entry shape (node_place shape name index)
has_no_entry shape (Buffer name count words) = false

-- the entry unit that an entry line names
abbrev pub unit_said : Shape → List ℕ → ℕ → Option Unit
unit_said shape name index = entry_unit_at shape name index >>= slice_get shape.units

abbrev pub of_unit : (Unit → Bool) → Option Unit → Bool
of_unit test None = false
of_unit test (Some unit) = test unit

abbrev pub words_of_unit : Option Unit → ℕ
words_of_unit None = 0
words_of_unit (Some unit) = unit.words

-- how many words a line wants: its unit's, or at most its count
abbrev pub wanted : Shape → Line → ℕ
wanted shape Nothing = 0
wanted shape (Entry name index words) = words_of_unit (unit_said shape name index)
wanted shape (Buffer name count words) = count

-- how many words a line has
abbrev pub words_had : Line → ℕ
words_had Nothing = 0
words_had (Entry name index words) = length words
words_had (Buffer name count words) = length words

-- an entry's words are not as many as the unit's, or a buffer's are more than its count
abbrev pub has_wrong_count : Shape → Line → Bool
has_wrong_count shape Nothing = false
has_wrong_count shape (Entry name index words) = of_unit (λ unit. not (length words == unit.words)) (unit_said shape name index)
has_wrong_count shape (Buffer name count words) = nat_lt count (length words)

-- the component k of a grid, if the record has it, is above the most
abbrev pub is_above : ℕ → ℕ → List ℕ → ℕ → ℕ → Bool
is_above first parts words k most = nat_lt k parts && nat_lt most (slice_index words (first + k))

-- the grid that the words hold has a component above the maximum
abbrev pub grid_is_large : Kind → List ℕ → Bool
grid_is_large Thread words = false
grid_is_large (Coalescing most) words = false
grid_is_large (Grid x y z) words = false
grid_is_large (GridField first parts x y z) words = is_above first parts words 0 x || is_above first parts words 1 y || is_above first parts words 2 z

abbrev pub has_large_grid : Shape → Line → Bool
has_large_grid shape Nothing = false
has_large_grid shape (Entry name index words) = of_unit (λ unit. grid_is_large unit.kind words) (unit_said shape name index)
has_large_grid shape (Buffer name count words) = false

-- a buffer line whose name no buffer has
abbrev pub has_no_buffer : Shape → Line → Bool
has_no_buffer shape Nothing = false
has_no_buffer shape (Entry name index words) = false
has_no_buffer shape (Buffer name count words) = is_none (place_among shape.buffers name)

-- a second line of one buffer
abbrev pub is_second : Shape → List Line → Line → Bool
is_second shape said Nothing = false
is_second shape said (Entry name index words) = false
is_second shape said (Buffer name count words) = is_some (place_among shape.buffers name >>= λ b. given_at shape.buffers b said)

-- a `bool` word other than 0 and 1
abbrev pub bool_is_bad : List ℕ → List ℕ → Bool
bool_is_bad places words = list_any (λ p. nat_lt 1 (slice_index words p)) places

abbrev pub has_bad_bool : Shape → Line → Bool
has_bad_bool shape Nothing = false
has_bad_bool shape (Entry name index words) = of_unit (λ unit. bool_is_bad unit.bools words) (unit_said shape name index)
has_bad_bool shape (Buffer name count words) = false

-- An entry line after 1,000,000 others; a buffer of more than 2^22 words, or one with which all have more than 2^24.
abbrev pub passes_limit : Shape → List Line → Line → Bool
passes_limit shape said Nothing = false
passes_limit shape said (Entry name index words) = nat_le MOST_ENTRIES (length (entries_of shape said))
passes_limit shape said (Buffer name count words) = nat_lt MOST_BUFFER_WORDS count || nat_lt MOST_ALL_BUFFER_WORDS (asked_of said + count)

abbrev pub ScriptRule : Type 0
ScriptRule = ScriptFault × Bool

-- the rules 2 to 9 in order, each with whether a line breaks it after what was said
abbrev pub rules_on : Shape → ℕ → List Line → Line → List ScriptRule
rules_on shape n said line =
    (faults.NoNode n, has_no_node shape line)
    ∷ (faults.NotEntry n, has_no_entry shape line)
    ∷ (faults.WordCount n (wanted shape line) (words_had line), has_wrong_count shape line)
    ∷ (faults.GridTooLarge n, has_large_grid shape line)
    ∷ (faults.NoBuffer n, has_no_buffer shape line)
    ∷ (faults.TwiceBuffer n, is_second shape said line)
    ∷ (faults.BadBool n, has_bad_bool shape line)
    ∷ (faults.TooMany n, passes_limit shape said line)
    ∷ []

-- the nine rules: a line that has no form breaks the first alone
abbrev pub rules_of : Shape → ℕ → List Line → Option Line → List ScriptRule
rules_of shape n said None = (faults.Form n, true) ∷ []
rules_of shape n said (Some line) = (faults.Form n, false) ∷ rules_on shape n said line

-- the rules on a line after the lines before it; the first line has the number 1
abbrev pub rules : Shape → List (List ℕ) → List ℕ → List ScriptRule
rules shape before line = rules_of shape (length before + 1) (all_said before) (meaning before line)

-- a line breaks the rule at a place in their order
abbrev pub LineBreaks : Shape → List (List ℕ) → List ℕ → ℕ → ScriptFault → Type 0
LineBreaks shape before line k fault = slice_get (rules shape before line) k ≡ Some (fault, true)

-- no line breaks a rule
abbrev pub AreGood : Shape → List (List ℕ) → Type 0
AreGood shape lines = (before : List (List ℕ)) (line : List ℕ) (after : List (List ℕ)) (k : ℕ) (fault : ScriptFault) → lines ≡ before ++ line ∷ after → LineBreaks shape before line k fault → ⊥

-- A fault is of the first line that breaks a rule, and of the first rule that the line breaks.
pub record IsFirstFault (shape : Shape) (text : List ℕ) (fault : ScriptFault) : Type 0 where
  pub before : List (List ℕ)
  pub line : List ℕ
  pub after : List (List ℕ)
  pub begins : lines_of text ≡ before ++ line ∷ after
  pub good : AreGood shape before
  pub place : ℕ
  pub broken : LineBreaks shape before line place fault
  pub least : (k : ℕ) (other : ScriptFault) → k < place → LineBreaks shape before line k other → ⊥
