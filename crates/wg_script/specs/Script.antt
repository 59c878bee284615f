-- The script that lines give. This project's own.
use Rattle.std.specs.Prelude.{◌≡◌, ℕ, ◌<◌, ◌==◌, Bool, false, if◌then◌else◌, List, [], ◌∷◌, length, slice_index, Option, Some, None, unwrap_or}
use Rattle.std.specs.List.{flat_map, sum_by}
use Rattle.wg_machine.specs.declared.launch.Sent.{Sent}
use Rattle.wg_machine.specs.declared.shape.Shape.{Shape}
use Rattle.wg_machine.specs.Buffers.{buffer_at}
use Rattle.wg_script.specs.declared.lines.Line.{Line}
use Rattle.wg_script.specs.declared.lines.Line.TheVariants.{Nothing, Entry, Buffer}
use Rattle.wg_script.specs.declared.script.Script.{Script}
use Rattle.wg_script.specs.declared.draft.Given.{Given}
use Rattle.wg_words.specs.Padding.{padded}
use Rattle.wg_script.specs.Naming.{entry_unit_at, place_among}

-- an entry line hands a record to the entry unit that it names
abbrev pub handed : Shape → Line → List Sent
handed shape Nothing = []
handed shape (Entry name index words) = record { unit = unwrap_or (entry_unit_at shape name index) 0; words = words } ∷ []
handed shape (Buffer name count words) = []

-- the records of the entry lines, in their order
abbrev pub entries_of : Shape → List Line → List Sent
entries_of shape said = flat_map (handed shape) said

abbrev pub is_place : ℕ → Option ℕ → Bool
is_place b None = false
is_place b (Some place) = place == b

abbrev pub given_by : List (List ℕ) → ℕ → Line → Option Given
given_by names b Nothing = None
given_by names b (Entry name index words) = None
given_by names b (Buffer name count words) = if is_place b (place_among names name) then Some (record { count = count; words = words }) else None

abbrev pub or_else : {A : Type 0} → Option A → Option A → Option A
or_else None other = other
or_else (Some x) other = Some x

-- the count and the words of the first line of the buffer at a place
abbrev pub given_at : List (List ℕ) → ℕ → List Line → Option Given
given_at names b [] = None
given_at names b (line ∷ said) = or_else (given_by names b line) (given_at names b said)

abbrev pub asked_by : Line → ℕ
asked_by Nothing = 0
asked_by (Entry name index words) = 0
asked_by (Buffer name count words) = count

-- the words of all buffers together
abbrev pub asked_of : List Line → ℕ
asked_of said = sum_by asked_by said

abbrev pub count_given : Option Given → ℕ
count_given None = 0
count_given (Some g) = g.count

abbrev pub words_given : Option Given → List ℕ
words_given None = []
words_given (Some g) = g.words

-- A buffer has the words of its line; those that are missing up to the line's count are zeros. Without a line it has none.
abbrev pub whole_buffer : Option Given → List ℕ
whole_buffer None = []
whole_buffer (Some g) = padded g.words g.count

-- The script of what was said: its records, and of each buffer of the shape the length and the words given. With zeros
-- after these it is the buffer.
pub record IsScript (shape : Shape) (said : List Line) (s : Script) : Type 0 where
  pub entries : s.entries ≡ entries_of shape said
  pub lengths : length s.lengths ≡ length shape.buffers
  pub starts : length s.start ≡ length shape.buffers
  pub count : (b : ℕ) → b < length shape.buffers → slice_index s.lengths b ≡ count_given (given_at shape.buffers b said)
  pub given : (b : ℕ) → b < length shape.buffers → buffer_at s.start b ≡ words_given (given_at shape.buffers b said)
  pub zeros : (b : ℕ) → b < length shape.buffers → padded (buffer_at s.start b) (slice_index s.lengths b) ≡ whole_buffer (given_at shape.buffers b said)
