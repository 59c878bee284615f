-- How a report is read: line by line, each line field by field. What reading gives is proved to be the report's
-- definition, in both directions.
use Rattle.std.specs.Prelude.{ℕ, ◌+◌, ◌^◌, ◌==◌, ◌&&◌, nat_lt, Bool, true, false, if◌then◌else◌, List, [], ◌∷◌, ◌++◌, length, Option, Some, None, codes, is_none, is_some}
use Rattle.std.specs.Option.{option_map}
use Rattle.std.specs.List.{slice_split}
use Rattle.std.specs.Str.{bytes_eq}
use Rattle.wg_machine.specs.declared.launch.Entry.{Entry}
use Rattle.wg_words.specs.Characters.{is_identifier}
use Rattle.wg_words.specs.Maybe.{◌>>=◌}
use Rattle.wg_text.specs.Cut.{cut}
use Rattle.wg_text.specs.Numbers.{printed_number}
use Rattle.wg_machine.specs.declared.journal.Done.{Done}
use Rattle.wg_machine.specs.declared.journal.BufferLine.{BufferLine}
use Rattle.wg_machine.specs.declared.journal.Stop.{Stop}
use Rattle.wg_machine.specs.declared.journal.Stop.TheVariants.{Turns, Launches}
use Rattle.wg_machine.specs.declared.journal.Tail.{Tail}
use Rattle.wg_machine.specs.declared.journal.Journal.{Journal}
use Rattle.wg_journal.specs.declared.lines.Line.{Line}
use Rattle.wg_journal.specs.declared.lines.Line.TheVariants as lines
use Rattle.wg_journal.specs.declared.lines.Taken.{Taken}
use Rattle.wg_journal.specs.Report.{is_rising}

abbrev pub guard : Bool → Option (Unit {0})
guard true = Some tt
guard false = None

-- the fields of a line, apart by single spaces
abbrev pub split_fields : List ℕ → List (List ℕ)
split_fields line = slice_split (λ b. b == 32) line

-- A field and the fields after it.
abbrev pub number_field : List (List ℕ) → Option (ℕ × List (List ℕ))
number_field [] = None
number_field (f ∷ fields) = option_map (λ (n : ℕ). (n, fields)) (printed_number f)

abbrev pub if_word : Option ℕ → Option ℕ
if_word None = None
if_word (Some n) = if nat_lt n (2 ^ 32) then Some n else None

-- a field that is a number below 2^32
abbrev pub word_field : List (List ℕ) → Option (ℕ × List (List ℕ))
word_field [] = None
word_field (f ∷ fields) = option_map (λ (n : ℕ). (n, fields)) (if_word (printed_number f))

abbrev pub keyword_field : List ℕ → List (List ℕ) → Option (Unit {0} × List (List ℕ))
keyword_field word [] = None
keyword_field word (f ∷ fields) = if bytes_eq f word then Some (tt, fields) else None

unfoldable pub named_field : List ℕ → List (List ℕ) → Option (ℕ × List (List ℕ))
named_field word fields = do
  k ← keyword_field word fields
  number_field k.1

abbrev pub name_field : List (List ℕ) → Option (List ℕ × List (List ℕ))
name_field [] = None
name_field (f ∷ fields) = if is_identifier f then Some (f, fields) else None

abbrev pub unit_field : (List ℕ → Option ℕ) → List (List ℕ) → Option (ℕ × List (List ℕ))
unit_field names [] = None
unit_field names (f ∷ fields) = option_map (λ (u : ℕ). (u, fields)) (names f)

abbrev pub end_at : List (List ℕ) → Option (Unit {0} × List (List ℕ))
end_at [] = Some (tt, [])
end_at (f ∷ fields) = None

abbrev pub onto_numbers : Option ℕ → List (List ℕ) → List ℕ × List (List ℕ) → List ℕ × List (List ℕ)
onto_numbers None all more = ([], all)
onto_numbers (Some n) all more = (n ∷ more.0, more.1)

-- the numbers that stand in front
abbrev pub number_fields : List (List ℕ) → List ℕ × List (List ℕ)
number_fields [] = ([], [])
number_fields (f ∷ fields) = onto_numbers (printed_number f) (f ∷ fields) (number_fields fields)

abbrev pub onto_words : Option ℕ → Option (List ℕ) → Option (List ℕ)
onto_words None words = None
onto_words (Some n) words = option_map (λ (ws : List ℕ). n ∷ ws) words

-- all that is left, as words
abbrev pub word_fields : List (List ℕ) → Option (List ℕ)
word_fields [] = Some []
word_fields (f ∷ fields) = onto_words (if_word (printed_number f)) (word_fields fields)

-- numbers that follow a first and so many more, to the end
abbrev pub outs_from : ℕ → ℕ → List (List ℕ) → Option (ℕ × ℕ)
outs_from first count [] = Some (first, count)
outs_from first count (f ∷ fields) = printed_number f >>= λ n. if (n == first + count) && nat_lt (count + 1) (2 ^ 32) then outs_from first (count + 1) fields else None

abbrev pub outs_at : List (List ℕ) → Option (ℕ × ℕ)
outs_at [] = Some (0, 0)
outs_at (f ∷ fields) = printed_number f >>= λ n. outs_from n 1 fields

abbrev pub is_some_rising : List ℕ → Bool
is_some_rising [] = false
is_some_rising (n ∷ ns) = is_rising (n ∷ ns)

-- the three numbers of a group
unfoldable pub group_field : List (List ℕ) → Option (List ℕ × List (List ℕ))
group_field fields = do
  g ← keyword_field (codes "g") fields
  x ← word_field g.1
  y ← word_field x.1
  z ← word_field y.1
  Some (x.0 ∷ y.0 ∷ z.0 ∷ [], z.1)

-- a unit, its group and what it takes
unfoldable pub taken_at : (List ℕ → Option ℕ) → List (List ℕ) → Option (Taken × List (List ℕ))
taken_at names fields = do
  unit ← unit_field names fields
  group ← group_field unit.1
  i ← keyword_field (codes "in") group.1
  if is_some_rising (number_fields i.1).0 then Some (record { unit = unit.0; group = group.0; inputs = (number_fields i.1).0 }, (number_fields i.1).1) else None

unfoldable pub launch_at : (List ℕ → Option ℕ) → ℕ → List ℕ → List (List ℕ) → Option Entry
launch_at names place first fields = do
  number ← printed_number first
  _ ← guard (number == place)
  taken ← taken_at names fields
  out ← keyword_field (codes "out") taken.1
  outs ← outs_at out.1
  Some (record { unit = taken.0.unit; at = taken.0.group; inputs = taken.0.inputs; first_out = outs.0; outs = outs.1 })

unfoldable pub done_at : List (List ℕ) → Option Done
done_at fields = do
  launches ← named_field (codes "launches") fields
  records ← named_field (codes "records") launches.1
  denied ← named_field (codes "denied") records.1
  peak ← named_field (codes "peak") denied.1
  bytes ← named_field (codes "of") peak.1
  _ ← end_at bytes.1
  Some (record { launches = launches.0; records = records.0; denied = denied.0; peak = peak.0; bytes = bytes.0 })

unfoldable pub buffer_line_at : List (List ℕ) → Option BufferLine
buffer_line_at fields = do
  name ← name_field fields
  count ← number_field name.1
  words ← word_fields count.1
  Some (record { name = name.0; count = count.0; words = words })

unfoldable pub turns_at : (List ℕ → Option ℕ) → List (List ℕ) → Option Stop
turns_at names fields = do
  turns ← number_field fields
  taken ← taken_at names turns.1
  _ ← end_at taken.1
  Some (Turns turns.0 taken.0.unit taken.0.group taken.0.inputs)

unfoldable pub launches_at : List (List ℕ) → Option Stop
launches_at fields = do
  launches ← number_field fields
  _ ← end_at launches.1
  Some (Launches launches.0)

abbrev pub stop_at : (List ℕ → Option ℕ) → List (List ℕ) → Option Stop
stop_at names [] = None
stop_at names (f ∷ fields) = if bytes_eq f (codes "turns") then turns_at names fields else if bytes_eq f (codes "launches") then launches_at fields else None

-- a line by its first field, as it may stand after so many launches
abbrev pub line_at : (List ℕ → Option ℕ) → ℕ → List (List ℕ) → Option Line
line_at names place [] = None
line_at names place (f ∷ fields) =
    if bytes_eq f (codes "done") then option_map (λ (d : Done). lines.Done d) (done_at fields)
    else if bytes_eq f (codes "buffer") then option_map (λ (b : BufferLine). lines.Buffer b) (buffer_line_at fields)
    else if bytes_eq f (codes "stopped") then option_map (λ (s : Stop). lines.Stop s) (stop_at names fields)
    else option_map (λ (e : Entry). lines.Launch e) (launch_at names place f fields)

-- the tail has no line
abbrev pub is_unended : Tail → Bool
is_unended t = is_none t.done && is_none t.stop

-- a journal with one more line, where it may follow
abbrev pub with_line : Journal → Line → Option Journal
with_line j (lines.Launch e) = if is_unended j.tail then Some (record j { entries = j.entries ++ e ∷ [] }) else None
with_line j (lines.Done d) = if is_unended j.tail then Some (record j { tail = record j.tail { done = Some d } }) else None
with_line j (lines.Buffer b) = if is_some j.tail.done then Some (record j { tail = record j.tail { buffers = j.tail.buffers ++ b ∷ [] } }) else None
with_line j (lines.Stop s) = if is_unended j.tail then Some (record j { tail = record j.tail { stop = Some s } }) else None

-- a journal with the line in front of a text, and what follows that line
unfoldable pub step : (List ℕ → Option ℕ) → Journal → List ℕ → Option (Journal × List ℕ)
step names j text = do
  parts ← cut (λ c. c == 10) text
  line ← line_at names (length j.entries) (split_fields parts.0)
  more ← with_line j line
  Some (more, parts.1)
