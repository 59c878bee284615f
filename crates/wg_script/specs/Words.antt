-- How a text falls into lines, and a line into words. This project's own.
use Rattle.std.specs.Prelude.{ℕ, ◌-◌, Bool, true, false, if◌then◌else◌, List, [], ◌∷◌, length, take, drop, Option, Some, None, unwrap_or}
use Rattle.std.specs.List.{slice_split, filter}
use Rattle.std.specs.Str.{bytes_eq}
use Rattle.wg_words.specs.Characters.{is_line_feed}
use Rattle.wg_text.specs.declared.cutting.Separator.TheVariants.{Blank}
use Rattle.wg_text.specs.Cut.{separates}

-- what follows a front; none where a text does not begin with it
abbrev pub after : List ℕ → List ℕ → Option (List ℕ)
after front text = if bytes_eq (take (length front) text) front then Some (drop (length front) text) else None

-- what stands before an end; none where a text does not end with it
abbrev pub before : List ℕ → List ℕ → Option (List ℕ)
before back text = if bytes_eq (drop (length text - length back) text) back then Some (take (length text - length back) text) else None

-- a line without the carriage return at its end
abbrev pub without_return : List ℕ → List ℕ
without_return line = unwrap_or (before (13 ∷ []) line) line

-- A carriage return is dropped where a line feed follows it; the last piece has none.
abbrev pub lines_from : List (List ℕ) → List (List ℕ)
lines_from [] = []
lines_from (last ∷ []) = last ∷ []
lines_from (line ∷ next ∷ pieces) = without_return line ∷ lines_from (next ∷ pieces)

-- The lines of a text are what stands between its line feeds. So the last is empty where the text ends with one.
abbrev pub lines_of : List ℕ → List (List ℕ)
lines_of text = lines_from (slice_split is_line_feed text)

abbrev pub is_some_text : List ℕ → Bool
is_some_text [] = false
is_some_text (c ∷ text) = true

-- the words of a line: what stands between its blanks, where that is not nothing
abbrev pub line_words : List ℕ → List (List ℕ)
line_words line = filter is_some_text (slice_split (separates Blank) line)
