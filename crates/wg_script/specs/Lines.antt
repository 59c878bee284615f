-- What a line of a script says. This project's own.
use Rattle.std.specs.Prelude.{ℕ, ◌^◌, if◌then◌else◌, List, [], ◌∷◌, ◌++◌, take, Option, Some, None, unwrap_or, codes}
use Rattle.std.specs.Option.{option_map}
use Rattle.std.specs.List.{filter_map}
use Rattle.std.specs.Str.{bytes_eq}
use Rattle.wg_words.specs.Characters.{is_identifier}
use Rattle.wg_words.specs.Maybe.{◌>>=◌}
use Rattle.wg_text.specs.Numbers.{number_below}
use Rattle.wg_script.specs.declared.numbers.Version.{Version}
use Rattle.wg_script.specs.declared.numbers.Version.TheVariants.{One, Two}
use Rattle.wg_script.specs.declared.lines.Line.{Line}
use Rattle.wg_script.specs.declared.lines.Line.TheVariants.{Nothing, Entry, Buffer}
use Rattle.wg_script.specs.Words.{line_words}
use Rattle.wg_script.specs.Numbers.{words_by, indexed_name}

abbrev pub onto : Option (List ℕ) → Option (List ℕ) → Option (List ℕ)
onto None words = None
onto (Some some) words = option_map (λ (ws : List ℕ). some ++ ws) words

-- the words of 32 bits that all of some texts give
abbrev pub all_words : Version → List (List ℕ) → Option (List ℕ)
all_words version [] = Some []
all_words version (w ∷ ws) = onto (words_by version w) (all_words version ws)

-- after `entry`: `NAME WORD ..` or `NAME[i] WORD ..`
abbrev pub entry_said : Version → List (List ℕ) → Option Line
entry_said version [] = None
entry_said version (w ∷ ws) = indexed_name w >>= λ target. option_map (λ (words : List ℕ). Entry target.0 target.1 words) (all_words version ws)

-- nothing, or `:` and words
abbrev pub start_of : Version → List (List ℕ) → Option (List ℕ)
start_of version [] = Some []
start_of version (w ∷ ws) = if bytes_eq w (codes ":") then all_words version ws else None

abbrev pub count_said : Version → List ℕ → List (List ℕ) → Option Line
count_said version name [] = None
count_said version name (w ∷ ws) = number_below (2 ^ 32) 10 w >>= λ count. option_map (λ (words : List ℕ). Buffer name count words) (start_of version ws)

-- after `buffer`: `NAME COUNT` or `NAME COUNT : WORD ..`
abbrev pub buffer_said : Version → List (List ℕ) → Option Line
buffer_said version [] = None
buffer_said version (w ∷ ws) = if is_identifier w then count_said version w ws else None

abbrev pub said_by_words : Version → List (List ℕ) → Option Line
said_by_words version [] = Some Nothing
said_by_words version (w ∷ ws) =
    if bytes_eq w (codes "entry") then entry_said version ws
    else if bytes_eq w (codes "buffer") then buffer_said version ws
    else None

-- what a line says; none where it has no form of a line. A comment begins with `//`, a line of blanks says nothing.
abbrev pub said_of : Version → List ℕ → Option Line
said_of version line = if bytes_eq (take 2 line) (codes "//") then Some Nothing else said_by_words version (line_words line)

abbrev pub version_by : List ℕ → Option Version
version_by word =
    if bytes_eq word (codes "1") then Some One
    else if bytes_eq word (codes "2") then Some Two
    else None

-- the words `script 1` or `script 2`
abbrev pub title_of : List (List ℕ) → Option Version
title_of [] = None
title_of (a ∷ []) = None
title_of (a ∷ b ∷ []) = if bytes_eq a (codes "script") then version_by b else None
title_of (a ∷ b ∷ c ∷ ws) = None

-- the version of a script that has a title
abbrev pub version_of : List ℕ → Version
version_of first = unwrap_or (title_of (line_words first)) One

-- what a line says after the lines before it: the first is the title
abbrev pub meaning : List (List ℕ) → List ℕ → Option Line
meaning [] line = option_map (λ (version : Version). Nothing) (title_of (line_words line))
meaning (first ∷ lines) line = said_of (version_of first) line

-- what the lines of a script say in order, those after the title
abbrev pub all_said : List (List ℕ) → List Line
all_said [] = []
all_said (first ∷ lines) = filter_map (said_of (version_of first)) lines
