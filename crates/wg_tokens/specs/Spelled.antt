-- The words and the marks of the language by their spellings. This project's profile of HLSL.
use Rattle.std.specs.Prelude.{ℕ, ◌+◌, ◌-◌, ◌*◌, ◌/◌, ◌%◌, if◌then◌else◌, List, [], ◌∷◌, map, length, slice_index, bytes_eq, Option, Some, None}
use Rattle.wg_tokens.specs.declared.keyword.Keyword.{Keyword}
use Rattle.wg_tokens.specs.declared.keyword.TheConstants.{KEYWORDS}
use Rattle.wg_tokens.specs.declared.mark.Mark.{Mark}
use Rattle.wg_tokens.specs.declared.mark.TheConstants.{MARKS}

-- what a table has for these bytes
abbrev pub lookup : {X : Type 0} → List (List ℕ × X) → List ℕ → Option X
lookup [] bytes = None
lookup (entry ∷ rest) bytes = if bytes_eq entry.0 bytes then Some entry.1 else lookup rest bytes

abbrev pub words : List (List ℕ × Keyword)
words = map (λ entry. (entry.0.now, entry.1)) KEYWORDS

abbrev pub marks : List (List ℕ × Mark)
marks = map (λ entry. (entry.0.now, entry.1)) MARKS

abbrev pub keyword_of : List ℕ → Option Keyword
keyword_of name = lookup words name

abbrev pub mark_named : List ℕ → Option Mark
mark_named bytes = lookup marks bytes

-- a number below 128 that tells the words of the language apart. Own.
abbrev pub slot : List ℕ → ℕ
slot name = (slice_index name 0 * 5 + slice_index name (length name / 2) * 3 + slice_index name (length name - 1) * 23 + length name % 32 * 12) % 128

-- the word of an entry, if there is one and it is spelled so
abbrev pub if_spelled : Option (List ℕ × Keyword) → List ℕ → Option Keyword
if_spelled None name = None
if_spelled (Some entry) name = if bytes_eq entry.0 name then Some entry.1 else None
