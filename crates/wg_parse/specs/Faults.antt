-- What is answered for tokens that spell no tree within the nesting: the place and the kind of the first that fails. Own.
use Rattle.std.specs.Prelude.{◌≡◌, ℕ, ◌+◌, ◌-◌, ◌≤◌, ◌^◌, min, List, [], ◌∷◌, length, slice_get, Option, Some, None, Result, Ok, Err}
use Rattle.wg_words.specs.declared.place.Place.{Place}
use Rattle.wg_tokens.specs.declared.token.Token.{Token}
use Rattle.wg_tokens.specs.declared.token.TokenKind.{TokenKind}
use Rattle.wg_tokens.specs.declared.token.TokenKind.TheVariants as kind
use Rattle.wg_tree.specs.declared.item.Source.{Source}
use Rattle.wg_tokens.specs.Cut.{Cuts}
use Rattle.wg_tokens.specs.LexicalRules.{most_bytes}
use Rattle.wg_tree.specs.ParseFaults.{IsExpected, IsTooDeep, Answer, spelled, expected, too_deep}
use Rattle.wg_parse.specs.declared.parsing.ParseFault.{ParseFault}
use Rattle.wg_parse.specs.declared.parsing.ParseFault.TheVariants as fault

-- how deep statements and expressions may nest, each
abbrev pub nesting : ℕ
nesting = 64

abbrev pub last : List Token → Option Token
last tokens = slice_get tokens (length tokens - 1)

-- the place of the byte after the last token
abbrev pub end_of : Option Token → Place
end_of None = record { line = 1; column = 1 }
end_of (Some t) = record { line = t.place.line; column = t.place.column + (t.to - t.from) }

-- a place as it is answered: a column that 32 bits can't hold is the greatest that they can
abbrev pub in_32_bits : Place → Place
in_32_bits p = record { line = p.line; column = min p.column (2 ^ 32 - 1) }

-- the tokens are those of a text that is not too long
abbrev pub IsOfText : List Token → Type 0
IsOfText tokens = (text : List ℕ) × Cuts text tokens × (length text ≤ most_bytes)

-- the place of the next token, or of the end of the tokens
abbrev pub place_at : List Token → List Token → Place
place_at tokens [] = in_32_bits (end_of (last tokens))
place_at tokens (t ∷ later) = t.place

abbrev pub kind_at : List Token → TokenKind
kind_at [] = kind.End
kind_at (t ∷ later) = t.kind

-- a fault of the tokens at this rest, unless there was no memory
abbrev pub SaysExpected : List Token → List Token → ParseFault → Type 0
SaysExpected tokens rest (fault.Expected place kind) = (place ≡ place_at tokens rest) × (kind ≡ kind_at rest)
SaysExpected tokens rest (fault.TooDeep place) = ⊥
SaysExpected tokens rest fault.Memory = Unit {0}

-- the fault has its cause in the tokens, within this nesting; want of memory needs none
abbrev pub HasCause : ℕ → List Token → ParseFault → Type 0
HasCause limit tokens (fault.Expected place kind) = (rest : List Token) × IsExpected limit tokens rest × (place ≡ place_at tokens rest) × (kind ≡ kind_at rest)
HasCause limit tokens (fault.TooDeep place) = (rest : List Token) × IsTooDeep limit tokens rest × (place ≡ place_at tokens rest)
HasCause limit tokens fault.Memory = Unit {0}

-- this answer is what the result says, unless there was no memory
abbrev pub TellsAnswer : List Token → Answer → Result Source ParseFault → Type 0
TellsAnswer tokens answer (Ok tree) = answer ≡ spelled tree
TellsAnswer tokens answer (Err (fault.Expected place kind)) = (rest : List Token) × (answer ≡ expected rest) × (place ≡ place_at tokens rest) × (kind ≡ kind_at rest)
TellsAnswer tokens answer (Err (fault.TooDeep place)) = (rest : List Token) × (answer ≡ too_deep rest) × (place ≡ place_at tokens rest)
TellsAnswer tokens answer (Err fault.Memory) = Unit {0}
