-- When each fault comes.
use Rattle.std.specs.Prelude.{◌≡◌, ℕ, ◌<◌, ◌≤◌, List, length, take}
use Rattle.wg_words.specs.declared.place.Place.{Place}
use Rattle.wg_tokens.specs.Cut.{place_after}
use Rattle.wg_tokens.specs.LexicalRules as rules
use Rattle.wg_lex.specs.declared.fault.LexFault.{LexFault}
use Rattle.wg_lex.specs.declared.fault.LexFault.TheVariants as is

-- the rule is the first that is broken, at this place
abbrev pub IsFirstAt : List ℕ → rules.LexicalRule → Place → Type 0
IsFirstAt text rule place = (length text ≤ rules.most_bytes) × ((at : ℕ) × rules.BreaksFirst text rule at × (place ≡ place_after (take at text)))

abbrev pub IsFault : List ℕ → LexFault → Type 0
IsFault text (is.NotAscii place) = IsFirstAt text rules.not_ascii place
IsFault text (is.Preprocessor place) = IsFirstAt text rules.preprocessor place
IsFault text (is.WideLiteral place) = IsFirstAt text rules.wide_literal place
IsFault text (is.OpenComment place) = IsFirstAt text rules.open_comment place
IsFault text (is.StrayByte place) = IsFirstAt text rules.stray_byte place
IsFault text is.TextTooLong = rules.most_bytes < length text
IsFault text is.Memory = Unit {0}
