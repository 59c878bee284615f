-- The rules on a text's bytes and tokens, beside how it is cut, and which broken one is answered. This project's own.
use Rattle.std.specs.Prelude.{◌≡◌, ℕ, ◌^◌, ◌<◌, ◌≤◌, ◌⊎◌, Bool, IsTrue, List, length, take, drop, codes, None, slice_get, Some}
use Rattle.std.specs.List.{list_all, after_last}
use Rattle.wg_tokens.specs.declared.token.TokenKind.TheVariants.{Number}
use Rattle.wg_words.specs.Characters.{is_line_feed}
use Rattle.wg_tokens.specs.Characters.{is_blank}
use Rattle.wg_tokens.specs.Spelling.{comment, token, matter_of}
use Rattle.wg_tokens.specs.Cut.{IsLongest, IsCutAt}

-- a text has at most this many bytes
abbrev pub most_bytes : ℕ
most_bytes = 1048576

pub data LexicalRule : Type 0 where
  not_ascii : LexicalRule
  preprocessor : LexicalRule
  wide_literal : LexicalRule
  open_comment : LexicalRule
  stray_byte : LexicalRule

-- the number of the rule's fault; 106 is that of a text that is too long
abbrev pub rule_number : LexicalRule → ℕ
rule_number not_ascii = 101
rule_number preprocessor = 102
rule_number wide_literal = 103
rule_number open_comment = 104
rule_number stray_byte = 105

-- ---- each rule as it is broken where a piece begins, or should: by the bytes before and those from there on

-- a byte of 128 or more outside comments
abbrev pub IsNotAscii : List ℕ → Type 0
IsNotAscii rest = (b : ℕ) × (slice_get rest 0 ≡ Some b) × (128 ≤ b)

-- a `#` with nothing but blanks before it on its line
abbrev pub IsPreprocessor : List ℕ → List ℕ → Type 0
IsPreprocessor before rest = (slice_get rest 0 ≡ Some 35) × IsTrue (list_all is_blank (after_last is_line_feed before))

-- a number of more than 64 bits
abbrev pub IsWideLiteral : List ℕ → Type 0
IsWideLiteral rest = (value : ℕ) × (unsigned : Bool) × (long : Bool) × (size : ℕ) × IsLongest rest (record { matter = token (Number value unsigned long); size = size }) × (2 ^ 64 ≤ value)

-- a `/*` that no `*/` closes
abbrev pub IsOpenComment : List ℕ → Type 0
IsOpenComment rest = (take 2 rest ≡ codes "/*") × ((m : ℕ) → m ≤ length rest → matter_of (take m rest) ≡ Some comment → ⊥)

-- a byte that begins no piece, as the `"` of a string that does not end
abbrev pub IsStray : List ℕ → Type 0
IsStray rest = (0 < length rest) × ((m : ℕ) → m ≤ length rest → matter_of (take m rest) ≡ None)

abbrev pub IsBroken : LexicalRule → List ℕ → List ℕ → Type 0
IsBroken not_ascii before rest = IsNotAscii rest
IsBroken preprocessor before rest = IsPreprocessor before rest
IsBroken wide_literal before rest = IsWideLiteral rest
IsBroken open_comment before rest = IsOpenComment rest
IsBroken stray_byte before rest = IsStray rest

-- the text breaks the rule at byte `at`
abbrev pub Breaks : List ℕ → LexicalRule → ℕ → Type 0
Breaks text rule at = IsCutAt text at × IsBroken rule (take at text) (drop at text)

-- the text breaks the rule nowhere
abbrev pub Keeps : List ℕ → LexicalRule → Type 0
Keeps text rule = (at : ℕ) → Breaks text rule at → ⊥

abbrev pub BreaksNone : List ℕ → Type 0
BreaksNone text = (rule : LexicalRule) (at : ℕ) → Breaks text rule at → ⊥

-- the broken rule that is answered: that of the least place, and at one place that of the least number
pub record BreaksFirst (text : List ℕ) (rule : LexicalRule) (at : ℕ) : Type 0 where
  pub broken : Breaks text rule at
  pub first : (other : LexicalRule) (there : ℕ) → Breaks text other there → (at < there) ⊎ ((at ≡ there) × (rule_number rule ≤ rule_number other))
