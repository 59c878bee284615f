-- A number at the front of a text.
use Rattle.std.specs.Prelude.{◌≡◌, ℕ, ◌+◌, ◌^◌, ◌<◌, ◌≤◌, Bool, true, false, ◌&&◌, ◌==◌, List, length, take, drop, slice_index, IfSome, IfNone}
use Rattle.std.specs.List.{list_any}
use Rattle.wg_tokens.specs.Spelling.{worth, token, is_unsigned_letter, is_long_letter, is_suffix, goes_on_hexadecimal}
use Rattle.wg_tokens.specs.Cut.{IsLongest}
use Rattle.wg_tokens.specs.declared.token.TokenKind.TheVariants.{Number}
use Rattle.wg_lex.specs.declared.numbers.Suffix.{Suffix}
use Rattle.wg_lex.specs.declared.numbers.Numeral.{Numeral}

-- no suffix at the front of the text is longer than this one
pub record IsLongestSuffix (text : List ℕ) (suffix : Suffix) : Type 0 where
  pub inside : suffix.size ≤ length text
  pub is : is_suffix (take suffix.size text) ≡ true
  pub unsigned : list_any is_unsigned_letter (take suffix.size text) ≡ suffix.unsigned
  pub long : list_any is_long_letter (take suffix.size text) ≡ suffix.long
  pub longest : (m : ℕ) → suffix.size < m → m ≤ length text → is_suffix (take m text) ≡ false

-- the number is these digits and the suffix after them
pub record IsSuffixed (text : List ℕ) (count base : ℕ) (numeral : Numeral) : Type 0 where
  pub value : IfSome numeral.value (λ value. value ≡ worth base (take count text))
  pub wide : IfNone numeral.value (2 ^ 64 ≤ worth base (take count text))
  pub suffix : IsLongestSuffix (drop count text) numeral.suffix
  pub size : numeral.size ≡ count + numeral.suffix.size

-- the number of this value is the longest piece at the front
abbrev pub IsNumberOf : List ℕ → ℕ → Numeral → Type 0
IsNumberOf text value numeral = IsLongest text (record { matter = token (Number value numeral.suffix.unsigned numeral.suffix.long); size = numeral.size })

pub record IsNumeral (text : List ℕ) (numeral : Numeral) : Type 0 where
  pub value : IfSome numeral.value (λ value. IsNumberOf text value numeral)
  pub wide : IfNone numeral.value ((value : ℕ) × (2 ^ 64 ≤ value) × IsNumberOf text value numeral)

-- the number goes on after `0x` or `0X`
abbrev pub begins_hexadecimal : List ℕ → Bool
begins_hexadecimal text = slice_index text 0 == 48 && goes_on_hexadecimal (drop 1 text)
