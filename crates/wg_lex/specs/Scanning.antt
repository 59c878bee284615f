-- Parts of a text, as the steps of the lexer say them.
use Rattle.std.specs.Prelude.{◌≡◌, ℕ, ◌+◌, ◌<◌, ◌≤◌, Bool, false, ◌&&◌, ◌==◌, if◌then◌else◌, List, [], ◌∷◌, length, take, slice_index, Option, Some, None}
use Rattle.std.specs.Option.{option_map}
use Rattle.wg_tokens.specs.declared.mark.Mark.{Mark}
use Rattle.wg_words.specs.Characters.{is_letter, is_digit}
use Rattle.wg_tokens.specs.Characters.{is_blank}
use Rattle.wg_tokens.specs.Spelled.{mark_named}

-- the first n bytes are this mark, and no more of them are one
pub record IsLongestMark (text : List ℕ) (mark : Mark) (n : ℕ) : Type 0 where
  pub inside : n ≤ length text
  pub is : mark_named (take n text) ≡ Some mark
  pub longest : (m : ℕ) → n < m → m ≤ length text → mark_named (take m text) ≡ None

abbrev pub IsNoMark : List ℕ → Type 0
IsNoMark text = (m : ℕ) → m ≤ length text → mark_named (take m text) ≡ None

-- how many bytes there are to the end of the first `*/`, where a `*` may stand before them
abbrev pub comment_end : Bool → List ℕ → Option ℕ
comment_end after_star [] = None
comment_end after_star (b ∷ bs) = if after_star && b == 47 then Some 1 else option_map (λ n. n + 1) (comment_end (b == 42) bs)

-- no blank, name, number, string or comment begins with these bytes
pub record BeginsNoOther (text : List ℕ) : Type 0 where
  pub blank : is_blank (slice_index text 0) ≡ false
  pub letter : is_letter (slice_index text 0) ≡ false
  pub digit : is_digit (slice_index text 0) ≡ false
  pub quote : (slice_index text 0 == 34) ≡ false
  pub line : (slice_index text 0 == 47 && slice_index text 1 == 47) ≡ false
  pub block : (slice_index text 0 == 47 && slice_index text 1 == 42) ≡ false
