-- What each step of the lexer finds at the front of a text.
use Rattle.std.proofs.Common.{◌≡◌, ◌≢◌, ℕ, zero, suc, ◌+◌, ◌^◌, ◌<◌, ◌≤◌, ◌==◌, Bool, true, false, ◌&&◌, List, [], ◌∷◌, length, take, drop, get_or, Option, Some, None, refl, sym, ◌∙◌, ap, subst, arith, inl, inr, not}
use Rattle.std.specs.List.{prefix_len}
use Rattle.std.proofs.lemmas.Bool.Decides.{nat_tests}
use Rattle.wg_words.specs.Characters.{is_letter, is_digit, is_word, is_line_feed}
use Rattle.wg_tokens.specs.Characters.{is_blank, is_text_byte}
use Rattle.wg_tokens.specs.declared.mark.Mark as Signs
use Rattle.wg_tokens.specs.declared.token.TokenKind.TheVariants.{Plain, Number, Text, Mark}
use Rattle.wg_tokens.specs.Spelling.{comment, token, matter_of}
use Rattle.wg_tokens.specs.Cut.{IsLongest}
use Rattle.wg_lex.specs.declared.numbers.Suffix.{Suffix}
use Rattle.wg_lex.specs.declared.numbers.Numeral.{Numeral}
use Rattle.wg_lex.specs.declared.front.Front.TheVariants.{Skipped, Token, WideLiteral, OpenComment, Stray}
use Rattle.wg_lex.specs.Numerals.{IsNumeral}
use Rattle.wg_lex.specs.Scanning.{BeginsNoOther, IsLongestMark, IsNoMark, comment_end}
use Rattle.wg_lex.specs.Fronts.{IsFront}
use Rattle.wg_lex.proofs.FrontRules.{not_wide, not_wide_number, not_open, opens_comment}
use Rattle.wg_lex.proofs.Longest.{blank_is, name_is, text_is, open_text_is, line_comment_is, block_comment_is, open_comment_is, mark_is, no_piece}

letter_is_no_slash : (b : ℕ) (v : Bool) → is_letter b ≡ true → (b == 47 && v) ≡ false
letter_is_no_slash b v h = let e : (b == 47) ≡ false = grind (arith, nat_tests) in rw e refl

digit_is_no_slash : (b : ℕ) (v : Bool) → is_digit b ≡ true → (b == 47 && v) ≡ false
digit_is_no_slash b v h = let e : (b == 47) ≡ false = grind (arith, nat_tests) in rw e refl

pub front_of_name : (text : List ℕ) (n : ℕ) → n ≡ prefix_len is_word text → is_blank (get_or text 0 0) ≡ false → is_letter (get_or text 0 0) ≡ true
    → IsFront text (Token (Plain (take n text)) n)
front_of_name text n run plain letter = let is = name_is text n run plain letter in
    (is, not_wide text (record { matter = token (Plain (take n text)); size = n }) is (λ v u l e. other e), not_open text (letter_is_no_slash (get_or text 0 0) (get_or text 1 0 == 42) letter))
  where
    other : {name : List ℕ} {v : ℕ} {u l : Bool} → token (Plain name) ≡ token (Number v u l) → ⊥
    other e = cc

pub front_of_number : (text : List ℕ) (numeral : Numeral) (value : ℕ) → is_digit (get_or text 0 0) ≡ true → value < 2 ^ 64 → numeral.value ≡ Some value → IsNumeral text numeral
    → IsFront text (Token (Number value numeral.suffix.unsigned numeral.suffix.long) numeral.size)
front_of_number text numeral value digit fits some h = let is = value_of_numeral text numeral.value value numeral.size numeral.suffix some h in
    (is, not_wide_number text value numeral.size numeral.suffix.unsigned numeral.suffix.long is fits, not_open text (digit_is_no_slash (get_or text 0 0) (get_or text 1 0 == 42) digit))
  where
    value_of_numeral : (text : List ℕ) (value : Option ℕ) (v size : ℕ) (s : Suffix) → value ≡ Some v → IsNumeral text (record { value = value; suffix = s; size = size }) → IsLongest text (record { matter = token (Number v s.unsigned s.long); size = size })
    value_of_numeral text (Some w) v size s e h = let same : w ≡ v = cc in subst (λ z. IsLongest text (record { matter = token (Number z s.unsigned s.long); size = size })) same h.value
    value_of_numeral text None v size s e h = absurd (cc)

-- a number that has no value is wide
pub front_of_wide : (text : List ℕ) (numeral : Numeral) → numeral.value ≡ None → IsNumeral text numeral → IsFront text WideLiteral
front_of_wide text numeral none h = wide text numeral.value numeral.size numeral.suffix none h
  where
    wide : (text : List ℕ) (value : Option ℕ) (size : ℕ) (s : Suffix) → value ≡ None → IsNumeral text (record { value = value; suffix = s; size = size }) → IsFront text WideLiteral
    wide text (Some w) size s e h = absurd (cc)
    wide text None size s e h = (h.wide.0, s.unsigned, s.long, size, h.wide.2, h.wide.1)

quote_is_no_slash : (b : ℕ) (v : Bool) → b ≡ 34 → (b == 47 && v) ≡ false
quote_is_no_slash b v h = rw h refl

pub front_of_text : (text rest : List ℕ) (n : ℕ) → get_or text 0 0 ≡ 34 → rest ≡ drop 1 text → n ≡ prefix_len is_text_byte rest → get_or rest n 0 ≡ 34
    → IsFront text (Token (Text (take n rest)) (n + 2))
front_of_text text rest n first after run quote = let is = text_is text rest n first after run quote in
    (is, not_wide text (record { matter = token (Text (take n rest)); size = n + 2 }) is (λ v u l e. other e), not_open text (quote_is_no_slash (get_or text 0 0) (get_or text 1 0 == 42) first))
  where
    other : {bytes : List ℕ} {v : ℕ} {u l : Bool} → token (Text bytes) ≡ token (Number v u l) → ⊥
    other e = cc

pub front_of_open_text : (text rest : List ℕ) (n : ℕ) → 0 < length text → get_or text 0 0 ≡ 34 → rest ≡ drop 1 text → n ≡ prefix_len is_text_byte rest → get_or rest n 0 ≢ 34
    → IsFront text Stray
front_of_open_text text rest n some first after run quote = (some, open_text_is text rest n first after run (differs (get_or rest n 0) quote))
  where
    differs : (b : ℕ) → b ≢ 34 → (b == 34) ≡ false
    differs b h = grind (arith, nat_tests)

-- two bytes, from their tests
both : (b c x y : ℕ) → (b == x && c == y) ≡ true → (b ≡ x) × (c ≡ y)
both b c x y h = (grind (arith, nat_tests), grind (arith, nat_tests))

pub front_of_line_comment : (text rest : List ℕ) (n : ℕ) → (get_or text 0 0 == 47 && get_or text 1 0 == 47) ≡ true → rest ≡ drop 2 text → n ≡ prefix_len (λ b. not (is_line_feed b)) rest
    → IsFront text (Skipped (n + 2))
front_of_line_comment text rest n h after run = let b = both (get_or text 0 0) (get_or text 1 0) 47 47 h in let is = line_comment_is text rest n b.0 b.1 after run in (inr is, λ opened. opened.1 (n + 2) is.inside is.is)

pub front_of_block_comment : (text rest : List ℕ) (n : ℕ) → (get_or text 0 0 == 47 && get_or text 1 0 == 42) ≡ true → rest ≡ drop 2 text → Some n ≡ comment_end false rest
    → IsFront text (Skipped (n + 2))
front_of_block_comment text rest n h after at = let b = both (get_or text 0 0) (get_or text 1 0) 47 42 h in let is = block_comment_is text rest n b.0 b.1 after at in (inr is, λ opened. opened.1 (n + 2) is.inside is.is)

pub front_of_open_comment : (text rest : List ℕ) → (get_or text 0 0 == 47 && get_or text 1 0 == 42) ≡ true → rest ≡ drop 2 text → None ≡ comment_end false rest → IsFront text OpenComment
front_of_open_comment text rest h after at = (opens_comment text h, none text rest after at (both (get_or text 0 0) (get_or text 1 0) 47 42 h))
  where
    none : (text rest : List ℕ) → rest ≡ drop 2 text → None ≡ comment_end false rest → (get_or text 0 0 ≡ 47) × (get_or text 1 0 ≡ 42) → (m : ℕ) → m ≤ length text → matter_of (take m text) ≡ Some comment → ⊥
    none text rest after at b zero k e = cc
    none [] rest after at b (suc m) k e = omega arith
    none (c ∷ cs) rest after at b (suc zero) k e = let one : matter_of (c ∷ []) ≡ matter_of (47 ∷ []) = ap (λ z. matter_of (z ∷ [])) b.0 in mark (sym one ∙ e)
      where
        mark : matter_of (47 ∷ []) ≡ Some comment → ⊥
        mark e = cc
    none (c ∷ cs) rest after at b (suc (suc m)) k e = let n = open_comment_is (c ∷ cs) rest (suc (suc m)) b.0 b.1 after at (omega arith) k in cc

pub front_of_mark : (text : List ℕ) (code : Signs.Mark) (n : ℕ) → BeginsNoOther text → IsLongestMark text code n → IsFront text (Token (Mark code) n)
front_of_mark text code n h mark = let is = mark_is text code n h mark in
    (is, not_wide text (record { matter = token (Mark code); size = n }) is (λ v u l e. other e), not_open text h.block)
  where
    other : {code : Signs.Mark} {v : ℕ} {u l : Bool} → token (Mark code) ≡ token (Number v u l) → ⊥
    other e = cc

pub front_of_stray : (text : List ℕ) → 0 < length text → BeginsNoOther text → IsNoMark text → IsFront text Stray
front_of_stray text some h none = (some, no_piece text h none)

pub front_of_blank : (text : List ℕ) → 0 < length text → is_blank (get_or text 0 0) ≡ true → IsFront text (Skipped 1)
front_of_blank text some h = (inl (blank_is text some h), not_open text (blank_is_no_slash (get_or text 0 0) (get_or text 1 0 == 42) h))
  where
    blank_is_no_slash : (b : ℕ) (v : Bool) → is_blank b ≡ true → (b == 47 && v) ≡ false
    blank_is_no_slash b v h = let e : (b == 47) ≡ false = grind (arith, nat_tests) in rw e refl
