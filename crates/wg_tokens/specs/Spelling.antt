-- What bytes spell, taken as a whole: a blank, a comment or a token.
use Rattle.std.specs.Prelude.{ℕ, ◌+◌, ◌*◌, Bool, true, false, ◌&&◌, ◌||◌, ◌==◌, not, if◌then◌else◌, List, [], ◌∷◌, drop, take_while, fold, Option, Some, None, codes}
use Rattle.std.specs.List.{list_all, list_any, prefix_len}
use Rattle.std.specs.Option.{option_map}
use Rattle.wg_tokens.specs.declared.token.TokenKind.{TokenKind}
use Rattle.wg_tokens.specs.declared.token.TokenKind.TheVariants.{Plain, Number, Text, Mark}
use Rattle.wg_tokens.specs.Spelled.{mark_named}
use Rattle.wg_words.specs.Characters.{is_line_feed, is_letter, is_digit, is_word}
use Rattle.wg_tokens.specs.Characters.{is_one_of, is_blank, is_hex_digit, digit_value, is_text_byte}

-- what a piece of a text is
pub data Matter : Type 0 where
  blank : Matter
  comment : Matter
  token : TokenKind → Matter

abbrev pub is_empty : List ℕ → Bool
is_empty [] = true
is_empty (b ∷ bs) = false

abbrev pub only_if : Bool → Matter → Option Matter
only_if test matter = if test then Some matter else None

-- ---- numbers: decimal digits, or `0x` or `0X` and hexadecimal digits; then a suffix

-- what digits are worth in this base
abbrev pub worth : ℕ → List ℕ → ℕ
worth base digits = fold (λ value b. value * base + digit_value b) 0 digits

-- the letter of `unsigned`
abbrev pub is_unsigned_letter : ℕ → Bool
is_unsigned_letter b = is_one_of (codes "uU") b

-- the letter of `long`
abbrev pub is_long_letter : ℕ → Bool
is_long_letter b = is_one_of (codes "lL") b

-- nothing, one of the two letters, or one of each in any order
abbrev pub is_suffix : List ℕ → Bool
is_suffix [] = true
is_suffix (a ∷ []) = is_unsigned_letter a || is_long_letter a
is_suffix (a ∷ b ∷ []) = (is_unsigned_letter a && is_long_letter b) || (is_long_letter a && is_unsigned_letter b)
is_suffix (a ∷ b ∷ c ∷ rest) = false

-- the number of this value, by the suffix that stands after its digits
abbrev pub with_suffix : ℕ → List ℕ → Option Matter
with_suffix value suffix = only_if (is_suffix suffix) (token (Number value (list_any is_unsigned_letter suffix) (list_any is_long_letter suffix)))

-- digits and their suffix
abbrev pub number_in : (ℕ → Bool) → ℕ → List ℕ → Option Matter
number_in is_one base bytes = with_suffix (worth base (take_while is_one bytes)) (drop (prefix_len is_one bytes) bytes)

-- after a 0: an `x`, and a hexadecimal digit
abbrev pub goes_on_hexadecimal : List ℕ → Bool
goes_on_hexadecimal [] = false
goes_on_hexadecimal (x ∷ bytes) = is_one_of (codes "xX") x && begins bytes
  where
    begins : List ℕ → Bool
    begins [] = false
    begins (d ∷ ds) = is_hex_digit d

abbrev pub number_from : ℕ → List ℕ → Option Matter
number_from b bytes =
    if b == 48 && goes_on_hexadecimal bytes then number_in is_hex_digit 16 (drop 1 bytes)
    else number_in is_digit 10 (b ∷ bytes)

-- ---- strings: after the first `"`

abbrev pub is_quote : List ℕ → Bool
is_quote [] = false
is_quote (b ∷ bs) = b == 34 && is_empty bs

abbrev pub text_of : List ℕ → Option Matter
text_of bytes = only_if (is_quote (drop (prefix_len is_text_byte bytes) bytes)) (token (Text (take_while is_text_byte bytes)))

-- ---- punctuation

abbrev pub mark_of : List ℕ → Option Matter
mark_of bytes = option_map (λ mark. token (Mark mark)) (mark_named bytes)

-- ---- comments: `//` to the end of the line, `/*` to the first `*/`

abbrev pub stays_on_line : List ℕ → Bool
stays_on_line bytes = list_all (λ b. not (is_line_feed b)) bytes

-- the first `*/` of these bytes is their end
abbrev pub closes : List ℕ → Bool
closes [] = false
closes (b ∷ bs) = closes_at b bs (closes bs)
  where
    closes_at : ℕ → List ℕ → Bool → Bool
    closes_at b [] later = false
    closes_at b (c ∷ cs) later = if b == 42 && c == 47 then is_empty cs else later

-- after a `/`
abbrev pub slash_of : List ℕ → Option Matter
slash_of [] = mark_of (codes "/")
slash_of (c ∷ cs) =
    if c == 47 then only_if (stays_on_line cs) comment
    else (if c == 42 then only_if (closes cs) comment else mark_of (47 ∷ c ∷ cs))

-- ---- a piece, by its first byte

abbrev pub matter_of : List ℕ → Option Matter
matter_of [] = None
matter_of (b ∷ bs) =
    if is_blank b then only_if (is_empty bs) blank
    else (if is_letter b then only_if (list_all is_word bs) (token (Plain (b ∷ bs)))
    else (if is_digit b then number_from b bs
    else (if b == 34 then text_of bs
    else (if b == 47 then slash_of bs
    else mark_of (b ∷ bs)))))
