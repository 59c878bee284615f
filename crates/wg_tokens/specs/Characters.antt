-- The bytes of a text by their use, beside those of names and lines. Texts are of ASCII; only a comment holds other bytes. This project's profile of HLSL.
use Rattle.std.specs.Prelude.{ℕ, ◌-◌, List, Bool, not, ◌&&◌, ◌||◌, ◌==◌, nat_le, if◌then◌else◌}
use Rattle.std.specs.List.{list_any}
use Rattle.wg_words.specs.Characters.{is_between, is_line_feed, is_digit}

-- one of these characters
abbrev pub is_one_of : List ℕ → ℕ → Bool
is_one_of these b = list_any (λ c. c == b) these

-- space, tab, carriage return and line feed
abbrev pub is_blank : ℕ → Bool
is_blank b = b == 32 || b == 9 || b == 13 || is_line_feed b

abbrev pub is_hex_digit : ℕ → Bool
is_hex_digit b = is_digit b || is_between 97 102 b || is_between 65 70 b

-- what a digit is worth, `a` and `A` being worth 10
abbrev pub digit_value : ℕ → ℕ
digit_value b = if is_digit b then b - 48 else (if nat_le 97 b then b - 87 else b - 55)

-- what stands in a string: the bytes 32 to 126 but `"` and `\`
abbrev pub is_text_byte : ℕ → Bool
is_text_byte b = is_between 32 126 b && not (b == 34) && not (b == 92)
