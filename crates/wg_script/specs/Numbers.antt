-- Which words of a script are numbers, and which name a node. This project's own.
use Rattle.std.specs.Prelude.{ℕ, ◌/◌, ◌%◌, ◌^◌, ◌==◌, nat_le, if◌then◌else◌, List, [], ◌∷◌, length, Option, Some, None, codes}
use Rattle.std.specs.Option.{option_map}
use Rattle.wg_words.specs.Characters.{is_identifier}
use Rattle.wg_words.specs.Maybe.{◌>>=◌}
use Rattle.wg_words.specs.Words.{difference}
use Rattle.wg_text.specs.Cut.{cut}
use Rattle.wg_text.specs.Numbers.{number_below}
use Rattle.wg_script.specs.declared.numbers.Version.{Version}
use Rattle.wg_script.specs.declared.numbers.Version.TheVariants.{One, Two}
use Rattle.wg_script.specs.Words.{after, before}

-- a decimal number up to 2^31, taken from 0: it wraps
abbrev pub negative_of : List ℕ → Option ℕ
negative_of digits = number_below (2 ^ 32) 10 digits >>= λ n. if nat_le n (2 ^ 31) then Some (difference 32 0 n) else None

-- at most eight hexadecimal digits
abbrev pub hexadecimal_of : List ℕ → Option ℕ
hexadecimal_of digits = if nat_le (length digits) 8 then number_below (2 ^ 32) 16 digits else None

abbrev pub word_from : List ℕ → Option (List ℕ) → Option (List ℕ) → Option ℕ
word_from text (Some digits) hexadecimal = negative_of digits
word_from text None (Some digits) = hexadecimal_of digits
word_from text None None = number_below (2 ^ 32) 10 text

-- the word of 32 bits that a text gives: a decimal number, `-` and one up to 2^31, or `0x` and hexadecimal digits
abbrev pub script_word : List ℕ → Option ℕ
script_word text = word_from text (after (codes "-") text) (after (codes "0x") text)

-- a decimal number up to 2^63, taken from 0: it wraps
abbrev pub wide_negative_of : List ℕ → Option ℕ
wide_negative_of digits = number_below (2 ^ 64) 10 digits >>= λ n. if nat_le n (2 ^ 63) then Some (difference 64 0 n) else None

abbrev pub wide_from : List ℕ → Option (List ℕ) → Option ℕ
wide_from text (Some digits) = wide_negative_of digits
wide_from text None = number_below (2 ^ 64) 10 text

-- the number of 64 bits that a text gives: a decimal number, or `-` and one up to 2^63
abbrev pub wide_number : List ℕ → Option ℕ
wide_number text = wide_from text (after (codes "-") text)

-- the two words of a number of 64 bits, the low one first
abbrev pub halves : ℕ → List ℕ
halves n = n % 2 ^ 32 ∷ n / 2 ^ 32 ∷ []

-- what stands before `q`, in a version that has numbers of 64 bits
abbrev pub before_q : Version → List ℕ → Option (List ℕ)
before_q One text = None
before_q Two text = before (codes "q") text

abbrev pub words_from : List ℕ → Option (List ℕ) → Option (List ℕ)
words_from text (Some number) = option_map halves (wide_number number)
words_from text None = option_map (λ (w : ℕ). w ∷ []) (script_word text)

-- the words of 32 bits that one text of a line gives: two where `q` follows a number, else one
abbrev pub words_by : Version → List ℕ → Option (List ℕ)
words_by version text = words_from text (before_q version text)

-- a name with its index, where both are there
abbrev pub name_with_index : List ℕ → Option ℕ → Option (List ℕ × ℕ)
name_with_index name None = None
name_with_index name (Some index) = if is_identifier name then Some (name, index) else None

-- the number before `]` at the end
abbrev pub index_before_bracket : List ℕ → Option ℕ
index_before_bracket text = before (codes "]") text >>= number_below (2 ^ 32) 10

abbrev pub indexed_name_from : List ℕ → Option (List ℕ × List ℕ) → Option (List ℕ × ℕ)
indexed_name_from text None = name_with_index text (Some 0)
indexed_name_from text (Some parts) = name_with_index parts.0 (index_before_bracket parts.1)

-- the name and the index of a node: `NAME[i]`, or `NAME` for the index 0
abbrev pub indexed_name : List ℕ → Option (List ℕ × ℕ)
indexed_name text = indexed_name_from text (cut (λ c. c == 91) text)
