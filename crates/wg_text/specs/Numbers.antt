-- Which texts are numbers. This project's own.
use Rattle.std.specs.Prelude.{ℕ, ◌^◌, ◌&&◌, Bool, false, nat_lt, if◌then◌else◌, List, [], ◌∷◌, Option, Some, None}
use Rattle.std.specs.Char.{is_digit}
use Rattle.std.specs.Fmt.{decimal}
use Rattle.std.specs.List.{list_all}
use Rattle.std.specs.Str.{bytes_eq}
use Rattle.std.specs.Str.Parse.{digits_value}
use Rattle.wg_words.specs.Maybe.{◌>>=◌}

-- at least one digit of a base, and nothing else
abbrev pub is_numeral : ℕ → List ℕ → Bool
is_numeral base [] = false
is_numeral base (c ∷ text) = list_all (λ d. is_digit d base) (c ∷ text)

-- the number below a bound that digits of a base make
abbrev pub number_below : ℕ → ℕ → List ℕ → Option ℕ
number_below bound base text = if is_numeral base text && nat_lt (digits_value base text) bound then Some (digits_value base text) else None

-- the number below 2^64 whose decimal text this is
abbrev pub printed_number : List ℕ → Option ℕ
printed_number text = number_below (2 ^ 64) 10 text >>= λ n. if bytes_eq (decimal n) text then Some n else None
