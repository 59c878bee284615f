-- The parts of a text of the first form: names and words.
use Rattle.std.specs.Prelude.{ℕ, ◌+◌, ◌-◌, ◌*◌, ◌^◌, nat_lt, ◌&&◌, Bool, true, false, if◌then◌else◌, List, [], ◌∷◌}
use Rattle.std.specs.List.{list_all}
use Rattle.std.specs.Char.{is_ascii_digit, is_ascii_lowercase, is_ascii_uppercase}

-- one upper-case letter, and then lower-case letters, at least one
abbrev pub is_name : List ℕ → Bool
is_name [] = false
is_name (c ∷ []) = false
is_name (c ∷ d ∷ cs) = is_ascii_uppercase c && list_all is_ascii_lowercase (d ∷ cs)

-- no lower-case letter comes first
abbrev pub ends_name : List ℕ → Bool
ends_name [] = true
ends_name (c ∷ cs) = if is_ascii_lowercase c then false else true

-- no digit comes first
abbrev pub ends_number : List ℕ → Bool
ends_number [] = true
ends_number (c ∷ cs) = if is_ascii_digit c then false else true

-- how many lower-case letters come first
abbrev pub lower_length : List ℕ → ℕ
lower_length [] = 0
lower_length (c ∷ cs) = if is_ascii_lowercase c then 1 + lower_length cs else 0

-- the number that digits begin after a number, as far as it is below 2^32
abbrev pub value_from : ℕ → List ℕ → ℕ
value_from n [] = n
value_from n (c ∷ cs) = if is_ascii_digit c then value_from (if nat_lt n (2 ^ 32) then n * 10 + (c - 48) else n) cs else n
