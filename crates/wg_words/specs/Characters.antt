-- The bytes of names and of lines. HLSL's letters, digits and names; texts are of ASCII.
use Rattle.std.specs.Prelude.{ℕ, List, [], ◌∷◌, Bool, false, ◌&&◌, ◌||◌, ◌==◌, nat_le}
use Rattle.std.specs.List.{list_all}

abbrev pub is_between : ℕ → ℕ → ℕ → Bool
is_between low high b = nat_le low b && nat_le b high

abbrev pub is_line_feed : ℕ → Bool
is_line_feed b = b == 10

-- a letter or `_`
abbrev pub is_letter : ℕ → Bool
is_letter b = is_between 65 90 b || is_between 97 122 b || b == 95

abbrev pub is_digit : ℕ → Bool
is_digit b = is_between 48 57 b

-- what a name goes on with
abbrev pub is_word : ℕ → Bool
is_word b = is_letter b || is_digit b

-- a name of HLSL: a letter or `_`, then letters, digits and `_`
abbrev pub is_identifier : List ℕ → Bool
is_identifier [] = false
is_identifier (c ∷ name) = is_letter c && list_all is_word name
