-- Words filled up with zeros.
use Rattle.std.specs.Prelude.{ℕ, ◌-◌, List, ◌++◌, length, replicate}

-- words and then zeros, up to a length
abbrev pub padded : List ℕ → ℕ → List ℕ
padded words size = words ++ replicate (size - length words) 0
