-- What buffers hold at the start. This project's own rule.
use Rattle.std.specs.Prelude.{ℕ, ◌-◌, List, [], ◌∷◌, ◌++◌, length, replicate}
use Rattle.wg_machine.specs.Buffers.{Buffers}

-- words and then zeros, up to a length
abbrev pub padded : List ℕ → ℕ → List ℕ
padded words size = words ++ replicate (size - length words) 0

-- buffers of these lengths, each with its start words and then zeros
abbrev pub started : List ℕ → List (List ℕ) → Buffers
started (size ∷ sizes) (words ∷ start) = padded words size ∷ started sizes start
started (size ∷ sizes) [] = []
started [] start = []
