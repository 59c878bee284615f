-- Where each of some variables begins, where the first begins at a word and all stand one after another.
use Rattle.std.specs.Prelude.{ℕ, ◌+◌, List, [], ◌∷◌}

abbrev pub begins : ℕ → List ℕ → List ℕ
begins at [] = []
begins at (n ∷ rest) = at ∷ begins (at + n) rest
