-- Numbers of which none is there twice. This project's own.
use Rattle.std.specs.Prelude.{◌≡◌, ⊤, ℕ, false, List, [], ◌∷◌}
use Rattle.wg_machine.specs.Step.{has_number}

abbrev pub AreApart : List ℕ → Type 0
AreApart [] = ⊤
AreApart (n ∷ numbers) = (has_number numbers n ≡ false) × AreApart numbers
