-- The words of a number as it is written.
use Rattle.std.proofs.Common.{◌≡◌, ℕ, Bool, true, false, [], ◌∷◌, refl}
use Rattle.wg_typed.specs.Operators.{words_for, integer, halves}

pub words_wide : (n : ℕ) (b : Bool) → words_for (integer 64 b) (n ∷ []) ≡ halves (n ∷ [])
words_wide n true = refl
words_wide n false = refl

pub words_narrow : (n : ℕ) (b : Bool) → words_for (integer 32 b) (n ∷ []) ≡ n ∷ []
words_narrow n true = refl
words_narrow n false = refl
