-- A core begins with as many buffers as its graph has.
use Rattle.std.proofs.Common.{◌≡◌, ℕ, List, [], ◌∷◌, length, refl, arith}
use Rattle.wg_buffers.specs.Start.{started}

-- as many buffers as lengths
pub started_count : (lengths : List ℕ) (start : List (List ℕ)) → length start ≡ length lengths → length (started lengths start) ≡ length lengths
started_count [] start e = refl
started_count (size ∷ sizes) [] e = absurd (omega (arith, e))
started_count (size ∷ sizes) (words ∷ start) e = let h = started_count sizes start (omega (arith, e)) in omega (arith, h)
