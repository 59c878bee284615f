-- The first node of which something holds, in the order of the text, as the rules on graphs name it. This project's own.
use Rattle.std.specs.Prelude.{ℕ, ◌<◌}

pub record IsFirstNode (P : ℕ → Type 0) (n : ℕ) : Type 0 where
  pub holds : P n
  pub none_before : (m : ℕ) → m < n → P m → ⊥
