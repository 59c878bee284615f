-- Chains of units, each a target of the one before. This project's own.
use Rattle.std.specs.Prelude.{ℕ, suc, ◌≤◌}

-- a chain of so many things ends at x, where R leads from each to the next
pub data Chain {A : Type 0} (R : A → A → Type 0) : ℕ → A → Type 0 where
  alone : {x : A} → Chain R 1 x
  onward : {n : ℕ} {x y : A} → Chain R n x → R x y → Chain R (suc n) y

-- the longest chain that ends at x has so many things
pub record IsLongest {A : Type 0} (R : A → A → Type 0) (n : ℕ) (x : A) : Type 0 where
  pub chain : Chain R n x
  pub longest : (m : ℕ) → Chain R m x → m ≤ n
