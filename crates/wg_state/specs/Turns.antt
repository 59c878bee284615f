-- What an action does with a state and with the turns that are left. A turn is one loop body entered; own.
use Rattle.std.specs.Prelude.{ℕ, zero, suc, List, [], ◌∷◌}

-- how an action ends: with an answer, the new state and the turns left, or spent where one turn more was needed
pub data Ending (S A : Type 0) : Type 0 where
  Spent : Ending S A
  Done : A → S → ℕ → Ending S A

abbrev pub Action : Type 0 → Type 0 → Type 0
Action S A = S → ℕ → Ending S A

abbrev pub and_then : {S A B : Type 0} → Ending S A → (A → Action S B) → Ending S B
and_then Spent k = Spent
and_then (Done a s t) k = k a s t

infixl 10 ◌>>=◌
abbrev pub ◌>>=◌ : {S A B : Type 0} → Action S A → (A → Action S B) → Action S B
m >>= k = λ s t. and_then (m s t) k

infixl 10 ◌>>◌
abbrev pub ◌>>◌ : {S A B : Type 0} → Action S A → Action S B → Action S B
m >> n = m >>= (λ _. n)

abbrev pub pure : {S A : Type 0} → A → Action S A
pure a = λ s t. Done a s t

-- takes one turn
abbrev pub turn_at : {S : Type 0} → S → ℕ → Ending S (Unit {0})
turn_at s zero = Spent
turn_at s (suc t) = Done tt s t

abbrev pub turn : {S : Type 0} → Action S (Unit {0})
turn = turn_at

abbrev pub read : {S A : Type 0} → (S → A) → Action S A
read f = λ s t. Done (f s) s t

abbrev pub change : {S : Type 0} → (S → S) → Action S (Unit {0})
change f = λ s t. Done tt (f s) t

-- each action, in order, with the list of their answers
abbrev pub each : {S A : Type 0} → List (Action S A) → Action S (List A)
each [] = pure []
each (m ∷ rest) = m >>= (λ a. each rest >>= (λ all. pure (a ∷ all)))

-- each action, in order
abbrev pub all : {S : Type 0} → List (Action S (Unit {0})) → Action S (Unit {0})
all [] = pure tt
all (m ∷ rest) = m >> all rest
