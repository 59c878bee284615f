-- Values under tickets, in rising order of ticket. This project's own.
use Rattle.std.specs.Prelude.{◌≡◌, ℕ, ◌<◌, ◌≤◌, ◌==◌, Bool, List, ◌∷◌, ◌++◌, All}
use Rattle.std.specs.List.{list_any}

-- a value has the ticket
abbrev pub has_ticket : {T : Type 0} → ℕ → List (ℕ × T) → Bool
has_ticket ticket values = list_any (λ e. e.0 == ticket) values

-- each ticket is below one
abbrev pub AllBelow : {T : Type 0} → ℕ → List (ℕ × T) → Type 0
AllBelow ticket values = All (λ e. e.0 < ticket) values

-- the value of a ticket, between those before and those behind
pub record IsHeldAt {T : Type 0} (values : List (ℕ × T)) (ticket : ℕ) (value : T) : Type 0 where
  pub before : List (ℕ × T)
  pub later : List (ℕ × T)
  pub place : values ≡ before ++ (ticket, value) ∷ later

-- the value of a ticket is gone, and the others stay
pub record Takes {T : Type 0} (old new : List (ℕ × T)) (ticket : ℕ) (value : T) : Type 0 where
  pub before : List (ℕ × T)
  pub later : List (ℕ × T)
  pub was : old ≡ before ++ (ticket, value) ∷ later
  pub left : new ≡ before ++ later

-- no ticket is less, and some value has this one
pub record IsLeast {T : Type 0} (values : List (ℕ × T)) (ticket : ℕ) : Type 0 where
  pub value : T
  pub rest : List (ℕ × T)
  pub first : values ≡ (ticket, value) ∷ rest
  pub least : All (λ e. ticket ≤ e.0) values
