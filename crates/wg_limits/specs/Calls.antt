-- Which functions of a typed text call which. Own.
use Rattle.std.specs.Prelude.{◌≡◌, ℕ, List, [], ◌∷◌, ◌++◌, slice_get, Some}
use Rattle.wg_typing.specs.Sites.{In}
use Rattle.wg_limits.specs.Measure.{Measure, of_body}
use Rattle.wg_typed.specs.declared.typed.Typed.{Typed}
use Rattle.wg_typed.specs.declared.typed.TypedFunction.{TypedFunction}
use Rattle.wg_typed.specs.declared.typed_stmt.TypedStmt.{TypedStmt}

abbrev pub calls_measure : Measure (List ℕ)
calls_measure = record { none = []; join = λ a b. a ++ b; of = λ t. []; literal = λ words. []; call = λ function. function ∷ []; branch = λ a. a }

-- the functions that a body calls, by their numbers
abbrev pub called_in : List TypedStmt → List ℕ
called_in body = of_body calls_measure body

-- the function of the one number calls that of the other
pub record Calls (text : Typed) (from to : ℕ) : Type 0 where
  pub function : TypedFunction
  pub at : slice_get text.functions from ≡ Some function
  pub called : In (called_in function.body) to

-- functions of which each calls the next
abbrev pub IsChain : Typed → List ℕ → Type 0
IsChain text [] = Unit {0}
IsChain text (n ∷ []) = Unit {0}
IsChain text (m ∷ n ∷ rest) = Calls text m n × IsChain text (n ∷ rest)
