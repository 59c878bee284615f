-- How a function's code ends where the function ends so. Own.
use Rattle.std.specs.Prelude.{ℕ, ◌≡◌, List, map, slice_index}
use Rattle.wg_semantics.specs.declared.state.State.{State}
use Rattle.wg_semantics.specs.declared.state.Flow.{Flow}
use Rattle.wg_semantics.specs.declared.state.Flow.TheVariants as flow
use Rattle.wg_code.specs.Lane.{Site, Exit, Through}
use Rattle.wg_lowered.specs.Where.{Names, run}
use Rattle.wg_lowered.specs.Holding.{Holds}
use Rattle.wg_lowered_bodies.specs.Statements.{flag_of, results_of}

-- the function has not returned
pub record On (k : Names) (registers : ℕ) (s : State) (f : Site) : Type 0 where
  pub holds : Holds k registers s f
  pub flag : slice_index f.registers (flag_of k) ≡ 0

-- the function has returned these words
pub record Back (k : Names) (registers result : ℕ) (words : List ℕ) (s : State) (f : Site) : Type 0 where
  pub holds : Holds k registers s f
  pub flag : slice_index f.registers (flag_of k) ≡ 1
  pub value : map (slice_index f.registers) (run (results_of k) result) ≡ words

-- the code went through; it holds what the function left, with the words that it returned, if it returned
abbrev pub Ends : Names → ℕ → ℕ → Flow → State → Exit → Site → Type 0
Ends k registers result flow.Next s e f = (e ≡ Through) × On k registers s f
Ends k registers result flow.Broke s e f = ⊥
Ends k registers result flow.Continued s e f = ⊥
Ends k registers result (flow.Returned words) s e f = (e ≡ Through) × Back k registers result words s f
