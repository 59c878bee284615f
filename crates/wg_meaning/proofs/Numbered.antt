-- What is left of a call of a function by its number, one of those that calls reach.
use Rattle.std.proofs.Common.{◌≡◌, ℕ, zero, suc, ◌≤◌, List, [], ◌∷◌, length, take, sym, ap, ◌∙◌, arith, take_all, take-take}
use Rattle.std.specs.Prelude.{slice_get, Some}
use Rattle.std.proofs.lemmas.Option.{slice_get_within}
use Rattle.wg_state.specs.Turns.{Ending, Done}
use Rattle.wg_semantics.specs.declared.state.State.{State}
use Rattle.wg_typed.specs.declared.typed.TypedFunction.{TypedFunction}
use Rattle.wg_semantics.specs.Places.{Setting}
use Rattle.wg_semantics.specs.Calls.{callee_at, no_callee, on_world}
use Rattle.wg_semantics.specs.FunctionMeaning.{callee_of, callees_of, function_does}

take_short : {A : Type 0} (n : ℕ) (xs : List A) → length (take n xs) ≤ n
take_short zero xs = omega arith
take_short (suc n) [] = omega arith
take_short (suc n) (x ∷ xs) = let h = take_short n xs in omega (arith, h)

module _ (setting : Setting) (functions : List TypedFunction) (reach f : ℕ) (values : List (List ℕ)) (s : State) (t : ℕ) where
  abbrev reached : List TypedFunction
  reached = take (suc reach) functions

  abbrev pub run_of_number : Ending State (List ℕ × List (List ℕ))
  run_of_number = on_world ((callee_at (callees_of setting reached) f).does values) s t

  pub nothing_runs : callee_at (callees_of setting reached) f ≡ no_callee → run_of_number ≡ Done ([], []) s t
  nothing_runs e = ap (λ m. on_world (m.does values) s t) e

  pub runs_number : (c : TypedFunction) → slice_get reached f ≡ Some c → callee_at (callees_of setting reached) f ≡ callee_of setting (callees_of setting (take f reached)) c → on_world (function_does setting (callees_of setting (take reach (take f functions))) c values) s t ≡ run_of_number
  runs_number c is found =
      let lt = slice_get_within reached f c is in
      let few = take_short (suc reach) functions in
      let short = take_short f functions in
      let same = take_all reach (take f functions) (omega (arith, lt, few, short)) ∙ sym (take-take f (suc reach) functions (omega (arith, lt, few))) in
      ap (λ l. on_world (function_does setting (callees_of setting l) c values) s t) same
      ∙ sym (ap (λ m. on_world (m.does values) s t) found)
