-- The meaning of a function by its number.
use Rattle.std.proofs.Common.{◌≡◌, ℕ, zero, suc, ◌+◌, ◌<◌, ◌≤◌, List, [], ◌∷◌, ◌++◌, length, take, get_or, refl, sym, ap, ◌∙◌, arith, length-append}
use Rattle.std.specs.Prelude.{slice_get, Some, None}
use Rattle.std.proofs.lemmas.Option.{slice_get_past, slice_get_within, get_or_from_slice_get}
use Rattle.wg_typed.specs.declared.typed.TypedFunction.{TypedFunction}
use Rattle.wg_semantics.specs.Places.{Setting}
use Rattle.wg_semantics.specs.Calls.{Callee, callee_at, callee_in, no_callee}
use Rattle.wg_semantics.specs.FunctionMeaning.{callee_of, callees_after, callees_of}

got_before : {A : Type 0} (xs ys : List A) (k : ℕ) → k < length xs → slice_get (xs ++ ys) k ≡ slice_get xs k
got_before [] ys k lt = absurd (let h : ⊥ = omega (arith, lt) in h)
got_before (x ∷ xs) ys zero lt = refl
got_before (x ∷ xs) ys (suc k) lt = got_before xs ys k (omega (arith, lt))

got_last : {A : Type 0} (xs : List A) (x : A) → slice_get (xs ++ x ∷ []) (length xs) ≡ Some x
got_last [] x = refl
got_last (y ∷ xs) x = got_last xs x

got_none : {A : Type 0} (xs : List A) (k : ℕ) → slice_get xs k ≡ None → length xs ≤ k
got_none [] k e = omega arith
got_none (x ∷ xs) zero e = cc
got_none (x ∷ xs) (suc k) e = let h = got_none xs k e in omega (arith, h)

module _ (setting : Setting) where
  callees_keep : (functions : List TypedFunction) (cs : List Callee) (k : ℕ) → k < length cs → callee_at (callees_after setting cs functions) k ≡ callee_at cs k
  callees_keep [] cs k lt = refl
  callees_keep (c ∷ functions) cs k lt =
      callees_keep functions (cs ++ callee_of setting cs c ∷ []) k (omega (arith, lt, length-append cs (callee_of setting cs c ∷ [])))
      ∙ ap callee_in (got_before cs (callee_of setting cs c ∷ []) k lt)

  callee_found : (functions : List TypedFunction) (cs : List Callee) (f : ℕ) (d : TypedFunction) → f < length functions → callee_at (callees_after setting cs functions) (length cs + f) ≡ callee_of setting (callees_after setting cs (take f functions)) (get_or functions f d)
  callee_found [] cs f d lt = absurd (let h : ⊥ = omega (arith, lt) in h)
  callee_found (c ∷ functions) cs zero d lt =
      let e : length cs + 0 ≡ length cs = omega arith in
      ap (callee_at (callees_after setting (cs ++ callee_of setting cs c ∷ []) functions)) e
      ∙ callees_keep functions (cs ++ callee_of setting cs c ∷ []) (length cs) (omega (arith, length-append cs (callee_of setting cs c ∷ [])))
      ∙ ap callee_in (got_last cs (callee_of setting cs c))
  callee_found (c ∷ functions) cs (suc f) d lt =
      let e : length cs + suc f ≡ length (cs ++ callee_of setting cs c ∷ []) + f = omega (arith, length-append cs (callee_of setting cs c ∷ [])) in
      ap (callee_at (callees_after setting (cs ++ callee_of setting cs c ∷ []) functions)) e
      ∙ callee_found functions (cs ++ callee_of setting cs c ∷ []) f d (omega (arith, lt))

  function_at : (functions : List TypedFunction) (f : ℕ) (c : TypedFunction) → c ≡ get_or functions f c → f < length functions → callee_at (callees_of setting functions) f ≡ callee_of setting (callees_of setting (take f functions)) c
  function_at functions f c e lt =
      let z : f ≡ length {A = Callee} [] + f = omega arith in
      ap (callee_at (callees_of setting functions)) z ∙ callee_found functions [] f c lt ∙ ap (callee_of setting (callees_of setting (take f functions))) (sym e)

  callees_length : (functions : List TypedFunction) (cs : List Callee) → length (callees_after setting cs functions) ≡ length cs + length functions
  callees_length [] cs = omega arith
  callees_length (c ∷ functions) cs = callees_length functions (cs ++ callee_of setting cs c ∷ []) ∙ omega (arith, length-append cs (callee_of setting cs c ∷ []))

  function_past : (functions : List TypedFunction) (f : ℕ) → length functions ≤ f → callee_at (callees_of setting functions) f ≡ no_callee
  function_past functions f le = ap callee_in (slice_get_past (callees_of setting functions) f (omega (arith, le, callees_length functions [])))

  -- a function that is there
  pub function_found : (functions : List TypedFunction) (f : ℕ) (c : TypedFunction) → slice_get functions f ≡ Some c → callee_at (callees_of setting functions) f ≡ callee_of setting (callees_of setting (take f functions)) c
  function_found functions f c e = function_at functions f c (sym (get_or_from_slice_get functions f c c e)) (slice_get_within functions f c e)

  -- a function that is not there
  pub function_missing : (functions : List TypedFunction) (f : ℕ) → slice_get functions f ≡ None → callee_at (callees_of setting functions) f ≡ no_callee
  function_missing functions f e = function_past functions f (got_none functions f e)
