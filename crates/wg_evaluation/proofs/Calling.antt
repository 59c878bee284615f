-- What is left of a call, and of the kinds of expressions that evaluate one part first.
use Rattle.std.proofs.Common.{◌≡◌, ℕ, zero, suc, ◌≤◌, List, [], ◌∷◌, length, drop, map, min, refl, sym, ap, ◌∙◌, arith, append-nil}
use Rattle.wg_state.specs.Turns.{Ending, Done, Action, and_then, ◌>>=◌, ◌>>◌, pure}
use Rattle.wg_semantics.specs.declared.state.State.{State}
use Rattle.wg_semantics.specs.declared.state.Passed.{Passed}
use Rattle.wg_typed.specs.declared.typed.TypedFunction.{TypedFunction}
use Rattle.wg_typed.specs.declared.typed.TypedParameter.{TypedParameter}
use Rattle.wg_typed.specs.declared.typed.TypedStruct.{TypedStruct}
use Rattle.wg_semantics.specs.Places.{Setting}
use Rattle.wg_semantics.specs.Calls.{Seen, Callee, callee_at, no_callee, on_world, all_passed, all_back, called}
use Rattle.wg_semantics.specs.FunctionMeaning.{callee_of, callees_of}
use Rattle.wg_machine.specs.declared.bodies.Halt.{Halt}
use Rattle.wg_evaluation.specs.Says.{Stops}
use Rattle.wg_evaluation.proofs.Sequences.{gives, stops_next, stops_same, drop_past}

none_back : (ps : List Passed) (s : State) (t : ℕ) → all_back ps [] s t ≡ Done tt s t
none_back [] s t = refl
none_back (p ∷ ps) s t = refl

pub all_back_ends : (ps : List Passed) (values : List (List ℕ)) (i : ℕ) (s : State) (t : ℕ) → min (length ps) (length values) ≤ i → all_back (drop i ps) (drop i values) s t ≡ Done tt s t
all_back_ends [] values zero s t le = refl
all_back_ends [] values (suc i) s t le = refl
all_back_ends (p ∷ ps) [] zero s t le = refl
all_back_ends (p ∷ ps) [] (suc i) s t le = none_back (drop i ps) s t
all_back_ends (p ∷ ps) (v ∷ values) zero s t le = absurd (let h : ⊥ = omega (arith, le) in h)
all_back_ends (p ∷ ps) (v ∷ values) (suc i) s t le = all_back_ends ps values i s t (omega (arith, le))

-- without arguments nothing is passed
pub none_left : (structs : List TypedStruct) (ps : List TypedParameter) (s : State) (t : ℕ) → all_passed structs ps [] s t ≡ Done [] s t
none_left structs [] s t = refl
none_left structs (p ∷ ps) s t = refl

-- when all arguments are passed, the first are all
pub passed_end : {E : Type 0} (structs : List TypedStruct) (h : E → Seen) (ps : List TypedParameter) (es : List E) (i : ℕ) (done : List Passed) (s : State) (t : ℕ) (whole : Ending State (List Passed)) → length es ≤ i → and_then (all_passed structs ps (map h (drop i es)) s t) (gives done) ≡ whole → whole ≡ Done done s t
passed_end structs h ps es i done s t whole le w =
    sym w
    ∙ ap (λ l. and_then (all_passed structs ps (map h l) s t) (gives done)) (drop_past es i le)
    ∙ ap (λ o. and_then o (gives done)) (none_left structs ps s t)
    ∙ ap (λ l. Done l s t) (append-nil done)

-- ---- calls

module _ (setting : Setting) (functions : List TypedFunction) (f : ℕ) (arguments : List Seen) (s : State) (t : ℕ) where
  abbrev callee : Callee
  callee = callee_at (callees_of setting functions) f

  pub calls_nothing : callee ≡ no_callee → called setting.structs callee arguments s t ≡ Done [] s t
  calls_nothing e = rw e refl

  module _ (c : TypedFunction) (before : List Callee) (is : callee ≡ callee_of setting before c) where
    its_parameters : callee.parameters ≡ c.parameters
    its_parameters = ap (λ (m : Callee). m.parameters) is

    abbrev rest : List Passed → Action State (List ℕ)
    rest given = on_world (callee.does (map (λ (p : Passed). p.words) given)) >>= (λ left. all_back given left.1 >> pure left.0)

    starts : called setting.structs callee arguments s t ≡ and_then (all_passed setting.structs c.parameters arguments s t) rest
    starts = ap (λ ps. and_then (all_passed setting.structs ps arguments s t) rest) its_parameters

    pub call_stops : (h : Halt) → Stops (all_passed setting.structs c.parameters arguments s t) h → Stops (called setting.structs callee arguments s t) h
    call_stops h d = stops_same _ _ h (sym starts) (stops_next (all_passed setting.structs c.parameters arguments s t) rest h d)

    module _ (given : List Passed) (s1 : State) (t1 : ℕ) (d1 : all_passed setting.structs c.parameters arguments s t ≡ Done given s1 t1) where
      given_first : called setting.structs callee arguments s t ≡ rest given s1 t1
      given_first = starts ∙ ap (λ o. and_then o rest) d1

      pub run_stops : (values : List (List ℕ)) (h : Halt) → values ≡ map (λ (p : Passed). p.words) given → Stops (on_world (callee.does values) s1 t1) h → Stops (called setting.structs callee arguments s t) h
      run_stops values h e d =
          stops_same _ _ h (sym given_first) (stops_next _ (λ left. all_back given left.1 >> pure left.0) h (stops_same _ _ h (ap (λ v. on_world (callee.does v) s1 t1) e) d))

      pub call_ends : (values : List (List ℕ)) (back : List ℕ × List (List ℕ)) (s2 s3 : State) (t2 : ℕ) → values ≡ map (λ (p : Passed). p.words) given → on_world (callee.does values) s1 t1 ≡ Done back s2 t2 → all_back given back.1 s2 t2 ≡ Done tt s3 t2 → called setting.structs callee arguments s t ≡ Done back.0 s3 t2
      call_ends values back s2 s3 t2 e d b =
          given_first
          ∙ ap (λ v. and_then (on_world (callee.does v) s1 t1) (λ left. all_back given left.1 >> pure left.0)) (sym e)
          ∙ ap (λ o. and_then o (λ left. all_back given left.1 >> pure left.0)) d
          ∙ ap (λ o. and_then o (λ u. pure back.0)) b
