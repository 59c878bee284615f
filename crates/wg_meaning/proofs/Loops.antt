-- What is left of a loop: each body entered takes a turn, so that its bound is never met.
use Rattle.std.proofs.Common.{◌≡◌, ◌≢◌, ◌==◌, ℕ, zero, suc, ◌<◌, ◌≤◌, true, false, not, if◌then◌else◌, refl, sym, ap, ◌∙◌, arith}
use Rattle.std.proofs.lemmas.Bool.Decides.{nat_tests}
use Rattle.std.specs.Prelude.{Some, None}
use Rattle.wg_words.specs.Truth.{is_true}
use Rattle.wg_state.specs.Turns.{Ending, Done, Action, and_then, ◌>>◌, pure}
use Rattle.wg_semantics.specs.declared.state.Flow.{Flow}
use Rattle.wg_semantics.specs.declared.state.Flow.TheVariants as flow
use Rattle.wg_semantics.specs.declared.state.State.{State}
use Rattle.wg_semantics.specs.ExprMeaning.{when}
use Rattle.wg_semantics.specs.StmtMeaning.{after_body, loop, loop_below}
use Rattle.wg_machine.specs.declared.bodies.Halt.{Halt}
use Rattle.wg_meaning.specs.Flows.{loop_left, entered as entered_body}
use Rattle.wg_evaluation.specs.Says.{Stops}
use Rattle.wg_meaning.proofs.Sequences.{stops_next, stops_same}

pub is_true_at : (n : ℕ) → n ≢ 0 → is_true n ≡ true
is_true_at n m = let e : (n == 0) ≡ false = grind (arith, nat_tests) in ap not e

pub record LoopGoesOn (test : Action State ℕ) (body : Action State Flow) (steps : Action State (Unit {0})) (s0 : State) (t0 : ℕ) (s : State) (t : ℕ) : Type 0 where
  pub bound : ℕ
  pub enough : t < bound
  pub same : loop_below bound test body steps s t ≡ loop test body steps s0 t0

pub goes_first : (test : Action State ℕ) (body : Action State Flow) (steps : Action State (Unit {0})) (s : State) (t : ℕ) → LoopGoesOn test body steps s t s t
goes_first test body steps s t = record { bound = suc t; enough = omega arith; same = refl }

left_again : (end : Flow) (again : Action State Flow) → loop_left end ≡ None → after_body end again ≡ again
left_again flow.Next again e = refl
left_again flow.Continued again e = refl
left_again flow.Broke again e = cc
left_again (flow.Returned words) again e = cc

left_pure : (end x : Flow) (again : Action State Flow) → loop_left end ≡ Some x → after_body end again ≡ pure x
left_pure flow.Next x again e = cc
left_pure flow.Continued x again e = cc
left_pure flow.Broke x again e = cc
left_pure (flow.Returned words) x again e = cc

module _ (test : Action State ℕ) (body : Action State Flow) (steps : Action State (Unit {0})) (s0 : State) (t0 : ℕ) (s : State) (t : ℕ) (g : LoopGoesOn test body steps s0 t0 s t) where
  abbrev whole : Ending State Flow
  whole = loop test body steps s0 t0

  abbrev again : ℕ → Action State Flow
  again b = loop_below b test body steps

  abbrev after : ℕ → Flow → Action State Flow
  after b end = after_body end (steps >> again b)

  abbrev entered : ℕ → ℕ → Action State Flow
  entered b go = when go (λ s t. and_then (entered_body body s t) (after b)) (pure flow.Next)

  record Bound : Type 0 where
    pub less : ℕ
    pub enough : t ≤ less
    pub opens : and_then (test s t) (entered less) ≡ whole

  open_bound : Bound
  open_bound = by g.bound g.enough g.same
    where
      by : (b : ℕ) → t < b → loop_below b test body steps s t ≡ whole → Bound
      by zero lt e = absurd (let h : ⊥ = omega (arith, lt) in h)
      by (suc b) lt e = record { less = b; enough = omega (arith, lt); opens = e }

  pub test_stops : (h : Halt) → Stops (test s t) h → Stops whole h
  test_stops h d = stops_same _ whole h open_bound.opens (stops_next (test s t) (entered open_bound.less) h d)

  module _ (go : ℕ) (s1 : State) (t1 : ℕ) (d1 : test s t ≡ Done go s1 t1) where
    tested : entered open_bound.less go s1 t1 ≡ whole
    tested = sym (ap (λ o. and_then o (entered open_bound.less)) d1) ∙ open_bound.opens

    pub test_ends : go ≡ 0 → whole ≡ Done flow.Next s1 t1
    test_ends z = sym tested ∙ ap (λ n. entered open_bound.less n s1 t1) z

    enters : go ≢ 0 → entered open_bound.less go s1 t1 ≡ and_then (entered_body body s1 t1) (after open_bound.less)
    enters n = ap (λ b. (if b then (λ s t. and_then (entered_body body s t) (after open_bound.less)) else pure flow.Next) s1 t1) (is_true_at go n)

    module _ (n : go ≢ 0) where
      in_body : and_then (entered_body body s1 t1) (after open_bound.less) ≡ whole
      in_body = sym (enters n) ∙ tested

      pub body_stops : (h : Halt) → Stops (entered_body body s1 t1) h → Stops whole h
      body_stops h d = stops_same _ whole h in_body (stops_next (entered_body body s1 t1) (after open_bound.less) h d)

      module _ (end : Flow) (s2 : State) (t2 : ℕ) (d2 : entered_body body s1 t1 ≡ Done end s2 t2) where
        body_done : after open_bound.less end s2 t2 ≡ whole
        body_done = sym (ap (λ o. and_then o (after open_bound.less)) d2) ∙ in_body

        pub body_leaves : (x : Flow) → loop_left end ≡ Some x → whole ≡ Done x s2 t2
        body_leaves x e = sym body_done ∙ ap (λ (m : Action State Flow). m s2 t2) (left_pure end x (steps >> again open_bound.less) e)

        module _ (e : loop_left end ≡ None) where
          in_steps : and_then (steps s2 t2) (λ u. again open_bound.less) ≡ whole
          in_steps = sym (ap (λ (m : Action State Flow). m s2 t2) (left_again end (steps >> again open_bound.less) e)) ∙ body_done

          pub steps_stop : (h : Halt) → Stops (steps s2 t2) h → Stops whole h
          steps_stop h d = stops_same _ whole h in_steps (stops_next (steps s2 t2) (λ u. again open_bound.less) h d)

          pub go_round : (u : Unit {0}) (s3 : State) (t3 : ℕ) → steps s2 t2 ≡ Done u s3 t3 → t3 < t → LoopGoesOn test body steps s0 t0 s3 t3
          go_round u s3 t3 d3 lt = record { bound = open_bound.less; enough = omega (arith, lt, open_bound.enough); same = sym (ap (λ o. and_then o (λ u. again open_bound.less)) d3) ∙ in_steps }
