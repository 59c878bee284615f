-- Actions that do the same on each state, however many turns are left.
use Rattle.std.proofs.Common.{◌≡◌, ℕ, zero, suc, Bool, true, false, cond, refl, ap, ◌∙◌}
use Rattle.wg_words.specs.Truth.{is_true}
use Rattle.wg_state.specs.Turns.{Ending, Spent, Done, Action, and_then, ◌>>=◌, ◌>>◌, pure, turn}
use Rattle.wg_semantics.specs.ExprMeaning.{when}
use Rattle.wg_semantics.specs.StmtMeaning.{then_go, after_body, loop_below, loop}
use Rattle.wg_semantics.specs.declared.state.State.{State}
use Rattle.wg_semantics.specs.declared.state.Flow.{Flow}
use Rattle.wg_semantics.specs.declared.state.Flow.TheVariants as flow

pub record Alike {S A : Type 0} (m n : Action S A) : Type 0 where
  pub same : (s : S) (t : ℕ) → m s t ≡ n s t

pub alike_self : {S A : Type 0} (m : Action S A) → Alike m m
alike_self m = record { same = λ s t. refl }

pub alike_bind : {S A B : Type 0} (m n : Action S A) (k l : A → Action S B) → Alike m n → ((a : A) → Alike (k a) (l a)) → Alike (m >>= k) (n >>= l)
alike_bind {S} {A} {B} m n k l h g = record { same = λ s t. ap (λ x. and_then x k) (h.same s t) ∙ by_end (n s t) }
  where
    by_end : (x : Ending S A) → and_then x k ≡ and_then x l
    by_end Spent = refl
    by_end (Done a s t) = (g a).same s t

-- what follows is one and the same
pub alike_first : {S A B : Type 0} (m n : Action S A) (k : A → Action S B) → Alike m n → Alike (m >>= k) (n >>= k)
alike_first m n k h = alike_bind m n k k h (λ a. alike_self (k a))

alike_cond : {S A : Type 0} (c : Bool) (m n k l : Action S A) → Alike m n → Alike k l → Alike (cond c m k) (cond c n l)
alike_cond true m n k l g h = g
alike_cond false m n k l g h = h

pub alike_when : {A : Type 0} (word : ℕ) (m n k l : Action State A) → Alike m n → Alike k l → Alike (when word m k) (when word n l)
alike_when word m n k l g h = alike_cond (is_true word) m n k l g h

-- ---- statements

pub alike_go : (end : Flow) (m n : Action State Flow) → Alike m n → Alike (then_go end m) (then_go end n)
alike_go flow.Next m n h = h
alike_go flow.Broke m n h = alike_self (pure flow.Broke)
alike_go flow.Continued m n h = alike_self (pure flow.Continued)
alike_go (flow.Returned words) m n h = alike_self (pure (flow.Returned words))

alike_after : (end : Flow) (m n : Action State Flow) → Alike m n → Alike (after_body end m) (after_body end n)
alike_after flow.Next m n h = h
alike_after flow.Continued m n h = h
alike_after flow.Broke m n h = alike_self (pure flow.Next)
alike_after (flow.Returned words) m n h = alike_self (pure (flow.Returned words))

alike_below : (bound : ℕ) (test other : Action State ℕ) (body last : Action State Flow) (steps more : Action State (Unit {0})) → Alike test other → Alike body last → Alike steps more
    → Alike (loop_below bound test body steps) (loop_below bound other last more)
alike_below zero test other body last steps more h k l = alike_self (λ s t. Spent)
alike_below (suc bound) test other body last steps more h k l = alike_bind test other _ _ h (λ word.
    alike_when word _ _ (pure flow.Next) (pure flow.Next) (alike_bind (turn >> body) (turn >> last) _ _ (alike_bind turn turn (λ u. body) (λ u. last) (alike_self turn) (λ u. k)) (λ end.
    alike_after end (steps >> loop_below bound test body steps) (more >> loop_below bound other last more) (alike_bind steps more (λ u. loop_below bound test body steps) (λ u. loop_below bound other last more) l (λ u. alike_below bound test other body last steps more h k l)))) (alike_self (pure flow.Next)))

pub alike_loop : (test other : Action State ℕ) (body last : Action State Flow) (steps more : Action State (Unit {0})) → Alike test other → Alike body last → Alike steps more → Alike (loop test body steps) (loop other last more)
alike_loop test other body last steps more h k l = record { same = λ s t. (alike_below (suc t) test other body last steps more h k l).same s t }
