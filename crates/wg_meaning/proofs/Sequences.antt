-- What is left of a loop over steps or statements.
use Rattle.std.proofs.Common.{◌≡◌, ℕ, suc, ◌+◌, ◌<◌, List, ◌∷◌, length, drop, get_or, map, sym, ap, ◌∙◌, drop-cons, add-one}
use Rattle.wg_state.specs.Turns.{Ending, Spent, Done, Action, and_then, all}
use Rattle.wg_semantics.specs.StmtMeaning.{block, then_go}
use Rattle.wg_semantics.specs.declared.state.Flow.{Flow}
use Rattle.wg_semantics.specs.declared.state.Flow.TheVariants as flow
use Rattle.wg_semantics.specs.declared.state.State.{State}
use Rattle.wg_machine.specs.declared.bodies.Halt.{Halt}
use Rattle.wg_machine.specs.declared.bodies.Halt.TheVariants as halt
use Rattle.wg_evaluation.specs.Says.{Stops}

-- the element at an index, and those behind it
pub at_index : {A B : Type 0} (f : A → B) (xs : List A) (i : ℕ) (x : A) → x ≡ get_or xs i x → i < length xs → map f (drop i xs) ≡ f x ∷ map f (drop (i + 1) xs)
at_index f xs i x e lt =
    ap (map f) (drop-cons xs i x lt)
    ∙ ap (λ y. f y ∷ map f (drop (suc i) xs)) (sym e)
    ∙ ap (λ n. f x ∷ map f (drop n xs)) (sym (add-one i))

-- what stops a step stops those that go on from it
pub stops_next : {S A B : Type 0} (o : Ending S A) (k : A → Action S B) (h : Halt) → Stops o h → Stops (and_then o k) h
stops_next o k halt.Turns e = ap (λ x. and_then x k) e
stops_next o k halt.Memory e = tt

pub stops_same : {S A : Type 0} (o p : Ending S A) (h : Halt) → o ≡ p → Stops o h → Stops p h
stops_same o p halt.Turns e s = sym e ∙ s
stops_same o p halt.Memory e s = tt

-- ---- steps and statements one after another

module _ {S E : Type 0} (f : E → Action S (Unit {0})) (es : List E) (i : ℕ) (s : S) (t : ℕ) (whole : Ending S (Unit {0})) (e : E) (is : e ≡ get_or es i e) (lt : i < length es) (w : all (map f (drop i es)) s t ≡ whole) where
  step_first : and_then (f e s t) (λ u. all (map f (drop (i + 1) es))) ≡ whole
  step_first = sym (ap (λ l. all l s t) (at_index f es i e is lt)) ∙ w

  pub steps_go_on : (u : Unit {0}) (s' : S) (t' : ℕ) → f e s t ≡ Done u s' t' → all (map f (drop (i + 1) es)) s' t' ≡ whole
  steps_go_on u s' t' d = sym (ap (λ o. and_then o (λ u. all (map f (drop (i + 1) es)))) d) ∙ step_first

  pub steps_stop : (h : Halt) → Stops (f e s t) h → Stops whole h
  steps_stop h d = stops_same _ whole h step_first (stops_next _ (λ u. all (map f (drop (i + 1) es))) h d)

module _ {E : Type 0} (f : E → Action State Flow) (es : List E) (i : ℕ) (s : State) (t : ℕ) (whole : Ending State Flow) (e : E) (is : e ≡ get_or es i e) (lt : i < length es) (w : block (map f (drop i es)) s t ≡ whole) where
  stmt_first : and_then (f e s t) (λ end. then_go end (block (map f (drop (i + 1) es)))) ≡ whole
  stmt_first = sym (ap (λ l. block l s t) (at_index f es i e is lt)) ∙ w

  pub block_goes_on : (end : Flow) (s' : State) (t' : ℕ) → end ≡ flow.Next → f e s t ≡ Done end s' t' → block (map f (drop (i + 1) es)) s' t' ≡ whole
  block_goes_on end s' t' n d = ap (λ x. then_go x (block (map f (drop (i + 1) es))) s' t') (sym n) ∙ sym (ap (λ o. and_then o (λ end. then_go end (block (map f (drop (i + 1) es))))) d) ∙ stmt_first

  pub block_stops : (h : Halt) → Stops (f e s t) h → Stops whole h
  block_stops h d = stops_same _ whole h stmt_first (stops_next _ (λ end. then_go end (block (map f (drop (i + 1) es)))) h d)
