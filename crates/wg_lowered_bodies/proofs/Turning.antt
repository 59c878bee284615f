-- A loop of the source beside a loop of the code: test, body, and the steps of a `for`.
use Rattle.std.proofs.Common.{◌≡◌, ℕ, zero, suc, List, [], ◌∷◌, map, Bool, true, false, refl, sym, ap, ◌∙◌}
use Rattle.std.specs.Prelude.{slice_index, if◌then◌else◌}
use Rattle.wg_words.specs.Truth.{is_true}
use Rattle.wg_state.specs.Turns.{Ending, Spent, Done, Action, and_then, pure, turn, ◌>>=◌, ◌>>◌}
use Rattle.wg_semantics.specs.declared.state.State.{State}
use Rattle.wg_semantics.specs.declared.state.Flow.{Flow}
use Rattle.wg_semantics.specs.declared.state.Flow.TheVariants as flow
use Rattle.wg_semantics.specs.ExprMeaning.{when}
use Rattle.wg_semantics.specs.StmtMeaning.{after_body, loop_below, loop}
use Rattle.wg_code.specs.Lane.{Around, Site, Exit, Through, Out, Again}
use Rattle.wg_code.specs.Flow.{Callees, goes_on, repeats, body_then_step, turns_below}
use Rattle.wg_code.specs.Flow.{stepped as step_then}
use Rattle.wg_code.specs.Flow.{tested as tested_by}
use Rattle.wg_code.specs.OpMeaning.{op_does, ops_do, op_step}
use Rattle.wg_code.specs.declared.op.Op.{Op, fold-roll-Op}
use Rattle.wg_code.specs.declared.op.Op.TheOpen.{Op-F}
use Rattle.wg_code.specs.declared.op.Op.TheVariants as o
use Rattle.wg_lowered.specs.Holding.{Agree}
use Rattle.wg_lowered.proofs.Ops.{agree_then, ops_one}

then_then : {S A B C : Type 0} (o : Ending S A) (h : A → Action S B) (k : B → Action S C) → and_then (and_then o h) k ≡ and_then o (λ v s t. and_then (h v s t) k)
then_then Spent h k = refl
then_then (Done v s t) h k = refl

-- `On` holds while the function has not returned, `Back words` once it has returned them
module _ (a : Around) (cs : Callees) (On : State → Site → Type 0) (Back : List ℕ → State → Site → Type 0) where
  pub does_Loop : (t : List Op) (r : ℕ) (b s : List Op) → op_does false a cs (o.Loop t r b s) ≡ op_step false a cs (Op-F.Loop (map (op_does false a cs) t) r (map (op_does false a cs) b) (map (op_does false a cs) s))
  does_Loop t r b s = ap (op_does false a cs) (sym (o.rolls-Loop t r b s)) ∙ fold-roll-Op (Action Site Exit) (op_step false a cs) (Op-F.Loop t r b s)

  -- how code in a loop ends where the source ends so
  abbrev pub InLoop : Flow → State → Exit → Site → Type 0
  InLoop flow.Next s e f = (e ≡ Through) × On s f
  InLoop flow.Continued s e f = (e ≡ Again) × On s f
  InLoop flow.Broke s e f = (e ≡ Out) × On s f
  InLoop (flow.Returned words) s e f = (e ≡ Out) × Back words s f

  -- how a loop ends
  abbrev pub AfterLoop : Flow → State → Exit → Site → Type 0
  AfterLoop flow.Next s e f = (e ≡ Through) × On s f
  AfterLoop flow.Continued s e f = ⊥
  AfterLoop flow.Broke s e f = ⊥
  AfterLoop (flow.Returned words) s e f = (e ≡ Through) × Back words s f

  pub record Tested (r v : ℕ) (s : State) (e : Exit) (f : Site) : Type 0 where
    pub is_through : e ≡ Through
    pub on : On s f
    pub value : slice_index f.registers r ≡ v

  abbrev pub Stepped : Unit {0} → State → Exit → Site → Type 0
  Stepped u s e f = (e ≡ Through) × On s f

  module _ (test : Action State ℕ) (body : Action State Flow) (steps : Action State (Unit {0})) (tops bops sops : List Op) (r : ℕ) (tested : (s : State) (f : Site) (t : ℕ) → On s f → Agree (Tested r) (test s t) (ops_do false a cs tops f t)) (bodied : (s : State) (f : Site) (t : ℕ) → On s f → Agree InLoop (body s t) (ops_do false a cs bops f t)) (stepped : (s : State) (f : Site) (t : ℕ) → On s f → Agree Stepped (steps s t) (ops_do false a cs sops f t)) where
    abbrev code : ℕ → Action Site Exit
    code bound = turns_below bound (ops_do false a cs tops) r (ops_do false a cs bops) (ops_do false a cs sops)

    abbrev source : ℕ → Action State Flow
    source bound = loop_below bound test body steps

    -- the turns that follow
    abbrev more : ℕ → Exit → Action Site Exit
    more bound end = repeats end (code bound)

    abbrev Loops : ℕ → Type 0
    Loops bound = (s : State) (f : Site) (t : ℕ) → On s f → Agree AfterLoop (source bound s t) (code bound f t)

    -- the steps, and then the loop again
    next : (bound : ℕ) → Loops bound → (s : State) (f : Site) (t : ℕ) → On s f → Agree AfterLoop ((steps >> source bound) s t) (and_then (step_then (ops_do false a cs sops) f t) (more bound))
    next bound loops s f t on =
        rw (then_then (ops_do false a cs sops f t) (λ e. goes_on e (pure Again)) (more bound)) (agree_then Stepped AfterLoop (steps s t) (ops_do false a cs sops f t) (λ u. source bound) (λ e f' t'. and_then (goes_on e (pure Again) f' t') (more bound)) (stepped s f t on) (λ u s1 e f1 t1 q. rw q.0 (loops s1 f1 t1 q.1)))

    after : (bound : ℕ) → Loops bound → (end : Flow) (s : State) (e : Exit) (f : Site) (t : ℕ) → InLoop end s e f → Agree AfterLoop (after_body end (steps >> source bound) s t) (and_then (goes_on e (step_then (ops_do false a cs sops)) f t) (more bound))
    after bound loops flow.Next s e f t q = rw q.0 (next bound loops s f t q.1)
    after bound loops flow.Continued s e f t q = rw q.0 (next bound loops s f t q.1)
    after bound loops flow.Broke s e f t q = rw q.0 (refl, (refl, q.1))
    after bound loops (flow.Returned words) s e f t q = rw q.0 (refl, (refl, q.1))

    -- one turn, where the test has its answer
    one : (bound : ℕ) → Loops bound → (b : Bool) (s : State) (f : Site) (t : ℕ) → On s f → Agree AfterLoop ((if b then (turn >> body >>= (λ end. after_body end (steps >> source bound))) else pure flow.Next) s t) (and_then ((if b then (turn >> body_then_step (ops_do false a cs bops) (ops_do false a cs sops)) else pure Through) f t) (more bound))
    one bound loops false s f t on = (refl, (refl, on))
    one bound loops true s f zero on = tt
    one bound loops true s f (suc t) on =
        rw (then_then (ops_do false a cs bops f t) (λ end. goes_on end (step_then (ops_do false a cs sops))) (more bound)) (agree_then InLoop AfterLoop (body s t) (ops_do false a cs bops f t) (λ end. after_body end (steps >> source bound)) (λ end f' t'. and_then (goes_on end (step_then (ops_do false a cs sops)) f' t') (more bound)) (bodied s f t on) (λ end s1 e f1 t1 q. after bound loops end s1 e f1 t1 q))

    pub loops : (bound : ℕ) → Loops bound
    loops zero s f t on = tt
    loops (suc bound) s f t on =
        rw (then_then (ops_do false a cs tops f t) (λ e. goes_on e (tested_by r (ops_do false a cs bops) (ops_do false a cs sops))) (more bound)) (agree_then (Tested r) AfterLoop (test s t) (ops_do false a cs tops f t) (λ go. when go (turn >> body >>= (λ end. after_body end (steps >> source bound))) (pure flow.Next)) (λ e f' t'. and_then (goes_on e (tested_by r (ops_do false a cs bops) (ops_do false a cs sops)) f' t') (more bound)) (tested s f t on) (λ go s1 e f1 t1 q. rw (q.is_through, q.value) (one bound (loops bound) (is_true go) s1 f1 t1 q.on)))

    -- a loop, both ways: spent where the source is spent, else as many turns left
    pub loop_goes : (s : State) (f : Site) (t : ℕ) → On s f → Agree AfterLoop (loop test body steps s t) (ops_do false a cs (o.Loop tops r bops sops ∷ []) f t)
    loop_goes s f t on = rw (ops_one a cs _ _ f t (does_Loop tops r bops sops)) (loops (suc t) s f t on)
