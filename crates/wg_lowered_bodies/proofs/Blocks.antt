-- Blocks with early returns: each statement after one that may return stands behind the flag, so that blocks nest no deeper; in a loop a
-- return leaves the loop.
use Rattle.std.proofs.Common.{◌≡◌, ℕ, ◌+◌, ◌<◌, arith, List, [], ◌∷◌, map, Bool, true, false, refl, ap, ◌∙◌}
use Rattle.std.proofs.lemmas.Bool.{false≢true}
use Rattle.std.specs.Prelude.{slice_index, IsTrue}
use Rattle.wg_state.specs.Turns.{Done, Action, and_then}
use Rattle.wg_semantics.specs.declared.state.State.{State}
use Rattle.wg_semantics.specs.declared.state.Flow.{Flow}
use Rattle.wg_semantics.specs.declared.state.Flow.TheVariants as flow
use Rattle.wg_semantics.specs.StmtMeaning.{block, then_go}
use Rattle.wg_code.specs.Lane.{Around, Site, Exit, Through}
use Rattle.wg_code.specs.Flow.{Callees, through}
use Rattle.wg_code.specs.OpMeaning.{ops_do}
use Rattle.wg_code.specs.declared.op.Op.{Op}
use Rattle.wg_code.specs.declared.op.Op.TheVariants as o
use Rattle.wg_lowered.specs.Holding.{Agree}
use Rattle.wg_lowered.proofs.Ops.{agree_then, agree_so, ops_append, ops_one, does_If}
use Rattle.wg_lowered_bodies.specs.Statements.{Placed, behind, either, looped_code, straight_code, block_code, any_returns, all_need}
use Rattle.wg_lowered_bodies.specs.StatementsFit.{all_fit}
use Rattle.wg_lowered.proofs.Registers.{and_left, and_right}
use Rattle.wg_lowered_bodies.proofs.Turning.{InLoop, AfterLoop}

module _ (a : Around) (cs : Callees) (F base R : ℕ) (On : State → Site → Type 0) (Back : List ℕ → State → Site → Type 0) (on_flag : (s : State) (f : Site) → On s f → slice_index f.registers F ≡ 0) (back_flag : (ws : List ℕ) (s : State) (f : Site) → Back ws s f → slice_index f.registers F ≡ 1) where
  -- one without a `return` does not return
  abbrev pub Honest : Bool → Flow → Type 0
  Honest returns flow.Next = Unit {0}
  Honest returns flow.Broke = Unit {0}
  Honest returns flow.Continued = Unit {0}
  Honest returns (flow.Returned words) = IsTrue returns

  abbrev pub Ends : Bool → Flow → State → Exit → Site → Type 0
  Ends true = InLoop a cs On Back
  Ends false = AfterLoop a cs On Back

  abbrev pub Goes : Bool → Bool → Flow → State → Exit → Site → Type 0
  Goes looped returns end s e f = Ends looped end s e f × Honest returns end

  -- a statement that fits, where its registers are there
  abbrev pub Follows : Action State Flow → Placed → (Bool → Bool) → Type 0
  Follows m c w = (looped : Bool) → IsTrue (w looped) → base + c.need < R → (s : State) (f : Site) (t : ℕ) → On s f → Agree (Goes looped c.returns) (m s t) (ops_do false a cs (c.code looped) f t)

  pub honest_left : (x y : Bool) (end : Flow) → Honest x end → Honest (either x y) end
  honest_left x y flow.Next h = tt
  honest_left x y flow.Broke h = tt
  honest_left x y flow.Continued h = tt
  honest_left true y (flow.Returned words) h = refl
  honest_left false y (flow.Returned words) h = absurd (false≢true h)

  pub honest_right : (x y : Bool) (end : Flow) → Honest y end → Honest (either x y) end
  honest_right x y flow.Next h = tt
  honest_right x y flow.Broke h = tt
  honest_right x y flow.Continued h = tt
  honest_right true y (flow.Returned words) h = refl
  honest_right false y (flow.Returned words) h = h

  -- in a loop
  rest_looped : (ms : List (Action State Flow)) (rest : List Placed) (returns others : Bool) → ((s : State) (f : Site) (t : ℕ) → On s f → Agree (Goes true others) (block ms s t) (ops_do false a cs (looped_code rest) f t)) → (end : Flow) (s : State) (e : Exit) (f : Site) (t : ℕ) → Goes true returns end s e f → Agree (Goes true (either returns others)) (then_go end (block ms) s t) (through e (ops_do false a cs (looped_code rest)) f t)
  rest_looped ms rest returns others r flow.Next s e f t q = rw q.0.0 (agree_so (Goes true others) (Goes true (either returns others)) (block ms s t) (ops_do false a cs (looped_code rest) f t) (r s f t q.0.1) (λ end s1 x f1 g. (g.0, honest_right returns others end g.1)))
  rest_looped ms rest returns others r flow.Broke s e f t q = rw q.0.0 (refl, ((refl, q.0.1), tt))
  rest_looped ms rest returns others r flow.Continued s e f t q = rw q.0.0 (refl, ((refl, q.0.1), tt))
  rest_looped ms rest returns others r (flow.Returned words) s e f t q = rw q.0.0 (refl, ((refl, q.0.1), honest_left returns others (flow.Returned words) q.1))

  -- a statement behind the flag runs while the function has not returned
  behind_on : (seen : Bool) (ops : List Op) (s : State) (f : Site) (t : ℕ) → On s f → ops_do false a cs (behind F seen ops) f t ≡ ops_do false a cs ops f t
  behind_on true ops s f t on = ops_one a cs _ _ f t (does_If a cs F [] ops) ∙ rw (on_flag s f on) refl
  behind_on false ops s f t on = refl

  -- and what is left is passed over once it has
  passed : (rest : List Placed) (words : List ℕ) (s : State) (f : Site) (t : ℕ) → Back words s f → ops_do false a cs (straight_code F true rest) f t ≡ Done Through f t
  passed [] words s f t b = refl
  passed (c ∷ rest) words s f t b =
      let one : ops_do false a cs (o.If F [] (c.code false) ∷ []) f t ≡ Done Through f t = ops_one a cs _ _ f t (does_If a cs F [] (c.code false)) ∙ rw (back_flag words s f b) refl in
      ops_append a cs (o.If F [] (c.code false) ∷ []) (straight_code F true rest) f t ∙ ap (λ p. and_then p (λ e. through e (ops_do false a cs (straight_code F true rest)))) one ∙ passed rest words s f t b

  seen_too : (seen returns : Bool) → IsTrue returns → either seen returns ≡ true
  seen_too true returns h = refl
  seen_too false true h = refl
  seen_too false false h = absurd (false≢true h)

  -- outside loops
  rest_straight : (ms : List (Action State Flow)) (rest : List Placed) (seen returns others : Bool) → ((s : State) (f : Site) (t : ℕ) → On s f → Agree (Goes false others) (block ms s t) (ops_do false a cs (straight_code F (either seen returns) rest) f t)) → (end : Flow) (s : State) (e : Exit) (f : Site) (t : ℕ) → Goes false returns end s e f → Agree (Goes false (either returns others)) (then_go end (block ms) s t) (through e (ops_do false a cs (straight_code F (either seen returns) rest)) f t)
  rest_straight ms rest seen returns others r flow.Next s e f t q = rw q.0.0 (agree_so (Goes false others) (Goes false (either returns others)) (block ms s t) (ops_do false a cs (straight_code F (either seen returns) rest) f t) (r s f t q.0.1) (λ end s1 x f1 g. (g.0, honest_right returns others end g.1)))
  rest_straight ms rest seen returns others r flow.Broke s e f t q = absurd q.0
  rest_straight ms rest seen returns others r flow.Continued s e f t q = absurd q.0
  rest_straight ms rest seen returns others r (flow.Returned words) s e f t q = rw (q.0.0, seen_too seen returns q.1, passed rest words s f t q.0.1) (refl, ((refl, q.0.1), honest_left returns others (flow.Returned words) q.1))

  module _ {A B : Type 0} (pr : B → A) (m : A → Action State Flow) (c : A → Placed) (w : A → Bool → Bool) (each : (x : B) → Follows (m (pr x)) (c (pr x)) (w (pr x))) where
    looped_block : (xs : List B) → IsTrue (all_fit (map w (map pr xs)) true) → base + all_need (map c (map pr xs)) < R → (s : State) (f : Site) (t : ℕ) → On s f → Agree (Goes true (any_returns (map c (map pr xs)))) (block (map m (map pr xs)) s t) (ops_do false a cs (looped_code (map c (map pr xs))) f t)
    looped_block [] ok room s f t on = (refl, ((refl, on), tt))
    looped_block (x ∷ xs) ok room s f t on =
        rw (ops_append a cs ((c (pr x)).code true) (looped_code (map c (map pr xs))) f t) (agree_then (Goes true (c (pr x)).returns) (Goes true (either (c (pr x)).returns (any_returns (map c (map pr xs))))) (m (pr x) s t) (ops_do false a cs ((c (pr x)).code true) f t) (λ end. then_go end (block (map m (map pr xs)))) (λ e. through e (ops_do false a cs (looped_code (map c (map pr xs))))) (each x true (and_left (w (pr x) true) _ ok) (omega arith) s f t on) (λ end s1 e f1 t1 q. rest_looped (map m (map pr xs)) (map c (map pr xs)) (c (pr x)).returns (any_returns (map c (map pr xs))) (looped_block xs (and_right (w (pr x) true) _ ok) (omega arith)) end s1 e f1 t1 q))

    pub straight_block : (seen : Bool) (xs : List B) → IsTrue (all_fit (map w (map pr xs)) false) → base + all_need (map c (map pr xs)) < R → (s : State) (f : Site) (t : ℕ) → On s f → Agree (Goes false (any_returns (map c (map pr xs)))) (block (map m (map pr xs)) s t) (ops_do false a cs (straight_code F seen (map c (map pr xs))) f t)
    straight_block seen [] ok room s f t on = (refl, ((refl, on), tt))
    straight_block seen (x ∷ xs) ok room s f t on =
        let rest = straight_code F (either seen (c (pr x)).returns) (map c (map pr xs)) in
        rw (ops_append a cs (behind F seen ((c (pr x)).code false)) rest f t, behind_on seen ((c (pr x)).code false) s f t on) (agree_then (Goes false (c (pr x)).returns) (Goes false (either (c (pr x)).returns (any_returns (map c (map pr xs))))) (m (pr x) s t) (ops_do false a cs ((c (pr x)).code false) f t) (λ end. then_go end (block (map m (map pr xs)))) (λ e. through e (ops_do false a cs rest)) (each x false (and_left (w (pr x) false) _ ok) (omega arith) s f t on) (λ end s1 e f1 t1 q. rest_straight (map m (map pr xs)) (map c (map pr xs)) seen (c (pr x)).returns (any_returns (map c (map pr xs))) (straight_block (either seen (c (pr x)).returns) xs (and_right (w (pr x) false) _ ok) (omega arith)) end s1 e f1 t1 q))

    pub block_good : (xs : List B) → Follows (block (map m (map pr xs))) (record { returns = any_returns (map c (map pr xs)); need = all_need (map c (map pr xs)); code = block_code F (map c (map pr xs)) }) (all_fit (map w (map pr xs)))
    block_good xs true ok room s f t on = looped_block xs ok room s f t on
    block_good xs false ok room s f t on = straight_block false xs ok room s f t on
