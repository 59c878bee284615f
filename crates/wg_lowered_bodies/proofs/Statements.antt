-- Statements, and the body of a function: their code does what they mean.
use Rattle.std.proofs.Common.{◌≡◌, ◌≢◌, ℕ, zero, suc, ◌+◌, ◌<◌, ◌≤◌, List, [], ◌∷◌, ◌++◌, map, length, Bool, true, false, refl, sym, ap, ◌∙◌, subst, arith, get_or-set_other, get_or-set_same}
use Rattle.std.proofs.lemmas.Bool.{false≢true, eqb-true}
use Rattle.std.specs.Prelude.{slice_index, slice_set, IsTrue, ◌&&◌, max, Option, Some, None}
use Rattle.wg_state.specs.Turns.{Ending, Spent, Done, Action, and_then, pure, ◌>>=◌, ◌>>◌}
use Rattle.wg_typed.specs.declared.typed.TypedStruct.{TypedStruct}
use Rattle.wg_typed.specs.declared.typed_expr.TypedExpr.{TypedExpr}
use Rattle.wg_typed.specs.declared.typed_stmt.TypedStart.{TypedStart}
use Rattle.wg_typed.specs.declared.typed_stmt.TypedStep.{TypedStep}
use Rattle.wg_typed.specs.declared.typed_stmt.TypedStmt.{TypedStmt, roll-TypedStmt, fold-roll-TypedStmt, ind-TypedStmt, map-TypedStmt}
use Rattle.wg_typed.specs.declared.typed_stmt.TypedStmt.TheOpen.{TypedStmt-F}
use Rattle.wg_semantics.specs.declared.state.State.{State}
use Rattle.wg_semantics.specs.declared.state.Flow.{Flow}
use Rattle.wg_semantics.specs.declared.state.Flow.TheVariants as flow
use Rattle.wg_semantics.specs.Places.{Setting}
use Rattle.wg_semantics.specs.Calls.{Callee, value_of}
use Rattle.wg_semantics.specs.ExprMeaning.{seen, word_of, when}
use Rattle.wg_semantics.specs.StepMeaning.{steps_do, started}
use Rattle.wg_semantics.specs.StmtMeaning.{on, loop, test_of, returned, stmt_step, does, body_does}
use Rattle.wg_code.specs.Lane.{Around, Site, Exit, Through}
use Rattle.wg_code.specs.Flow.{Callees, through}
use Rattle.wg_code.specs.OpMeaning.{op_does, ops_do, op_step}
use Rattle.wg_code.specs.declared.op.Op.{Op, fold-roll-Op}
use Rattle.wg_code.specs.declared.op.Op.TheOpen.{Op-F}
use Rattle.wg_code.specs.declared.op.Op.TheVariants as o
use Rattle.wg_lowered.specs.Holding.{Agree, Below, Beside, Holds}
use Rattle.wg_lowered.specs.Where.{Names, size, total, run, copies}
use Rattle.wg_lowered.specs.Exprs.{coded, value_code, value_need, first_of}
use Rattle.wg_lowered.specs.Fits.{typing}
use Rattle.wg_lowered.proofs.Ops.{agree_then, agree_so, ops_append, ops_one, does_Set, does_Copy, does_If}
use Rattle.wg_lowered.proofs.Straight.{Every, Straight, set_puts, below_same, below_then, below_set, with}
use Rattle.wg_lowered.proofs.Registers.{and_left, and_right}
use Rattle.wg_lowered.proofs.Values.{Given, holds_below, then_code}
use Rattle.wg_lowered.proofs.Rights.{only_word, word_of_then}
use Rattle.wg_lowered.proofs.Operated.{if_agree, straight_code}
use Rattle.wg_lowered.proofs.Expressions.{right}
use Rattle.wg_lowered_bodies.specs.Returning.{On, Back, Ends}
use Rattle.wg_lowered_bodies.specs.Steps.{settled, steps_ops, steps_need, start_ops, start_need}
use Rattle.wg_lowered_bodies.specs.StepsFit.{value_fits, steps_fit, start_fits, declares_fit, step_fits}
use Rattle.wg_lowered_bodies.specs.Statements.{Placed, either, flag_of, results_of, free_of, leave, left, return_ops, return_need, test_code, test_need, loop_code, nothing, any_returns, placed, body_code, body_need}
use Rattle.wg_lowered_bodies.specs.Statements.{stmt_step as code_step}
use Rattle.wg_lowered_bodies.specs.StatementsFit.{test_fits, return_fits, stmt_fits, body_fits}
use Rattle.wg_lowered_bodies.specs.StatementsFit.{stmt_step as fit_step}
use Rattle.wg_lowered_bodies.proofs.Stores.{Apart, rest_apart}
use Rattle.wg_lowered_bodies.proofs.Assigning.{Went, kb, given, settled_leaves, step_goes, steps_go, declares_go, starts_go, none_go}
use Rattle.wg_lowered_bodies.proofs.Turning.{Tested, Stepped, InLoop, AfterLoop, loop_goes}
use Rattle.wg_lowered_bodies.proofs.Blocks.{Goes, Follows, honest_left, honest_right, block_good, straight_block}

-- another answer, for which there is no code
agree_map : {A B : Type 0} (Q : A → State → Exit → Site → Type 0) (Q' : B → State → Exit → Site → Type 0) (h : A → B) (m : Ending State A) (p : Ending Site Exit) → Agree Q m p → ((v : A) (s : State) (e : Exit) (f : Site) → Q v s e f → Q' (h v) s e f) → Agree Q' (and_then m (λ v. pure (h v))) p
agree_map Q Q' h Spent Spent r g = tt
agree_map Q Q' h Spent (Done c f u) r g = absurd r
agree_map Q Q' h (Done v s t) Spent r g = absurd r
agree_map Q Q' h (Done v s t) (Done c f u) r g = (r.0, g v s c f r.1)

-- registers that are not the one that is set
set_reads : (xs : List ℕ) (at v least : ℕ) (rs : List ℕ) → at < least → Every (λ r. least ≤ r) rs → map (slice_index (slice_set xs at v)) rs ≡ map (slice_index xs) rs
set_reads xs at v least [] lt h = refl
set_reads xs at v least (r ∷ rs) lt h =
    let ne : r ≢ at = (let z = h.0 in omega (arith, z)) in
    rw (get_or-set_other xs at r v 0 ne, set_reads xs at v least rs lt h.1) refl

run_from : (least at n : ℕ) → least ≤ at → Every (λ r. least ≤ r) (run at n)
run_from least at zero le = tt
run_from least at (suc n) le = (le, run_from least (suc at) n (omega arith))

module _ (a : Around) (cs : Callees) where
  does_Break : op_does false a cs o.Break ≡ op_step false a cs Op-F.Break
  does_Break = ap (op_does false a cs) (sym o.rolls-Break) ∙ fold-roll-Op (Action Site Exit) (op_step false a cs) Op-F.Break

  does_Continue : op_does false a cs o.Continue ≡ op_step false a cs Op-F.Continue
  does_Continue = ap (op_does false a cs) (sym o.rolls-Continue) ∙ fold-roll-Op (Action Site Exit) (op_step false a cs) Op-F.Continue

  -- registers copied to lower ones
  copies_down : (rs : List ℕ) (at : ℕ) (f : Site) (t : ℕ) → Apart (at + length rs) rs → at + length rs ≤ length f.registers → Straight a cs (copies rs at) at f t (λ after. map (slice_index after) (run at (length rs)) ≡ map (slice_index f.registers) rs)
  copies_down [] at f t ap' room = record { after = f.registers; runs = refl; below = below_same at f.registers; holds = refl }
  copies_down (r ∷ rs) at f t ap' room =
      let v = slice_index f.registers r in
      let regs = slice_set f.registers at v in
      let runs : ops_do false a cs (o.Copy at r ∷ []) f t ≡ Done Through (with f regs) t = ops_one a cs _ _ f t (does_Copy a cs at r) in
      let below : Below at f.registers regs = below_set at at v f.registers f.registers (omega arith) (below_same at f.registers) in
      let z : at + suc (length rs) ≡ suc at + length rs = omega arith in
      let apart : Every (λ q. suc at + length rs ≤ q) rs = subst (λ n. Every (λ q. n ≤ q) rs) z ap' in
      let n = below.count in
      let y = copies_down rs (suc at) (with f regs) t (rest_apart (suc at + length rs) rs apart) (omega (arith, n)) in
      let same : map (slice_index regs) rs ≡ map (slice_index f.registers) rs = set_reads f.registers at v (suc at + length rs) rs (omega arith) apart in
      let here : slice_index regs at ≡ v = get_or-set_same f.registers at v 0 (omega arith) in
      record {
        after = y.after;
        runs = ops_append a cs (o.Copy at r ∷ []) (copies rs (suc at)) f t ∙ ap (λ p. and_then p (λ e. through e (ops_do false a cs (copies rs (suc at))))) runs ∙ y.runs;
        below = below_then at (suc at) f.registers regs y.after (omega arith) below y.below;
        holds = rw (y.below.kept at (omega arith), here, y.holds, same) refl;
      }

module _ (a : Around) (cs : Callees) (setting : Setting) (beside : Beside a setting) (callees : List Callee) (vs gs : List ℕ) (R result : ℕ) where
  abbrev ks : Names
  ks = kb a cs setting beside callees vs gs R

  abbrev Here : State → Site → Type 0
  Here s f = On ks R s f

  abbrev Gone : List ℕ → State → Site → Type 0
  Gone words s f = Back ks R result words s f

  here_flag : (s : State) (f : Site) → Here s f → slice_index f.registers (flag_of ks) ≡ 0
  here_flag s f h = h.flag

  gone_flag : (ws : List ℕ) (s : State) (f : Site) → Gone ws s f → slice_index f.registers (flag_of ks) ≡ 1
  gone_flag ws s f h = h.flag

  abbrev base : ℕ
  base = free_of ks result

  abbrev Good : Action State Flow → Placed → (Bool → Bool) → Type 0
  Good m c w = Follows a cs (flag_of ks) base R Here Gone here_flag gone_flag m c w

  abbrev GoesHere : Bool → Bool → Flow → State → Exit → Site → Type 0
  GoesHere looped returns = Goes a cs (flag_of ks) base R Here Gone here_flag gone_flag looped returns

  -- ---- steps as statements

  after_step : (looped : Bool) (s0 : State) (f : Site) → Here s0 f → (u : Unit {0}) (s : State) (e : Exit) (f' : Site) → Went ks R base f u s e f' → GoesHere looped false flow.Next s e f'
  after_step true s0 f h u s e f' q = ((q.is_through, record { holds = q.holds; flag = q.kept (flag_of ks) (omega arith) (omega arith) ∙ h.flag }), tt)
  after_step false s0 f h u s e f' q = ((q.is_through, record { holds = q.holds; flag = q.kept (flag_of ks) (omega arith) (omega arith) ∙ h.flag }), tt)

  as_statement : (m : Action State (Unit {0})) (need : ℕ) (ops : List Op) (w : Bool → Bool) → ((looped : Bool) → IsTrue (w looped) → base + need < R → (s : State) (f : Site) (t : ℕ) → Holds ks R s f → Agree (Went ks R base f) (m s t) (ops_do false a cs ops f t)) → Good (on m) (record { returns = false; need = need; code = λ looped. ops }) w
  as_statement m need ops w g looped ok room s f t h =
      agree_map (Went ks R base f) (GoesHere looped false) (λ u. flow.Next) (m s t) (ops_do false a cs ops f t) (g looped ok room s f t h.holds) (λ u s1 e f1 q. after_step looped s f h u s1 e f1 q)

  empty_good : (w : Bool → Bool) → Good (pure flow.Next) nothing w
  empty_good w true ok room s f t h = (refl, ((refl, h), tt))
  empty_good w false ok room s f t h = (refl, ((refl, h), tt))

  break_good : Good (pure flow.Broke) (record { returns = false; need = 0; code = λ looped. o.Break ∷ [] }) (λ looped. looped)
  break_good true ok room s f t h = rw (ops_one a cs _ _ f t (does_Break a cs)) (refl, ((refl, h), tt))
  break_good false ok room s f t h = absurd (false≢true ok)

  continue_good : Good (pure flow.Continued) (record { returns = false; need = 0; code = λ looped. o.Continue ∷ [] }) (λ looped. looped)
  continue_good true ok room s f t h = rw (ops_one a cs _ _ f t (does_Continue a cs)) (refl, ((refl, h), tt))
  continue_good false ok room s f t h = absurd (false≢true ok)

  -- ---- a return

  -- the flag, and out of the loop
  leaves_here : (looped : Bool) (words : List ℕ) (s : State) (f : Site) (t : ℕ) → base < R → Holds ks R s f → map (slice_index f.registers) (run (results_of ks) result) ≡ words → Agree (GoesHere looped true) (Done (flow.Returned words) s t) (ops_do false a cs (o.Set (flag_of ks) 1 ∷ leave looped) f t)
  leaves_here looped words s f t room h v = rw (ops_append a cs (o.Set (flag_of ks) 1 ∷ []) (leave looped) f t, ops_one a cs _ _ f t (does_Set a cs (flag_of ks) 1)) (go looped)
    where
      back : Gone words s (with f (slice_set f.registers (total vs) 1))
      back = record {
        holds = holds_below ks R (total vs) s f (slice_set f.registers (total vs) 1) (omega arith) h (below_set (total vs) (total vs) 1 f.registers f.registers (omega arith) (below_same (total vs) f.registers));
        flag = get_or-set_same f.registers (total vs) 1 0 (omega (arith, h.count));
        value = set_reads f.registers (total vs) 1 (total vs + 1) (run (total vs + 1) result) (omega arith) (run_from (total vs + 1) (total vs + 1) result (omega arith)) ∙ v;
      }

      go : (b : Bool) → Agree (GoesHere b true) (Done (flow.Returned words) s t) (ops_do false a cs (leave b) (with f (slice_set f.registers (total vs) 1)) t)
      go true = rw (ops_one a cs _ _ (with f (slice_set f.registers (total vs) 1)) t (does_Break a cs)) (refl, ((refl, back), refl))
      go false = (refl, ((refl, back), refl))

  return_good : (value : Option TypedExpr) → Good (returned setting callees value) (record { returns = true; need = return_need ks value; code = return_ops ks base value }) (λ looped. return_fits ks result value)
  return_good None looped ok room s f t h =
      let e : result ≡ 0 = eqb-true result 0 ok in
      leaves_here looped [] s f t (omega arith) h.holds (subst (λ n. map (slice_index f.registers) (run (results_of ks) n) ≡ []) (sym e) refl)
  return_good (Some e) looped ok room s f t h =
      let m = seen setting callees e in
      let c = coded ks e in
      let g = right a cs setting beside callees vs gs R e in
      let w = value_code ks c base in
      let e2 = base + value_need ks c in
      let x = settled base w.at e2 in
      let sized : size ks m.of ≡ result = ap (size ks) (sym g.w_of) ∙ eqb-true (size ks (typing ks e).of) result (and_right (typing ks e).fits _ ok) in
      let cz : size ks c.of ≡ size ks m.of = ap (size ks) g.c_of in
      then_code a cs ks R (Given ks R base e2 (size ks m.of) w.at f) (GoesHere looped true) (value_of setting.structs m s t) w.ops (x.ops ++ (copies x.at (results_of ks) ++ o.Set (flag_of ks) 1 ∷ leave looped)) f t (λ words. pure (flow.Returned words)) (λ v s e f q. q.is_through) (given a cs setting beside callees vs gs R e (and_left (typing ks e).fits _ ok) base s f t (omega arith) (omega arith) h.holds) (λ ws s1 f1 t1 q.
      let n : length w.at ≡ result = q.count ∙ sized in
      let y = settled_leaves a cs ks R base e2 w.at f1 t1 (omega arith) q.lies (omega (arith, n, cz, sized)) q.holds.count in
      let f2 = with f1 y.after in
      let n2 : length x.at ≡ result = y.holds.1.1 ∙ n in
      let h2 = holds_below ks R e2 s1 f1 y.after (omega arith) q.holds y.below in
      let far : base ≡ results_of ks + length x.at = omega (arith, n2) in
      let z = copies_down a cs x.at (results_of ks) f2 t1 (subst (λ b. Apart b x.at) far y.holds.1.0) (omega (arith, h2.count, n2)) in
      let h3 = holds_below ks R (results_of ks) s1 f2 z.after (omega arith) h2 z.below in
      let v : map (slice_index z.after) (run (results_of ks) result) ≡ ws = subst (λ j. map (slice_index z.after) (run (results_of ks) j) ≡ map (slice_index y.after) x.at) n2 z.holds ∙ y.holds.0 ∙ q.value in
      straight_code a cs setting vs gs R (GoesHere looped true) (Done (flow.Returned ws) s1 t1) x.ops (copies x.at (results_of ks) ++ o.Set (flag_of ks) 1 ∷ leave looped) e2 f1 t1 _ y (straight_code a cs setting vs gs R (GoesHere looped true) (Done (flow.Returned ws) s1 t1) (copies x.at (results_of ks)) (o.Set (flag_of ks) 1 ∷ leave looped) (results_of ks) f2 t1 _ z (leaves_here looped ws s1 (with f2 z.after) t1 (omega arith) h3 v)))

  -- ---- tests

  test_word : (e : TypedExpr) → IsTrue (value_fits ks e 1) → size ks (seen setting callees e).of ≡ 1
  test_word e ok = ap (size ks) (sym (right a cs setting beside callees vs gs R e).w_of) ∙ eqb-true (size ks (typing ks e).of) 1 (and_right (typing ks e).fits _ ok)

  if_good : (test : TypedExpr) (m n : Action State Flow) (c d : Placed) (w v : Bool → Bool) → Good m c w → Good n d v → Good (word_of setting (seen setting callees test) >>= (λ go. when go m n)) (record {
    returns = either c.returns d.returns;
    need = max (test_need ks (Some test)) (max c.need d.need);
    code = λ looped.
        let w = test_code ks (Some test) base in
        w.ops ++ o.If (first_of w.at) (c.code looped) (d.code looped) ∷ [];
  }) (λ looped. value_fits ks test 1 && (w looped && v looped))
  if_good test m n c d w v gm gn looped ok room s f t h =
      let ok1 = and_left (value_fits ks test 1) _ ok in
      let ok2 = and_right (value_fits ks test 1) _ ok in
      let code = value_code ks (coded ks test) base in
      let Q = GoesHere looped (either c.returns d.returns) in
      word_of_then a cs setting vs gs R Q (seen setting callees test) (coded ks test) (typing ks test) (o.If (first_of code.at) (c.code looped) (d.code looped) ∷ []) base s f t (λ go. when go m n) (right a cs setting beside callees vs gs R test) (and_left (typing ks test).fits _ ok1) (test_word test ok1) (omega arith) (omega arith) h.holds (λ go s1 f1 t1 h1 b1 e1 q1.
      let on1 : Here s1 f1 = record { holds = h1; flag = b1.kept (flag_of ks) (omega arith) ∙ h.flag } in
      if_agree a cs setting vs gs R Q (first_of code.at) go m n (c.code looped) (d.code looped) s1 f1 t1 e1
      (λ b. agree_so (GoesHere looped c.returns) Q (m s1 t1) (ops_do false a cs (c.code looped) f1 t1) (gm looped (and_left (w looped) _ ok2) (omega arith) s1 f1 t1 on1) (λ end s2 x f2 z. (z.0, honest_left a cs (flag_of ks) base R Here Gone here_flag gone_flag c.returns d.returns end z.1)))
      (λ b. agree_so (GoesHere looped d.returns) Q (n s1 t1) (ops_do false a cs (d.code looped) f1 t1) (gn looped (and_right (w looped) _ ok2) (omega arith) s1 f1 t1 on1) (λ end s2 x f2 z. (z.0, honest_right a cs (flag_of ks) base R Here Gone here_flag gone_flag c.returns d.returns end z.1))))

  -- ---- loops

  test_goes : (test : Option TypedExpr) → IsTrue (test_fits ks test) → base + test_need ks test < R → (s : State) (f : Site) (t : ℕ) → Here s f → Agree (Tested a cs Here Gone (first_of (test_code ks test base).at)) (test_of setting callees test s t) (ops_do false a cs (test_code ks test base).ops f t)
  test_goes None ok room s f t h =
      let x = set_puts a cs 1 base f t (omega (arith, h.holds.count)) in
      rw x.runs (refl, record { is_through = refl; on = record { holds = holds_below ks R base s f x.after (omega arith) h.holds x.below; flag = x.below.kept (flag_of ks) (omega arith) ∙ h.flag }; value = x.holds })
  test_goes (Some e) ok room s f t h =
      let m = seen setting callees e in
      let w = value_code ks (coded ks e) base in
      agree_map (Given ks R base (base + value_need ks (coded ks e)) (size ks m.of) w.at f) (Tested a cs Here Gone (first_of w.at)) (λ ws. slice_index ws 0) (value_of setting.structs m s t) (ops_do false a cs w.ops f t) (given a cs setting beside callees vs gs R e (and_left (typing ks e).fits _ ok) base s f t (omega arith) room h.holds) (λ ws s1 x f1 q. record {
        is_through = q.is_through;
        on = record { holds = q.holds; flag = q.below.kept (flag_of ks) (omega arith) ∙ h.flag };
        value = (only_word (slice_index f1.registers) w.at ws (q.count ∙ test_word e ok) q.value).0;
      })

  -- once returned in a loop, where its body may return
  abbrev Came : Bool → List ℕ → State → Site → Type 0
  Came returns words s f = Gone words s f × IsTrue returns

  body_ends : (returns : Bool) (end : Flow) (s : State) (e : Exit) (f : Site) → GoesHere true returns end s e f → InLoop a cs Here (Came returns) end s e f
  body_ends returns flow.Next s e f q = q.0
  body_ends returns flow.Broke s e f q = q.0
  body_ends returns flow.Continued s e f q = q.0
  body_ends returns (flow.Returned words) s e f q = (q.0.0, (q.0.1, q.1))

  left_goes : (returns looped : Bool) (end : Flow) (s : State) (e : Exit) (f : Site) (t : ℕ) → AfterLoop a cs Here (Came returns) end s e f → Agree (GoesHere looped returns) (Done end s t) (through e (ops_do false a cs (left (flag_of ks) returns looped)) f t)
  left_goes true true flow.Next s e f t q = rw (q.0, ops_one a cs _ _ f t (does_If a cs (flag_of ks) (o.Break ∷ []) []), q.1.flag) (refl, ((refl, q.1), tt))
  left_goes true true (flow.Returned words) s e f t q = rw (q.0, ops_one a cs _ _ f t (does_If a cs (flag_of ks) (o.Break ∷ []) []), q.1.0.flag) (rw (ops_one a cs _ _ f t (does_Break a cs)) (refl, ((refl, q.1.0), refl)))
  left_goes true true flow.Broke s e f t q = absurd q
  left_goes true true flow.Continued s e f t q = absurd q
  left_goes true false flow.Next s e f t q = rw q.0 (refl, ((refl, q.1), tt))
  left_goes true false (flow.Returned words) s e f t q = rw q.0 (refl, ((refl, q.1.0), refl))
  left_goes true false flow.Broke s e f t q = absurd q
  left_goes true false flow.Continued s e f t q = absurd q
  left_goes false true flow.Next s e f t q = rw q.0 (refl, ((refl, q.1), tt))
  left_goes false false flow.Next s e f t q = rw q.0 (refl, ((refl, q.1), tt))
  left_goes false looped (flow.Returned words) s e f t q = absurd (false≢true q.1.1)
  left_goes false looped flow.Broke s e f t q = absurd q
  left_goes false looped flow.Continued s e f t q = absurd q

  then_done : (o : Ending State Flow) → and_then o (λ v. pure v) ≡ o
  then_done Spent = refl
  then_done (Done v s t) = refl

  loop_good : (test : Option TypedExpr) (m : Action State Flow) (c : Placed) (w : Bool → Bool) (steps : Action State (Unit {0})) (sops : List Op) (looped : Bool) → Good m c w → IsTrue (test_fits ks test) → IsTrue (w true) → base + test_need ks test < R → base + c.need < R → ((s : State) (f : Site) (t : ℕ) → Holds ks R s f → Agree (Went ks R base f) (steps s t) (ops_do false a cs sops f t)) → (s : State) (f : Site) (t : ℕ) → Here s f → Agree (GoesHere looped c.returns) (loop (test_of setting callees test) m steps s t) (ops_do false a cs (loop_code ks base test c sops looped) f t)
  loop_good test m c w steps sops looped g ok okb room roomb sg s f t h =
      let x = test_code ks test base in
      let turn = o.Loop x.ops (first_of x.at) (c.code true) sops in
      let first = loop_goes a cs Here (Came c.returns) (test_of setting callees test) m steps x.ops (c.code true) sops (first_of x.at)
      (λ s1 f1 t1 h1. agree_so (Tested a cs Here Gone (first_of x.at)) (Tested a cs Here (Came c.returns) (first_of x.at)) (test_of setting callees test s1 t1) (ops_do false a cs x.ops f1 t1) (test_goes test ok room s1 f1 t1 h1) (λ v s2 e f2 q. record { is_through = q.is_through; on = q.on; value = q.value }))
      (λ s1 f1 t1 h1. agree_so (GoesHere true c.returns) (InLoop a cs Here (Came c.returns)) (m s1 t1) (ops_do false a cs (c.code true) f1 t1) (g true okb roomb s1 f1 t1 h1) (λ end s2 e f2 q. body_ends c.returns end s2 e f2 q))
      (λ s1 f1 t1 h1. agree_so (Went ks R base f1) (Stepped a cs Here (Came c.returns)) (steps s1 t1) (ops_do false a cs sops f1 t1) (sg s1 f1 t1 h1.holds) (λ u s2 e f2 q. (q.is_through, record { holds = q.holds; flag = q.kept (flag_of ks) (omega arith) (omega arith) ∙ h1.flag })))
      s f t h in
      subst (λ z. Agree (GoesHere looped c.returns) z (ops_do false a cs (turn ∷ left (flag_of ks) c.returns looped) f t)) (then_done (loop (test_of setting callees test) m steps s t)) (rw (ops_append a cs (turn ∷ []) (left (flag_of ks) c.returns looped) f t) (agree_then (AfterLoop a cs Here (Came c.returns)) (GoesHere looped c.returns) (loop (test_of setting callees test) m steps s t) (ops_do false a cs (turn ∷ []) f t) (λ v. pure v) (λ e. through e (ops_do false a cs (left (flag_of ks) c.returns looped))) first (λ end s1 e f1 t1 q. left_goes c.returns looped end s1 e f1 t1 q)))

  while_good : (test : TypedExpr) (m : Action State Flow) (c : Placed) (w : Bool → Bool) → Good m c w → Good (loop (word_of setting (seen setting callees test)) m (pure tt)) (record {
    returns = c.returns;
    need = max (test_need ks (Some test)) c.need;
    code = loop_code ks base (Some test) c [];
  }) (λ looped. value_fits ks test 1 && w true)
  while_good test m c w g looped ok room s f t h =
      loop_good (Some test) m c w (pure tt) [] looped g (and_left (value_fits ks test 1) _ ok) (and_right (value_fits ks test 1) _ ok) (omega arith) (omega arith) (λ s1 f1 t1 h1. none_go a cs setting beside callees vs gs R base s1 f1 t1 h1) s f t h

  for_good : (start : Option TypedStart) (test : Option TypedExpr) (steps : List TypedStep) (m : Action State Flow) (c : Placed) (w : Bool → Bool) → Good m c w → Good (started setting callees start >> loop (test_of setting callees test) m (steps_do setting callees steps)) (record {
    returns = c.returns;
    need = max (max (start_need ks start) (test_need ks test)) (max (steps_need ks steps) c.need);
    code = λ looped. start_ops ks start base ++ loop_code ks base test c (steps_ops ks steps base) looped;
  }) (λ looped. (start_fits ks start && test_fits ks test) && (steps_fit ks steps && w true))
  for_good start test steps m c w g looped ok room s f t h =
      let ok1 = and_left (start_fits ks start && test_fits ks test) _ ok in
      let ok2 = and_right (start_fits ks start && test_fits ks test) _ ok in
      then_code a cs ks R (Went ks R base f) (GoesHere looped c.returns) (started setting callees start s t) (start_ops ks start base) (loop_code ks base test c (steps_ops ks steps base) looped) f t (λ u. loop (test_of setting callees test) m (steps_do setting callees steps)) (λ v s e f q. q.is_through) (starts_go a cs setting beside callees vs gs R start base (and_left (start_fits ks start) _ ok1) s f t (omega arith) (omega arith) h.holds) (λ u s1 f1 t1 q.
      loop_good test m c w (steps_do setting callees steps) (steps_ops ks steps base) looped g (and_right (start_fits ks start) _ ok1) (and_right (steps_fit ks steps) _ ok2) (omega arith) (omega arith) (λ s2 f2 t2 h2. steps_go a cs setting beside callees vs gs R steps base (and_left (steps_fit ks steps) _ ok2) s2 f2 t2 (omega arith) (omega arith) h2) s1 f1 t1 (record { holds = q.holds; flag = q.kept (flag_of ks) (omega arith) (omega arith) ∙ h.flag }))

  -- ---- all statements

  abbrev RightStmt : TypedStmt → Type 0
  RightStmt x = Good (does setting callees x) (placed ks result x) (stmt_fits ks result x)

  module _ {B : Type 0} (pr : B → TypedStmt) (each : (b : B) → RightStmt (pr b)) where
    abbrev Level : TypedStmt-F B → Type 0
    Level y =
        let z = map-TypedStmt B TypedStmt pr y in
        Good (stmt_step setting callees (map-TypedStmt TypedStmt (Action State Flow) (does setting callees) z)) (code_step ks result (map-TypedStmt TypedStmt Placed (placed ks result) z)) (fit_step ks result (map-TypedStmt TypedStmt (Bool → Bool) (stmt_fits ks result) z))

    level : (y : TypedStmt-F B) → Level y
    level (TypedStmt-F.Block body) = block_good a cs (flag_of ks) base R Here Gone here_flag gone_flag pr (does setting callees) (placed ks result) (stmt_fits ks result) each body
    level TypedStmt-F.Empty = empty_good (λ looped. true)
    level (TypedStmt-F.Declare declarators) = as_statement _ _ _ (λ looped. declares_fit ks declarators) (λ looped ok room s f t h. declares_go a cs setting beside callees vs gs R declarators base ok s f t (omega arith) room h)
    level (TypedStmt-F.Request handle group output element amount) = λ looped ok. absurd (false≢true ok)
    level (TypedStmt-F.Increment group output element amount) = λ looped ok. absurd (false≢true ok)
    level (TypedStmt-F.Complete handle) = λ looped ok. absurd (false≢true ok)
    level (TypedStmt-F.Barrier syncs) = empty_good (λ looped. true)
    level (TypedStmt-F.Step step) = as_statement _ _ _ (λ looped. step_fits ks step) (λ looped ok room s f t h. step_goes a cs setting beside callees vs gs R step base ok s f t (omega arith) room h)
    level TypedStmt-F.Break = break_good
    level TypedStmt-F.Continue = continue_good
    level (TypedStmt-F.Return value) = return_good value
    level (TypedStmt-F.If attributes collective test first None) = if_good test _ (pure flow.Next) _ nothing _ (λ looped. true) (each first) (empty_good (λ looped. true))
    level (TypedStmt-F.If attributes collective test first (Some other)) = if_good test _ _ _ _ _ _ (each first) (each other)
    level (TypedStmt-F.While attributes test body) = while_good test _ _ _ (each body)
    level (TypedStmt-F.For attributes start test steps body) = for_good start test steps _ _ _ (each body)

  right_stmt : (x : TypedStmt) → RightStmt x
  right_stmt x = ind-TypedStmt RightStmt (λ x y eq. subst (λ l. RightStmt (roll-TypedStmt l)) eq (rw (fold-roll-TypedStmt (Action State Flow) (stmt_step setting callees) _, fold-roll-TypedStmt Placed (code_step ks result) _, fold-roll-TypedStmt (Bool → Bool) (fit_step ks result) _) (level (λ b. b.0) (λ b. b.1) y))) x

  ends_so : (returns : Bool) (end : Flow) (s : State) (e : Exit) (f : Site) → GoesHere false returns end s e f → Ends ks R result end s e f
  ends_so returns flow.Next s e f q = q.0
  ends_so returns flow.Broke s e f q = q.0
  ends_so returns flow.Continued s e f q = q.0
  ends_so returns (flow.Returned words) s e f q = q.0

  map_id : (xs : List TypedStmt) → map (λ x. x) xs ≡ xs
  map_id [] = refl
  map_id (x ∷ xs) = ap (λ l. x ∷ l) (map_id xs)

  -- the body of a function
  pub body_goes : (body : List TypedStmt) (s : State) (f : Site) (t : ℕ) → IsTrue (body_fits ks result body) → base + body_need ks result body < R → On ks R s f → Agree (Ends ks R result) (body_does setting callees body s t) (ops_do false a cs (body_code ks result body) f t)
  body_goes body s f t =
      subst (λ l. IsTrue (body_fits ks result l) → base + body_need ks result l < R → On ks R s f → Agree (Ends ks R result) (body_does setting callees l s t) (ops_do false a cs (body_code ks result l) f t)) (map_id body) (λ ok room h.
      agree_so (GoesHere false (any_returns (map (placed ks result) (map (λ x. x) body)))) (Ends ks R result) (body_does setting callees (map (λ x. x) body) s t) (ops_do false a cs (body_code ks result (map (λ x. x) body)) f t) (straight_block a cs (flag_of ks) base R Here Gone here_flag gone_flag (λ x. x) (does setting callees) (placed ks result) (stmt_fits ks result) right_stmt false body ok room s f t h) (λ end s1 e f1 q. ends_so (any_returns (map (placed ks result) (map (λ x. x) body))) end s1 e f1 q))

module _ (vs gs : List ℕ) where
  abbrev names : List TypedStruct → Names
  names st = record { structs = st; variables = vs; shared = gs }

  named_body : (a : Around) (cs : Callees) (setting : Setting) (callees : List Callee) (st : List TypedStruct) (result : ℕ) (body : List TypedStmt) (R : ℕ) (s : State) (f : Site) (t : ℕ) → Beside a setting → setting.structs ≡ st → body_fits (names st) result body ≡ true → free_of (names st) result + body_need (names st) result body < R → On (names st) R s f → Agree (Ends (names st) R result) (body_does setting callees body s t) (ops_do false a cs (body_code (names st) result body) f t)
  named_body a cs setting callees st result body R s f t beside same =
      subst (λ st. body_fits (names st) result body ≡ true → free_of (names st) result + body_need (names st) result body < R → On (names st) R s f → Agree (Ends (names st) R result) (body_does setting callees body s t) (ops_do false a cs (body_code (names st) result body) f t)) same (λ ok room h. body_goes a cs setting beside callees vs gs R result body s f t ok room h)

-- the body of a function, as the law says it
pub bodies_go : (around : Around) (functions : Callees) (setting : Setting) (callees : List Callee) (k : Names) (result : ℕ) (body : List TypedStmt) (registers : ℕ) (s : State) (f : Site) (turns : ℕ) → Beside around setting → k.structs ≡ setting.structs → body_fits k result body ≡ true → free_of k result + body_need k result body < registers → On k registers s f → Agree (Ends k registers result) (body_does setting callees body s turns) (ops_do false around functions (body_code k result body) f turns)
bodies_go a cs setting callees k result body R s f t beside same = named_body k.variables k.shared a cs setting callees k.structs result body R s f t beside (sym same)
