-- Steps and declarations: their code does what they mean.
use Rattle.std.proofs.Common.{◌≡◌, ℕ, zero, suc, ◌+◌, ◌<◌, ◌≤◌, List, [], ◌∷◌, ◌++◌, map, length, Bool, true, false, refl, sym, ap, ◌∙◌, subst, arith}
use Rattle.std.proofs.lemmas.Bool.{false≢true, eqb-true}
use Rattle.std.proofs.lemmas.List.{length-map}
use Rattle.std.specs.Prelude.{slice_index, IsTrue, ◌&&◌, ◌==◌, not, nat_lt, replicate, if◌then◌else◌, Option, Some, None}
use Rattle.wg_words.specs.Truth.{is_true, truth}
use Rattle.wg_state.specs.Turns.{Ending, Spent, Done, Action, and_then, pure, ◌>>=◌, ◌>>◌}
use Rattle.wg_state.specs.WordLists.{zeros}
use Rattle.wg_tree.specs.declared.expr.BinaryOperator.{BinaryOperator}
use Rattle.wg_tree.specs.declared.expr.BinaryOperator.TheVariants as binary
use Rattle.wg_tree.specs.declared.expr.Scalar.{Scalar}
use Rattle.wg_tree.specs.declared.expr.Scalar.TheVariants as scalar
use Rattle.wg_tree.specs.declared.stmt.StepOperator.{StepOperator}
use Rattle.wg_tree.specs.declared.stmt.StepOperator.TheVariants as change
use Rattle.wg_typed.specs.Operators.{scalar_of, is_wide, numbers_in, combined, combined_words, converted, pairwise, stepped, stepped_words}
use Rattle.wg_typed.specs.declared.types.TypeTree.{TypeTree}
use Rattle.wg_typed.specs.declared.typed_expr.TypedExpr.{TypedExpr}
use Rattle.wg_typed.specs.declared.typed_stmt.TypedDeclarator.{TypedDeclarator}
use Rattle.wg_typed.specs.declared.typed_stmt.TypedStart.{TypedStart}
use Rattle.wg_typed.specs.declared.typed_stmt.TypedStart.TheVariants as start
use Rattle.wg_typed.specs.declared.typed_stmt.TypedStep.{TypedStep}
use Rattle.wg_typed.specs.declared.typed_stmt.TypedStep.TheVariants as step
use Rattle.wg_semantics.specs.declared.state.State.{State}
use Rattle.wg_semantics.specs.declared.state.Spot.{Spot}
use Rattle.wg_semantics.specs.declared.state.Spot.TheVariants as spot
use Rattle.wg_semantics.specs.declared.state.Store.TheVariants as store
use Rattle.wg_semantics.specs.Places.{Setting, fetched, written}
use Rattle.wg_semantics.specs.Calls.{Seen, Callee, value_of}
use Rattle.wg_semantics.specs.ExprMeaning.{seen}
use Rattle.wg_semantics.specs.StepMeaning.{store_at, assigned, updated, changed, step_does, steps_do, start_value, declared_as, all_declared, started}
use Rattle.wg_code.specs.Lane.{Around, Site, Exit, Through}
use Rattle.wg_code.specs.Flow.{Callees, through}
use Rattle.wg_code.specs.OpMeaning.{ops_do}
use Rattle.wg_code.specs.Operators.{binary as operation}
use Rattle.wg_code.specs.declared.op.Op.{Op}
use Rattle.wg_code.specs.declared.op.Op.TheVariants as o
use Rattle.wg_lowered.specs.declared.places.Where.{Where}
use Rattle.wg_lowered.specs.declared.places.Where.TheVariants as place
use Rattle.wg_lowered.specs.Holding.{Agree, Below, Beside, Holds}
use Rattle.wg_lowered.specs.Where.{Names, Words, size, base_of, variables_end, run, each_ops, copy_op, copies, fetched_at}
use Rattle.wg_lowered.specs.Exprs.{Coded, coded, value_code, value_need, converted_code, form_of, pair_ops}
use Rattle.wg_lowered.specs.Fits.{typing, is_narrow, converts, variable_fits}
use Rattle.wg_lowered.proofs.Ops.{agree_so, ops_append}
use Rattle.wg_lowered.proofs.Straight.{Every, Puts, Straight, straight_then, each_puts, set_puts, copy_puts, binary_puts, below_same, below_then, with}
use Rattle.wg_lowered.proofs.Registers.{and_left, and_right, base_below, run_length, run_below, reads_same}
use Rattle.wg_lowered.proofs.Values.{Found, Given, Stands, LiesBelow, holds_below, then_code}
use Rattle.wg_lowered.proofs.Fetches.{fetch, every_more}
use Rattle.wg_lowered.proofs.Parts.{stands_same, less_is}
use Rattle.wg_lowered.proofs.Narrow.{narrow_is, plain_words, plain_numbers, plain_combined}
use Rattle.wg_lowered.proofs.Forms.{IsWordly, pairs_put}
use Rattle.wg_lowered.proofs.Rights.{K, ExprGood, part_value, lies_more}
use Rattle.wg_lowered.proofs.Converted.{converted_leaves}
use Rattle.wg_lowered.proofs.Expressions.{right}
use Rattle.wg_lowered_bodies.specs.Steps.{are_apart, settled, settled_stores, stores, assign_ops, combined_code, combined_need, update_ops, update_need, change_number, change_op, change_ops, change_need, step_ops, step_need, steps_ops, steps_need, start_value_ops, start_value_need, declares_ops, declares_need, start_ops, start_need}
use Rattle.wg_lowered_bodies.specs.StepsFit.{is_target, is_wordly, combines, step_fits, steps_fit, start_value_fits, declare_fits, declares_fit, start_fits}
use Rattle.wg_lowered_bodies.proofs.Stores.{Apart, IsPlace, apart_is, rest_apart, stores_go}
use Rattle.wg_lowered_bodies.proofs.Targets.{Answers, target_place}

-- what code leaves that has no answer: the registers between the variables and the free ones are the same
pub record Went (k : Names) (R d : ℕ) (f : Site) (u : Unit {0}) (s' : State) (exit : Exit) (f' : Site) : Type 0 where
  pub is_through : exit ≡ Through
  pub holds : Holds k R s' f'
  pub kept : (r : ℕ) → variables_end k ≤ r → r < d → slice_index f'.registers r ≡ slice_index f.registers r

agree_both : {A : Type 0} (P : A → Type 0) (Q : A → State → Exit → Site → Type 0) (m : Ending State A) (p : Ending Site Exit) → Answers P m → Agree Q m p → Agree (λ v s e f. Q v s e f × P v) m p
agree_both P Q Spent Spent h r = tt
agree_both P Q Spent (Done b f u) h r = absurd r
agree_both P Q (Done v s t) Spent h r = absurd r
agree_both P Q (Done v s t) (Done b f u) h r = (r.0, (r.1, h))

-- an answer that is not used
agree_drop : {A B : Type 0} (Q : A → State → Exit → Site → Type 0) (Q' : B → State → Exit → Site → Type 0) (b : B) (m : Ending State A) (p : Ending Site Exit) → Agree Q m p → ((v : A) (s : State) (e : Exit) (f : Site) → Q v s e f → Q' b s e f) → Agree Q' (and_then m (λ v. pure b)) p
agree_drop Q Q' b Spent Spent r g = tt
agree_drop Q Q' b Spent (Done c f u) r g = absurd r
agree_drop Q Q' b (Done v s t) Spent r g = absurd r
agree_drop Q Q' b (Done v s t) (Done c f u) r g = (r.0, g v s c f r.1)

run_above : (least at n : ℕ) → least ≤ at → Every (λ r. least ≤ r) (run at n)
run_above least at zero le = tt
run_above least at (suc n) le = (le, run_above least (suc at) n (omega arith))

every_same : (least d n : ℕ) → least ≤ d → Every (λ r. least ≤ r) (replicate n d)
every_same least d zero le = tt
every_same least d (suc n) le = (le, every_same least d n le)

map_same : (g : ℕ → ℕ) (d v n : ℕ) → g d ≡ v → map g (replicate n d) ≡ replicate n v
map_same g d v zero e = refl
map_same g d v (suc n) e = rw (e, map_same g d v n e) refl

same_length : (n d : ℕ) → length (replicate n d) ≡ n
same_length zero d = refl
same_length (suc n) d = ap suc (same_length n d)

is_wordly_so : (op : BinaryOperator) → IsTrue (is_wordly op) → IsWordly op
is_wordly_so binary.Multiply h = tt
is_wordly_so binary.Divide h = tt
is_wordly_so binary.Remainder h = tt
is_wordly_so binary.Add h = tt
is_wordly_so binary.Subtract h = tt
is_wordly_so binary.ShiftLeft h = tt
is_wordly_so binary.ShiftRight h = tt
is_wordly_so binary.Less h = tt
is_wordly_so binary.Greater h = tt
is_wordly_so binary.AtMost h = tt
is_wordly_so binary.AtLeast h = tt
is_wordly_so binary.Equal h = tt
is_wordly_so binary.NotEqual h = tt
is_wordly_so binary.BitAnd h = tt
is_wordly_so binary.BitXor h = tt
is_wordly_so binary.BitOr h = tt
is_wordly_so binary.And h = absurd (false≢true h)
is_wordly_so binary.Or h = absurd (false≢true h)

pair_length : (h : ℕ → ℕ → ℕ) (xs ys : List ℕ) → length xs ≡ length ys → length (pairwise h xs ys) ≡ length xs
pair_length h [] ys e = refl
pair_length h (x ∷ xs) [] e = absurd (let z : ⊥ = omega arith in z)
pair_length h (x ∷ xs) (y ∷ ys) e = ap suc (pair_length h xs ys (omega arith))

map_two : (g h : ℕ → ℕ) (xs : List ℕ) → map (λ x. g (h x)) xs ≡ map g (map h xs)
map_two g h [] = refl
map_two g h (x ∷ xs) = ap (λ l. g (h x) ∷ l) (map_two g h xs)

module _ (a : Around) (cs : Callees) (k : Names) (R : ℕ) where
  -- ---- words in registers that a store does not change

  abbrev pub Settles : ℕ → List ℕ → Words → Site → List ℕ → Type 0
  Settles least rs w f after = (map (slice_index after) w.at ≡ map (slice_index f.registers) rs) × (Apart least w.at × (length w.at ≡ length rs))

  abbrev settled_as : Bool → List ℕ → ℕ → Words
  settled_as b rs d = if b then record { ops = []; at = rs } else record { ops = copies rs d; at = run d (length rs) }

  pub settled_leaves : (least d : ℕ) (rs : List ℕ) (f : Site) (t : ℕ) → least ≤ d → Every (λ r. r < d) rs → d + length rs < R → length f.registers ≡ R → Straight a cs (settled least rs d).ops d f t (Settles least rs (settled least rs d) f)
  settled_leaves least d rs f t le lie room n = go (are_apart least rs) refl
    where
      go : (b : Bool) → are_apart least rs ≡ b → Straight a cs (settled_as b rs d).ops d f t (Settles least rs (settled_as b rs d) f)
      go true e = record { after = f.registers; runs = refl; below = below_same d f.registers; holds = (refl, (apart_is least rs e, refl)) }
      go false e =
          let x = each_puts a cs copy_op (λ r. slice_index f.registers r) d R f.registers f.shared (λ r. r < d) (λ r d' g u ok ge lt' n' b _.
          subst (λ z. Puts a cs (copy_op r d') d' z g u) (b.kept r ok) (copy_puts a cs r d' g u (omega (arith, n')))) rs lie d f t (omega arith) room n (below_same d f.registers) refl in
          let m : length (map (slice_index f.registers) rs) ≡ length rs = length-map rs (slice_index f.registers) in
          record {
            after = x.after;
            runs = x.runs;
            below = x.below;
            holds = (subst (λ z. map (slice_index x.after) (run d z) ≡ map (slice_index f.registers) rs) m x.holds, (rest_apart least (run d (length rs)) (run_above least d (length rs) le), run_length d (length rs)));
          }

  -- ---- words to a place

  -- g is the site before the step, whose registers between the variables and d0 stay
  pub put_goes : (n d0 d : ℕ) (w : Where) (p : Spot) (rs ws : List ℕ) (s : State) (g f : Site) (t : ℕ) → variables_end k ≤ d0 → d0 ≤ d → d + n < R → Holds k R s f → Below d0 g.registers f.registers → IsPlace p → Stands k n w p f.registers → LiesBelow d n w → Every (λ r. r < d) rs → map (slice_index f.registers) rs ≡ ws → length rs ≡ n → Agree (Went k R d0 g) (Done tt (written p ws s) t) (ops_do false a cs (settled_stores k w rs d) f t)
  put_goes n d0 d w p rs ws s g f t le ge room h b i st lw lie v c =
      let x = settled_leaves (variables_end k) d rs f t (omega arith) lie (omega (arith, c)) h.count in
      let f1 = with f x.after in
      let h1 = holds_below k R d s f x.after (omega arith) h x.below in
      let st1 : Stands k (length (settled (variables_end k) rs d).at) w p x.after = subst (λ z. Stands k z w p x.after) (sym (x.holds.1.1 ∙ c)) (stands_same a cs k d n w p f.registers x.after lw x.below st) in
      let y = stores_go a cs k R (settled (variables_end k) rs d).at w p s f1 t (omega arith) h1 i st1 x.holds.1.0 in
      let words : map (slice_index x.after) (settled (variables_end k) rs d).at ≡ ws = x.holds.0 ∙ v in
      let runs : ops_do false a cs (settled_stores k w rs d) f t ≡ Done Through y.after t = ops_append a cs (settled (variables_end k) rs d).ops (stores w (settled (variables_end k) rs d).at) f t ∙ ap (λ z. and_then z (λ e. through e (ops_do false a cs (stores w (settled (variables_end k) rs d).at)))) x.runs ∙ y.runs in
      rw runs (
        refl,
        record {
          is_through = refl;
          holds = subst (λ z. Holds k R (written p z s) y.after) words y.holds;
          kept = λ r ler lt. y.kept r ler ∙ x.below.kept r (omega arith) ∙ b.kept r lt;
        },
      )

module _ (a : Around) (cs : Callees) (setting : Setting) (beside : Beside a setting) (callees : List Callee) (vs gs : List ℕ) (R : ℕ) where
  abbrev pub kb : Names
  kb = K a cs setting vs gs R

  abbrev source : TypedExpr → Seen
  source e = seen setting callees e

  abbrev code : TypedExpr → Coded
  code e = coded kb e

  good : (e : TypedExpr) → ExprGood a cs setting vs gs R (source e) (code e) (typing kb e)
  good e = right a cs setting beside callees vs gs R e

  type_size : (e : TypedExpr) → size kb (typing kb e).of ≡ size kb (source e).of
  type_size e = ap (size kb) (good e).w_of

  code_size : (e : TypedExpr) → size kb (code e).of ≡ size kb (source e).of
  code_size e = ap (size kb) (good e).c_of

  pub given : (e : TypedExpr) → IsTrue (typing kb e).fits → (d : ℕ) (s : State) (f : Site) (t : ℕ) → variables_end kb ≤ d → d + value_need kb (code e) < R → Holds kb R s f → Agree (Given kb R d (d + value_need kb (code e)) (size kb (source e).of) (value_code kb (code e) d).at f) (value_of setting.structs (source e) s t) (ops_do false a cs (value_code kb (code e) d).ops f t)
  given e ok d s f t le room h = part_value a cs setting vs gs R (source e) (code e) (typing kb e) (good e) ok d s f t le room h

  -- a target's code finds a place
  abbrev At : TypedExpr → ℕ → Site → Spot → State → Exit → Site → Type 0
  At e d f p s' x f' = Found kb R d (d + (code e).need) (size kb (source e).of) ((code e).spot d).at f p s' x f' × IsPlace p

  target : (e : TypedExpr) → IsTrue (is_target kb e) → (d : ℕ) (s : State) (f : Site) (t : ℕ) → variables_end kb ≤ d → d + (code e).need < R → Holds kb R s f → Agree (At e d f) ((source e).spot s t) (ops_do false a cs ((code e).spot d).ops f t)
  target e ok d s f t le room h =
      agree_both IsPlace (Found kb R d (d + (code e).need) (size kb (source e).of) ((code e).spot d).at f) ((source e).spot s t) (ops_do false a cs ((code e).spot d).ops f t) (target_place setting callees e (and_right (typing kb e).fits _ ok) s t) ((good e).claim (and_left (typing kb e).fits _ ok) d s f t le room h)

  -- ---- an assignment

  assign_goes : (x e : TypedExpr) → IsTrue (is_target kb x) → IsTrue (typing kb e).fits → size kb (source e).of ≡ size kb (source x).of → (d : ℕ) (s : State) (f : Site) (t : ℕ) → variables_end kb ≤ d → d + ((code x).need + value_need kb (code e) + size kb (code e).of) < R → Holds kb R s f → Agree (Went kb R d f) (assigned setting (source x) (source e) s t) (ops_do false a cs (assign_ops kb (code x) (code e) d) f t)
  assign_goes x e okx oke same d s f t le room h =
      let p = (code x).spot d in
      let e1 = d + (code x).need in
      let w = value_code kb (code e) e1 in
      let e2 = e1 + value_need kb (code e) in
      let n = size kb (source x).of in
      let cz = code_size e in
      then_code a cs kb R (At x d f) (Went kb R d f) ((source x).spot s t) p.ops (w.ops ++ settled_stores kb p.at w.at e2) f t (λ p. value_of setting.structs (source e) >>= (λ words. store_at p words)) (λ v s e f q. q.0.is_through) (target x okx d s f t le (omega arith) h) (λ q s1 f1 t1 y.
      then_code a cs kb R (Given kb R e1 e2 (size kb (source e).of) w.at f1) (Went kb R d f) (value_of setting.structs (source e) s1 t1) w.ops (settled_stores kb p.at w.at e2) f1 t1 (λ words. store_at q words) (λ v s e f q. q.is_through) (given e oke e1 s1 f1 t1 (omega arith) (omega arith) y.0.holds) (λ ws s2 f2 t2 z.
      put_goes a cs kb R n d e2 p.at q w.at ws s2 f f2 t2 le (omega arith) (omega (arith, cz, same)) z.holds (below_then d e1 f.registers f1.registers f2.registers (omega arith) y.0.below z.below) y.1 (stands_same a cs kb e1 n p.at q f1.registers f2.registers y.0.lies z.below y.0.stands) (lies_more e1 e2 n p.at (omega arith) y.0.lies) z.lies z.value (z.count ∙ same)))

  -- ---- `op=`

  abbrev Combines : TypeTree → BinaryOperator → TypeTree → List ℕ → List ℕ → ℕ → Words → List ℕ → Type 0
  Combines of op by lw rw' to w after = (map (slice_index after) w.at ≡ converted by of (combined_words op by (converted of by lw) rw')) × (Every (λ r. r < to) w.at × (length w.at ≡ size kb of))

  combined_leaves : (of : TypeTree) (op : BinaryOperator) (by : TypeTree) (left right' lw rw' : List ℕ) (d : ℕ) (f : Site) (t : ℕ) → IsTrue (combines kb of op by) → length left ≡ size kb of → length right' ≡ size kb by → Every (λ r. r < d) left → Every (λ r. r < d) right' → map (slice_index f.registers) left ≡ lw → map (slice_index f.registers) right' ≡ rw' → d + combined_need kb of by < R → length f.registers ≡ R → Straight a cs (combined_code kb of op by left right' d).ops d f t (Combines of op by lw rw' (d + combined_need kb of by) (combined_code kb of op by left right' d))
  combined_leaves of op by left right' lw rw' d f t ok nl nr ll lr vl vr room n =
      let okw = and_left (is_wordly op && is_narrow by) _ ok in
      let okc = and_right (is_wordly op && is_narrow by) _ ok in
      let nw = narrow_is by (and_right (is_wordly op) _ okw) in
      let iw = is_wordly_so op (and_left (is_wordly op) _ okw) in
      let c = converted_code of by left d in
      let e = d + size kb by in
      let e2 = e + size kb by + 1 in
      let x = converted_leaves a cs setting vs gs R of by left d f t (and_left (converts kb of by) _ okc) nl ll (omega arith) n in
      let f1 = with f x.after in
      let n1 : length x.after ≡ R = x.below.count ∙ n in
      let lc = x.holds.1.1 in
      let y = pairs_put a cs R op (scalar_of by) c.at right' e f1 t nw iw (lc ∙ sym nr) (omega (arith, lc)) n1 x.holds.1.0 (every_more d e right' (omega arith) lr) in
      let rv : map (slice_index x.after) right' ≡ rw' = reads_same d f.registers x.after right' x.below lr ∙ vr in
      let cv : map (slice_index x.after) c.at ≡ converted of by lw = x.holds.0 ∙ ap (converted of by) vl in
      let long : length (pairwise (combined op (scalar_of by)) (map (slice_index x.after) c.at) (map (slice_index x.after) right')) ≡ size kb by = pair_length (combined op (scalar_of by)) (map (slice_index x.after) c.at) (map (slice_index x.after) right') (length-map c.at (slice_index x.after) ∙ lc ∙ sym nr ∙ sym (length-map right' (slice_index x.after))) ∙ length-map c.at (slice_index x.after) ∙ lc in
      let yv : map (slice_index y.after) (run e (size kb by)) ≡ combined_words op by (converted of by lw) rw' = subst (λ z. map (slice_index y.after) (run e z) ≡ pairwise (combined op (scalar_of by)) (map (slice_index x.after) c.at) (map (slice_index x.after) right')) long y.holds ∙ rw (cv, rv) (sym (plain_combined op by (converted of by lw) rw' nw)) in
      let f2 = with f1 y.after in
      let n2 : length y.after ≡ R = y.below.count ∙ n1 in
      let z = converted_leaves a cs setting vs gs R by of (run e (size kb by)) e2 f2 t (and_right (converts kb of by) _ okc) (run_length e (size kb by)) (run_below e (size kb by) e2 (omega arith)) (omega arith) n2 in
      let to : e2 + size kb of ≡ d + combined_need kb of by = omega arith in
      let b = converted_code by of (run e (size kb by)) e2 in
      straight_then a cs c.ops (pair_ops (form_of op (scalar_of by)) c.at right' e ++ b.ops) d e f t _ (Combines of op by lw rw' (d + combined_need kb of by) b) (omega arith) x (straight_then a cs (pair_ops (form_of op (scalar_of by)) c.at right' e) b.ops e e2 f1 t _ (Combines of op by lw rw' (d + combined_need kb of by) b) (omega arith) y (record {
        after = z.after;
        runs = z.runs;
        below = z.below;
        holds = (z.holds.0 ∙ ap (converted by of) yv, (subst (λ q. Every (λ r. r < q) b.at) to z.holds.1.0, z.holds.1.1));
      }))

  update_goes : (x : TypedExpr) (op : BinaryOperator) (by : TypeTree) (e : TypedExpr) → IsTrue (is_target kb x) → IsTrue (combines kb (source x).of op by) → IsTrue (typing kb e).fits → size kb (source e).of ≡ size kb by → (code x).of ≡ (source x).of → (d : ℕ) (s : State) (f : Site) (t : ℕ) → variables_end kb ≤ d → d + update_need kb (code x) by (code e) < R → Holds kb R s f → Agree (Went kb R d f) (updated setting (source x) op by (source e) s t) (ops_do false a cs (update_ops kb (code x) op by (code e) d) f t)
  update_goes x op by e okx okc oke same ofs d s f t le =
      let of = (source x).of in
      let n = size kb of in
      let p = (code x).spot d in
      let e1 = d + (code x).need in
      let w = value_code kb (code e) e1 in
      let e2 = e1 + value_need kb (code e) in
      let l = fetched_at p.at n e2 in
      let e3 = e2 + n in
      let c = combined_code kb of op by l.at w.at e3 in
      let e4 = e3 + combined_need kb of by in
      let Goal : TypeTree → Type 0 = λ u. d + ((code x).need + value_need kb (code e) + size kb u + combined_need kb u by + size kb u) < R → Holds kb R s f → Agree (Went kb R d f) (updated setting (source x) op by (source e) s t) (ops_do false a cs (p.ops ++ (w.ops ++ ((fetched_at p.at (size kb u) e2).ops ++ ((combined_code kb u op by (fetched_at p.at (size kb u) e2).at w.at (e2 + size kb u)).ops ++ settled_stores kb p.at (combined_code kb u op by (fetched_at p.at (size kb u) e2).at w.at (e2 + size kb u)).at (e2 + size kb u + combined_need kb u by))))) f t) in
      subst Goal (sym ofs) (λ room h.
      then_code a cs kb R (At x d f) (Went kb R d f) ((source x).spot s t) p.ops (w.ops ++ (l.ops ++ (c.ops ++ settled_stores kb p.at c.at e4))) f t _ (λ v s e f q. q.0.is_through) (target x okx d s f t le (omega arith) h) (λ q s1 f1 t1 y.
      then_code a cs kb R (Given kb R e1 e2 (size kb (source e).of) w.at f1) (Went kb R d f) (value_of setting.structs (source e) s1 t1) w.ops (l.ops ++ (c.ops ++ settled_stores kb p.at c.at e4)) f1 t1 _ (λ v s e f q. q.is_through) (given e oke e1 s1 f1 t1 (omega arith) (omega arith) y.0.holds) (λ ws s2 f2 t2 z.
      let st2 = stands_same a cs kb e1 n p.at q f1.registers f2.registers y.0.lies z.below y.0.stands in
      let b2 = below_then d e1 f.registers f1.registers f2.registers (omega arith) y.0.below z.below in
      then_code a cs kb R (Given kb R e2 e3 n l.at f2) (Went kb R d f) (Done (fetched setting.structs of q s2) s2 t2) l.ops (c.ops ++ settled_stores kb p.at c.at e4) f2 t2 (λ left. store_at q (converted by of (combined_words op by (converted of by left) ws))) (λ v s e f q. q.is_through) (fetch a cs kb R e2 e2 of p.at q f2 s2 f2 t2 (omega arith) (omega arith) (omega arith) (record { is_through = refl; holds = z.holds; below = below_same e2 f2.registers; stands = st2; lies = lies_more e1 e2 n p.at (omega arith) y.0.lies })) (λ left s3 f3 t3 g.
      let b3 = below_then d e2 f.registers f2.registers f3.registers (omega arith) b2 g.below in
      let wv : map (slice_index f3.registers) w.at ≡ ws = reads_same e2 f2.registers f3.registers w.at g.below z.lies ∙ z.value in
      let st3 = stands_same a cs kb e2 n p.at q f2.registers f3.registers (lies_more e1 e2 n p.at (omega arith) y.0.lies) g.below st2 in
      let k = combined_leaves of op by l.at w.at left ws e3 f3 t3 okc g.count (z.count ∙ same) g.lies (every_more e2 e3 w.at (omega arith) z.lies) g.value wv (omega arith) g.holds.count in
      let f4 = with f3 k.after in
      let st4 = stands_same a cs kb e3 n p.at q f3.registers k.after (lies_more e1 e3 n p.at (omega arith) y.0.lies) k.below st3 in
      let h4 = holds_below kb R e3 s3 f3 k.after (omega arith) g.holds k.below in
      let b4 = below_then d e3 f.registers f3.registers k.after (omega arith) b3 k.below in
      rw (ops_append a cs c.ops (settled_stores kb p.at c.at e4) f3 t3, k.runs) (put_goes a cs kb R n d e4 p.at q c.at _ s3 f f4 t3 le (omega arith) (omega arith) h4 b4 y.1 st4 (lies_more e1 e4 n p.at (omega arith) y.0.lies) k.holds.1.0 k.holds.0 k.holds.1.1)))))

  -- ---- `++` and `--`

  number_puts : (op : StepOperator) (r d : ℕ) (f : Site) (t : ℕ) → r < d → d < length f.registers → Puts a cs (o.Set d 1 ∷ o.Binary (change_number op) d r d ∷ []) d (operation 32 (change_number op) (slice_index f.registers r) 1) f t
  number_puts op r d f t lt room =
      let y = set_puts a cs 1 d f t room in
      let z = binary_puts a cs (change_number op) r d d (with f y.after) t (omega (arith, room, y.below.count)) in
      straight_then a cs (o.Set d 1 ∷ []) (o.Binary (change_number op) d r d ∷ []) d d f t (λ after. slice_index after d ≡ 1) (λ after. slice_index after d ≡ operation 32 (change_number op) (slice_index f.registers r) 1) (omega arith) y (record { after = z.after; runs = z.runs; below = z.below; holds = z.holds ∙ rw (y.below.kept r lt, y.holds) refl })

  truth_again_puts : (d v : ℕ) (f : Site) (t : ℕ) → d + 1 < length f.registers → slice_index f.registers d ≡ v → Puts a cs (o.Set (suc d) 0 ∷ o.Binary 14 d (suc d) d ∷ []) d (truth (is_true v)) f t
  truth_again_puts d v f t room e =
      let x = set_puts a cs 0 (suc d) f t (omega arith) in
      let y = binary_puts a cs 14 (suc d) d d (with f x.after) t (omega (arith, x.below.count)) in
      let z : slice_index y.after d ≡ truth (is_true v) = y.holds ∙ rw (x.below.kept d (omega arith), x.holds, e, less_is 0 v) (ap truth (positive v)) in
      record {
        after = y.after;
        runs = ops_append a cs (o.Set (suc d) 0 ∷ []) (o.Binary 14 d (suc d) d ∷ []) f t ∙ ap (λ p. and_then p (λ e. through e (ops_do false a cs (o.Binary 14 d (suc d) d ∷ [])))) x.runs ∙ y.runs;
        below = record { kept = λ r lt. y.below.kept r lt ∙ x.below.kept r (omega arith); count = y.below.count ∙ x.below.count };
        holds = z;
      }
    where
      positive : (v : ℕ) → nat_lt 0 v ≡ is_true v
      positive zero = refl
      positive (suc v) = let z : (suc v == 0) ≡ false = grind arith in let y : nat_lt 0 (suc v) ≡ true = grind arith in y ∙ sym (ap not z)

  change_puts : (op : StepOperator) (s : Scalar) (r d : ℕ) (f : Site) (t : ℕ) → is_wide s ≡ false → r < d → d + 1 < length f.registers → Puts a cs (change_op op s r d) d (stepped op s (slice_index f.registers r)) f t
  change_puts op scalar.Bool r d f t e lt room =
      let y = number_puts op r d f t lt (omega arith) in
      let z = truth_again_puts d (operation 32 (change_number op) (slice_index f.registers r) 1) (with f y.after) t (omega (arith, y.below.count)) y.holds in
      subst (λ v. Puts a cs (change_op op scalar.Bool r d) d v f t) (sym (bool_is op (slice_index f.registers r))) (straight_then a cs (o.Set d 1 ∷ o.Binary (change_number op) d r d ∷ []) (o.Set (suc d) 0 ∷ o.Binary 14 d (suc d) d ∷ []) d d f t (λ after. slice_index after d ≡ operation 32 (change_number op) (slice_index f.registers r) 1) (λ after. slice_index after d ≡ truth (is_true (operation 32 (change_number op) (slice_index f.registers r) 1))) (omega arith) y z)
    where
      bool_is : (op : StepOperator) (v : ℕ) → stepped op scalar.Bool v ≡ truth (is_true (operation 32 (change_number op) v 1))
      bool_is change.Increment v = refl
      bool_is change.Decrement v = refl
  change_puts change.Increment scalar.Int r d f t e lt room = number_puts change.Increment r d f t lt (omega arith)
  change_puts change.Decrement scalar.Int r d f t e lt room = number_puts change.Decrement r d f t lt (omega arith)
  change_puts change.Increment scalar.Uint r d f t e lt room = number_puts change.Increment r d f t lt (omega arith)
  change_puts change.Decrement scalar.Uint r d f t e lt room = number_puts change.Decrement r d f t lt (omega arith)
  change_puts op scalar.Int16 r d f t e lt room = absurd (false≢true (sym e))
  change_puts op scalar.Uint16 r d f t e lt room = absurd (false≢true (sym e))
  change_puts op scalar.Int64 r d f t e lt room = absurd (false≢true (sym e))
  change_puts op scalar.Uint64 r d f t e lt room = absurd (false≢true (sym e))

  change_goes : (x : TypedExpr) (op : StepOperator) → IsTrue (is_target kb x) → IsTrue (is_narrow (source x).of) → (code x).of ≡ (source x).of → (d : ℕ) (s : State) (f : Site) (t : ℕ) → variables_end kb ≤ d → d + change_need kb (code x) < R → Holds kb R s f → Agree (Went kb R d f) (changed setting (source x) op s t) (ops_do false a cs (change_ops kb (code x) op d) f t)
  change_goes x op okx okn ofs d s f t le =
      let of = (source x).of in
      let sc = scalar_of of in
      let nw = narrow_is of okn in
      let n = size kb of in
      let p = (code x).spot d in
      let e1 = d + (code x).need in
      let l = fetched_at p.at n e1 in
      let e2 = e1 + n in
      let c = each_ops (change_op op sc) l.at e2 in
      let Goal : TypeTree → Type 0 = λ u. d + ((code x).need + size kb u + size kb u + 1) < R → Holds kb R s f → Agree (Went kb R d f) (changed setting (source x) op s t) (ops_do false a cs (p.ops ++ ((fetched_at p.at (size kb u) e1).ops ++ (each_ops (change_op op (scalar_of u)) (fetched_at p.at (size kb u) e1).at (e1 + size kb u) ++ stores p.at (run (e1 + size kb u) (size kb u))))) f t) in
      subst Goal (sym ofs) (λ room h.
      then_code a cs kb R (At x d f) (Went kb R d f) ((source x).spot s t) p.ops (l.ops ++ (c ++ stores p.at (run e2 n))) f t _ (λ v s e f q. q.0.is_through) (target x okx d s f t le (omega arith) h) (λ q s1 f1 t1 y.
      then_code a cs kb R (Given kb R e1 e2 n l.at f1) (Went kb R d f) (Done (fetched setting.structs of q s1) s1 t1) l.ops (c ++ stores p.at (run e2 n)) f1 t1 (λ words. store_at q (stepped_words op of words)) (λ v s e f q. q.is_through) (fetch a cs kb R e1 e1 of p.at q f1 s1 f1 t1 (omega arith) (omega arith) (omega arith) (record { is_through = refl; holds = y.0.holds; below = below_same e1 f1.registers; stands = y.0.stands; lies = y.0.lies })) (λ words s3 f3 t3 g.
      let z = each_puts a cs (change_op op sc) (λ r. stepped op sc (slice_index f3.registers r)) e2 R f3.registers f3.shared (λ r. r < e2) (λ r d' v u ok ge lt' n' b _.
      subst (λ w. Puts a cs (change_op op sc r d') d' w v u) (ap (stepped op sc) (b.kept r ok)) (change_puts op sc r d' v u nw (omega (arith, ok, ge)) (omega (arith, n')))) l.at g.lies e2 f3 t3 (omega arith) (omega (arith, g.count)) g.holds.count (below_same e2 f3.registers) refl in
      let m : length (map (λ r. stepped op sc (slice_index f3.registers r)) l.at) ≡ n = length-map l.at (λ r. stepped op sc (slice_index f3.registers r)) ∙ g.count in
      let value : map (slice_index z.after) (run e2 n) ≡ stepped_words op of words = subst (λ j. map (slice_index z.after) (run e2 j) ≡ map (λ r. stepped op sc (slice_index f3.registers r)) l.at) m z.holds ∙ map_two (stepped op sc) (slice_index f3.registers) l.at ∙ ap (map (stepped op sc)) g.value ∙ sym (plain_words sc (map (stepped op sc) (numbers_in sc words)) nw ∙ ap (map (stepped op sc)) (plain_numbers sc words nw)) in
      let f4 = with f3 z.after in
      let h4 = holds_below kb R e2 s3 f3 z.after (omega arith) g.holds z.below in
      let st3 = stands_same a cs kb e1 n p.at q f1.registers f3.registers y.0.lies g.below y.0.stands in
      let st4 = stands_same a cs kb e2 n p.at q f3.registers z.after (lies_more e1 e2 n p.at (omega arith) y.0.lies) z.below st3 in
      let b4 = below_then d e2 f.registers f3.registers z.after (omega arith) (below_then d e1 f.registers f1.registers f3.registers (omega arith) y.0.below g.below) z.below in
      let w = stores_go a cs kb R (run e2 n) p.at q s3 f4 t3 (omega arith) h4 y.1 (subst (λ j. Stands kb j p.at q z.after) (sym (run_length e2 n)) st4) (rest_apart (variables_end kb) (run e2 n) (run_above (variables_end kb) e2 n (omega arith))) in
      rw (ops_append a cs c (stores p.at (run e2 n)) f3 t3, z.runs, w.runs) (
        refl,
        record {
          is_through = refl;
          holds = subst (λ j. Holds kb R (written q j s3) w.after) value w.holds;
          kept = λ r ler lt. w.kept r ler ∙ b4.kept r lt;
        },
      ))))

  -- ---- steps

  abbrev pub StepGoes : ℕ → TypedStep → Type 0
  StepGoes d x = (s : State) (f : Site) (t : ℕ) → variables_end kb ≤ d → d + step_need kb x < R → Holds kb R s f → Agree (Went kb R d f) (step_does setting callees x s t) (ops_do false a cs (step_ops kb x d) f t)

  pub step_goes : (x : TypedStep) (d : ℕ) → IsTrue (step_fits kb x) → StepGoes d x
  step_goes (step.Evaluate value) d ok s f t le room h =
      agree_drop (Given kb R d (d + value_need kb (code value)) (size kb (source value).of) (value_code kb (code value) d).at f) (Went kb R d f) tt (value_of setting.structs (source value) s t) _ (given value ok d s f t le room h) (λ v s1 e f1 q. record { is_through = q.is_through; holds = q.holds; kept = λ r ler lt. q.below.kept r lt })
  step_goes (step.Assign x value) d ok s f t le room h =
      let okv = and_right (is_target kb x) _ ok in
      let same : size kb (source value).of ≡ size kb (source x).of = sym (type_size value) ∙ eqb-true (size kb (typing kb value).of) (size kb (typing kb x).of) (and_right (typing kb value).fits _ okv) ∙ type_size x in
      assign_goes x value (and_left (is_target kb x) _ ok) (and_left (typing kb value).fits _ okv) same d s f t le room h
  step_goes (step.Update x op by value) d ok s f t le room h =
      let ok2 = and_right (is_target kb x) _ ok in
      let okv = and_right (combines kb (typing kb x).of op by) _ ok2 in
      let same : size kb (source value).of ≡ size kb by = sym (type_size value) ∙ eqb-true (size kb (typing kb value).of) (size kb by) (and_right (typing kb value).fits _ okv) in
      let okc : IsTrue (combines kb (source x).of op by) = subst (λ u. IsTrue (combines kb u op by)) (good x).w_of (and_left (combines kb (typing kb x).of op by) _ ok2) in
      update_goes x op by value (and_left (is_target kb x) _ ok) okc (and_left (typing kb value).fits _ okv) same (good x).c_of d s f t le room h
  step_goes (step.Change x op) d ok s f t le room h =
      let okn : IsTrue (is_narrow (source x).of) = subst (λ u. IsTrue (is_narrow u)) (good x).w_of (and_right (is_target kb x) _ ok) in
      change_goes x op (and_left (is_target kb x) _ ok) okn (good x).c_of d s f t le room h
  step_goes (step.Call function arguments) d ok s f t le room h = absurd (false≢true ok)
  step_goes (step.Store buffer address value) d ok s f t le room h = absurd (false≢true ok)
  step_goes (step.Interlocked i) d ok s f t le room h = absurd (false≢true ok)

  -- one after another
  went_then : (d : ℕ) (f f1 : Site) (s : State) (m : Action State (Unit {0})) (ops : List Op) (t : ℕ) → ((r : ℕ) → variables_end kb ≤ r → r < d → slice_index f1.registers r ≡ slice_index f.registers r) → Agree (Went kb R d f1) (m s t) (ops_do false a cs ops f1 t) → Agree (Went kb R d f) (m s t) (ops_do false a cs ops f1 t)
  went_then d f f1 s m ops t b r =
      agree_so (Went kb R d f1) (Went kb R d f) (m s t) (ops_do false a cs ops f1 t) r (λ u s2 e f2 q. record { is_through = q.is_through; holds = q.holds; kept = λ x le lt. q.kept x le lt ∙ b x le lt })

  pub two_go : (d : ℕ) (m n : Action State (Unit {0})) (x y : List Op) (s : State) (f : Site) (t : ℕ) → Agree (Went kb R d f) (m s t) (ops_do false a cs x f t) → ((s1 : State) (f1 : Site) (t1 : ℕ) → Holds kb R s1 f1 → Agree (Went kb R d f1) (n s1 t1) (ops_do false a cs y f1 t1)) → Agree (Went kb R d f) ((m >> n) s t) (ops_do false a cs (x ++ y) f t)
  two_go d m n x y s f t first next =
      then_code a cs kb R (Went kb R d f) (Went kb R d f) (m s t) x y f t (λ u. n) (λ v s e f q. q.is_through) first (λ u s1 f1 t1 q. went_then d f f1 s1 n y t1 q.kept (next s1 f1 t1 q.holds))

  pub none_go : (d : ℕ) (s : State) (f : Site) (t : ℕ) → Holds kb R s f → Agree (Went kb R d f) (Done tt s t) (Done Through f t)
  none_go d s f t h = (refl, record { is_through = refl; holds = h; kept = λ r le lt. refl })

  pub steps_go : (xs : List TypedStep) (d : ℕ) → IsTrue (steps_fit kb xs) → (s : State) (f : Site) (t : ℕ) → variables_end kb ≤ d → d + steps_need kb xs < R → Holds kb R s f → Agree (Went kb R d f) (steps_do setting callees xs s t) (ops_do false a cs (steps_ops kb xs d) f t)
  steps_go [] d ok s f t le room h = none_go d s f t h
  steps_go (x ∷ xs) d ok s f t le room h =
      two_go d (step_does setting callees x) (steps_do setting callees xs) (step_ops kb x d) (steps_ops kb xs d) s f t (step_goes x d (and_left (step_fits kb x) _ ok) s f t le (omega arith) h) (λ s1 f1 t1 h1. steps_go xs d (and_right (step_fits kb x) _ ok) s1 f1 t1 le (omega arith) h1)

  -- ---- declarations

  variable_stands : (variable n : ℕ) (f : List ℕ) → IsTrue (variable_fits vs variable n) → Stands kb n (place.Fixed (base_of vs variable)) (spot.At (store.Variable variable) 0) f
  variable_stands variable n f ok =
      let e = eqb-true (slice_index vs variable) n (and_right (nat_lt variable (length vs)) _ ok) in
      record { is_variable = tt; inside = omega (arith, e); base = omega arith }

  variable_lies : (variable n d : ℕ) → IsTrue (variable_fits vs variable n) → variables_end kb ≤ d → LiesBelow d n (place.Fixed (base_of vs variable))
  variable_lies variable n d ok le =
      let e = eqb-true (slice_index vs variable) n (and_right (nat_lt variable (length vs)) _ ok) in
      let b = base_below vs variable in
      omega (arith, e, b, le)

  start_goes : (of : TypeTree) (variable : ℕ) (value : Option TypedExpr) (d : ℕ) → IsTrue (variable_fits vs variable (size kb of)) → IsTrue (start_value_fits kb (size kb of) value) → (s : State) (f : Site) (t : ℕ) → variables_end kb ≤ d → d + start_value_need kb value < R → Holds kb R s f → Agree (Went kb R d f) ((start_value setting callees of value >>= (λ words. store_at (spot.At (store.Variable variable) 0) words)) s t) (ops_do false a cs (start_value_ops kb of variable value d) f t)
  start_goes of variable None d okv ok s f t le room h =
      let n = size kb of in
      let w = place.Fixed (base_of vs variable) in
      let x = set_puts a cs 0 d f t (omega (arith, h.count)) in
      let f1 = with f x.after in
      let h1 = holds_below kb R d s f x.after le h x.below in
      let y = stores_go a cs kb R (replicate n d) w (spot.At (store.Variable variable) 0) s f1 t (omega arith) h1 tt (subst (λ j. Stands kb j w (spot.At (store.Variable variable) 0) x.after) (sym (same_length n d)) (variable_stands variable n x.after okv)) (rest_apart (variables_end kb) (replicate n d) (every_same (variables_end kb) d n le)) in
      let zs : map (slice_index x.after) (replicate n d) ≡ zeros n = map_same (slice_index x.after) d 0 n x.holds in
      rw (ops_append a cs (o.Set d 0 ∷ []) (stores w (replicate n d)) f t, x.runs, y.runs) (
        refl,
        record {
          is_through = refl;
          holds = subst (λ j. Holds kb R (written (spot.At (store.Variable variable) 0) j s) y.after) zs y.holds;
          kept = λ r ler lt. y.kept r ler ∙ x.below.kept r lt;
        },
      )
  start_goes of variable (Some e) d okv ok s f t le room h =
      let n = size kb of in
      let w = value_code kb (code e) d in
      let e2 = d + value_need kb (code e) in
      let cz = code_size e in
      let same : size kb (source e).of ≡ n = sym (type_size e) ∙ eqb-true (size kb (typing kb e).of) n (and_right (typing kb e).fits _ ok) in
      then_code a cs kb R (Given kb R d e2 (size kb (source e).of) w.at f) (Went kb R d f) (value_of setting.structs (source e) s t) w.ops (settled_stores kb (place.Fixed (base_of vs variable)) w.at e2) f t (λ words. store_at (spot.At (store.Variable variable) 0) words) (λ v s e f q. q.is_through) (given e (and_left (typing kb e).fits _ ok) d s f t le (omega arith) h) (λ ws s2 f2 t2 z.
      put_goes a cs kb R n d e2 (place.Fixed (base_of vs variable)) (spot.At (store.Variable variable) 0) w.at ws s2 f f2 t2 le (omega arith) (omega (arith, cz, same)) z.holds z.below tt (variable_stands variable n f2.registers okv) (variable_lies variable n e2 okv (omega arith)) z.lies z.value (z.count ∙ same))

  pub declares_go : (xs : List TypedDeclarator) (d : ℕ) → IsTrue (declares_fit kb xs) → (s : State) (f : Site) (t : ℕ) → variables_end kb ≤ d → d + declares_need kb xs < R → Holds kb R s f → Agree (Went kb R d f) (all_declared setting callees xs s t) (ops_do false a cs (declares_ops kb xs d) f t)
  declares_go [] d ok s f t le room h = none_go d s f t h
  declares_go (x ∷ xs) d ok s f t le room h =
      let ok1 = and_left (declare_fits kb x) _ ok in
      two_go d (declared_as setting callees x) (all_declared setting callees xs) (start_value_ops kb x.of x.variable x.value d) (declares_ops kb xs d) s f t (start_goes x.of x.variable x.value d (and_left (variable_fits vs x.variable (size kb x.of)) _ ok1) (and_right (variable_fits vs x.variable (size kb x.of)) _ ok1) s f t le (omega arith) h) (λ s1 f1 t1 h1. declares_go xs d (and_right (declare_fits kb x) _ ok) s1 f1 t1 le (omega arith) h1)

  pub starts_go : (x : Option TypedStart) (d : ℕ) → IsTrue (start_fits kb x) → (s : State) (f : Site) (t : ℕ) → variables_end kb ≤ d → d + start_need kb x < R → Holds kb R s f → Agree (Went kb R d f) (started setting callees x s t) (ops_do false a cs (start_ops kb x d) f t)
  starts_go None d ok s f t le room h = none_go d s f t h
  starts_go (Some (start.Declare xs)) d ok s f t le room h = declares_go xs d ok s f t le room h
  starts_go (Some (start.Steps xs)) d ok s f t le room h = steps_go xs d ok s f t le room h
