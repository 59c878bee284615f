-- Conversions and operators.
use Rattle.std.proofs.Common.{◌≡◌, ℕ, zero, suc, ◌+◌, ◌<◌, ◌≤◌, List, [], ◌∷◌, ◌++◌, map, length, Bool, true, false, refl, sym, ap, ◌∙◌, subst, arith}
use Rattle.std.proofs.lemmas.Bool.{false≢true, eqb-true}
use Rattle.std.proofs.lemmas.List.{length-map}
use Rattle.std.specs.Prelude.{slice_index, IsTrue, nat_lt, if◌then◌else◌}
use Rattle.wg_state.specs.Turns.{Ending, Spent, Done, Action, and_then, pure}
use Rattle.wg_typed.specs.Operators.{scalar_of, is_wide, combined, combined_words, pairwise, converted_number, whole_of}
use Rattle.wg_words.specs.Words.{wrapped}
use Rattle.wg_lowered.proofs.Narrow.{plain_combined, whole_word}
use Rattle.wg_words.specs.Truth.{is_true, truth}
use Rattle.wg_semantics.specs.Places.{Setting}
use Rattle.wg_semantics.specs.Calls.{Seen, value_of}
use Rattle.wg_semantics.specs.ExprMeaning.{when, operated}
use Rattle.wg_tree.specs.declared.expr.BinaryOperator.{BinaryOperator}
use Rattle.wg_tree.specs.declared.expr.BinaryOperator.TheVariants as binary
use Rattle.wg_semantics.specs.declared.state.State.{State}
use Rattle.wg_typed.specs.declared.types.TypeTree.{TypeTree}
use Rattle.wg_code.specs.Lane.{Around, Site, Exit, Through}
use Rattle.wg_code.specs.Flow.{Callees}
use Rattle.wg_code.specs.OpMeaning.{ops_do}
use Rattle.wg_code.specs.declared.op.Op.{Op}
use Rattle.wg_code.specs.declared.op.Op.TheVariants as o
use Rattle.wg_lowered.specs.Where.{Names, size}
use Rattle.wg_lowered.specs.Fits.{Typing}
use Rattle.wg_lowered.specs.Where.{run}
use Rattle.wg_lowered.specs.Exprs.{Coded, value_code, value_need, first_of, form_of, pair_ops, operated_need, later_ops}
use Rattle.wg_lowered.specs.Holding.{Agree}
use Rattle.wg_lowered.proofs.Ops.{ops_append, ops_one, does_If}
use Rattle.wg_tree.specs.declared.expr.Scalar.{Scalar}
use Rattle.wg_tree.specs.declared.expr.Scalar.TheVariants as scalar
use Rattle.std.specs.Prelude.{◌==◌, not}
use Rattle.wg_lowered.specs.Fits.{single}
use Rattle.wg_lowered.specs.Exprs.{operated_code, scalar_op, wrap_op, scalar_code}
use Rattle.wg_lowered.proofs.Rights.{only_word, one_word, K, ExprGood, part_value}
use Rattle.wg_lowered.proofs.Parts.{less_is}
use Rattle.wg_lowered.proofs.Straight.{binary_puts}
use Rattle.wg_lowered.specs.Holding.{Below}
use Rattle.wg_lowered.proofs.Straight.{Every, below_same, below_then, Straight, straight_then, Puts, each_puts, copy_puts, set_puts, with}
use Rattle.wg_lowered.proofs.Registers.{run_length, run_below, reads_same}
use Rattle.wg_lowered.specs.Where.{variables_end}
use Rattle.wg_lowered.specs.Holding.{Holds}
use Rattle.wg_lowered.proofs.Values.{holds_below, Given, then_code}
use Rattle.wg_lowered.proofs.Fetches.{every_more}
use Rattle.wg_lowered.proofs.Forms.{IsWordly, pairs_put}

pub false_zero : (v : ℕ) → is_true v ≡ false → v ≡ 0
false_zero zero e = refl
false_zero (suc v) e = let z : (suc v == 0) ≡ false = grind arith in absurd (false≢true (sym e ∙ ap not z))

map_twice : (g h : ℕ → ℕ) (xs : List ℕ) → map (λ x. g (h x)) xs ≡ map g (map h xs)
map_twice g h [] = refl
map_twice g h (x ∷ xs) = ap (λ l. g (h x) ∷ l) (map_twice g h xs)

module _ (a : Around) (cs : Callees) (setting : Setting) (vs gs : List ℕ) (R : ℕ) where
  abbrev k : Names
  k = K a cs setting vs gs R

  -- straight code, then more
  pub straight_code : {A : Type 0} (Q : A → State → Exit → Site → Type 0) (m : Ending State A) (ops rest : List Op) (d : ℕ) (f : Site) (t : ℕ) (P : List ℕ → Type 0) → (x : Straight a cs ops d f t P) → Agree Q m (ops_do false a cs rest (with f x.after) t) → Agree Q m (ops_do false a cs (ops ++ rest) f t)
  straight_code Q m ops rest d f t P x h = rw (ops_append a cs ops rest f t, x.runs) h

  -- a choice by one word
  pub if_agree : {A : Type 0} (Q : A → State → Exit → Site → Type 0) (r v : ℕ) (m n : Action State A) (x y : List Op) (s : State) (f : Site) (t : ℕ) → slice_index f.registers r ≡ v → (is_true v ≡ true → Agree Q (m s t) (ops_do false a cs x f t)) → (is_true v ≡ false → Agree Q (n s t) (ops_do false a cs y f t)) → Agree Q (when v m n s t) (ops_do false a cs (o.If r x y ∷ []) f t)
  if_agree {A} Q r v m n x y s f t e p q = rw (ops_one a cs _ _ f t (does_If a cs r x y), e) (go (is_true v) refl)
    where
      go : (b : Bool) → is_true v ≡ b → Agree Q ((if b then m else n) s t) ((if b then ops_do false a cs x else ops_do false a cs y) f t)
      go true c = p c
      go false c = q c

  -- ---- conversions

  wrap_puts : (from : Scalar) (r d : ℕ) (f : Site) (t : ℕ) → is_wide from ≡ false → r < d → d < length f.registers → Puts a cs (wrap_op r d) d (wrapped 32 (whole_of from (slice_index f.registers r))) f t
  wrap_puts from r d f t e lt room =
      let y = set_puts a cs 0 d f t room in
      let z = binary_puts a cs 0 d r d (with f y.after) t (omega (arith, room, y.below.count)) in
      let v : slice_index z.after d ≡ wrapped 32 (whole_of from (slice_index f.registers r)) = z.holds ∙ rw (y.below.kept r lt, y.holds) (sym (whole_word from (slice_index f.registers r) e)) in
      straight_then a cs (o.Set d 0 ∷ []) (o.Binary 0 d d r ∷ []) d d f t (λ after. slice_index after d ≡ 0) (λ after. slice_index after d ≡ wrapped 32 (whole_of from (slice_index f.registers r))) (omega arith) y (record { after = z.after; runs = z.runs; below = z.below; holds = v })

  -- a number as one of another scalar
  number_puts : (from to : Scalar) (r d : ℕ) (f : Site) (t : ℕ) → is_wide from ≡ false → is_wide to ≡ false → r < d → d < length f.registers → Puts a cs (scalar_op to r d) d (converted_number from to (slice_index f.registers r)) f t
  number_puts from scalar.Bool r d f t e g lt room =
      let y = set_puts a cs 0 d f t room in
      let z = binary_puts a cs 14 d r d (with f y.after) t (omega (arith, room, y.below.count)) in
      let v : slice_index z.after d ≡ truth (is_true (slice_index f.registers r)) = z.holds ∙ rw (y.below.kept r lt, y.holds, less_is 0 (slice_index f.registers r)) (ap truth (positive (slice_index f.registers r))) in
      straight_then a cs (o.Set d 0 ∷ []) (o.Binary 14 d d r ∷ []) d d f t (λ after. slice_index after d ≡ 0) (λ after. slice_index after d ≡ truth (is_true (slice_index f.registers r))) (omega arith) y (record { after = z.after; runs = z.runs; below = z.below; holds = v })
    where
      positive : (v : ℕ) → nat_lt 0 v ≡ is_true v
      positive zero = refl
      positive (suc v) = let z : (suc v == 0) ≡ false = grind arith in let y : nat_lt 0 (suc v) ≡ true = grind arith in y ∙ sym (ap not z)
  number_puts from scalar.Int r d f t e g lt room = wrap_puts from r d f t e lt room
  number_puts from scalar.Uint r d f t e g lt room = wrap_puts from r d f t e lt room
  number_puts from scalar.Int16 r d f t e g lt room = absurd (false≢true (sym g))
  number_puts from scalar.Uint16 r d f t e g lt room = absurd (false≢true (sym g))
  number_puts from scalar.Int64 r d f t e g lt room = absurd (false≢true (sym g))
  number_puts from scalar.Uint64 r d f t e g lt room = absurd (false≢true (sym g))

  pub scalar_leaves : (from to : Scalar) (at : List ℕ) (d : ℕ) (f : Site) (t : ℕ) → is_wide from ≡ false → is_wide to ≡ false → Every (λ r. r < d) at → d + length at < R → length f.registers ≡ R → Straight a cs (scalar_code to at d).ops d f t (λ after. (map (slice_index after) (scalar_code to at d).at ≡ map (converted_number from to) (map (slice_index f.registers) at)) × (Every (λ r. r < d + length at) (scalar_code to at d).at × (length (scalar_code to at d).at ≡ length at)))
  scalar_leaves from to at d f t e g lie room n =
      let x = each_puts a cs (scalar_op to) (λ r. converted_number from to (slice_index f.registers r)) d R f.registers f.shared (λ r. r < d) (λ r d' z u ok ge lt' n' b _.
      subst (λ v. Puts a cs (scalar_op to r d') d' v z u) (ap (converted_number from to) (b.kept r ok)) (number_puts from to r d' z u e g (omega (arith, ok, ge)) (omega (arith, n')))) at lie d f t (omega arith) room n (below_same d f.registers) refl in
      let m : length (map (λ r. converted_number from to (slice_index f.registers r)) at) ≡ length at = length-map at (λ r. converted_number from to (slice_index f.registers r)) in
      record {
        after = x.after;
        runs = x.runs;
        below = x.below;
        holds = (subst (λ m. map (slice_index x.after) (run d m) ≡ map (λ r. converted_number from to (slice_index f.registers r)) at) m x.holds ∙ map_twice (converted_number from to) (slice_index f.registers) at, (run_below d (length at) (d + length at) (omega arith), run_length d (length at)));
      }

  -- ---- operators

  module _ (m : Seen) (c : Coded) (w : Typing) (g : ExprGood a cs setting vs gs R m c w) (ok : IsTrue w.fits) where
    abbrev OperatedClaim : BinaryOperator → Type 0
    OperatedClaim op = (t : TypeTree) (d : ℕ) (at ws : List ℕ) (s : State) (f : Site) (tu : ℕ) → is_wide (scalar_of t) ≡ false → size k t ≡ size k m.of → IsTrue (single op (size k w.of)) → variables_end k ≤ d → d + operated_need k c < R → Holds k R s f → map (slice_index f.registers) at ≡ ws → Every (λ r. r < d) at → length at ≡ size k t → Agree (Given k R d (d + operated_need k c) (size k m.of) (operated_code k op t c at d).at f) (operated setting op t m ws s tu) (ops_do false a cs (operated_code k op t c at d).ops f tu)

    sizes : size k c.of ≡ size k m.of
    sizes = ap (size k) g.c_of

    wordly : (op : BinaryOperator) (t : TypeTree) (d : ℕ) (at ws : List ℕ) (s : State) (f : Site) (tu : ℕ) → is_wide (scalar_of t) ≡ false → IsWordly op → size k t ≡ size k m.of → variables_end k ≤ d → d + operated_need k c < R → Holds k R s f → map (slice_index f.registers) at ≡ ws → Every (λ r. r < d) at → length at ≡ size k t → Agree (Given k R d (d + operated_need k c) (size k m.of) (run (d + value_need k c) (size k c.of)) f) (and_then (value_of setting.structs m s tu) (λ right. pure (combined_words op t ws right))) (ops_do false a cs ((value_code k c d).ops ++ pair_ops (form_of op (scalar_of t)) at (value_code k c d).at (d + value_need k c)) f tu)
    wordly op t d at ws s f tu nw iw same le room h v lie n =
        then_code a cs k R (Given k R d (d + value_need k c) (size k m.of) (value_code k c d).at f) (Given k R d (d + operated_need k c) (size k m.of) (run (d + value_need k c) (size k c.of)) f) (value_of setting.structs m s tu) (value_code k c d).ops (pair_ops (form_of op (scalar_of t)) at (value_code k c d).at (d + value_need k c)) f tu (λ right. pure (combined_words op t ws right)) (λ v s e f q. q.is_through) (part_value a cs setting vs gs R m c w g ok d s f tu le (omega arith) h) (λ right s1 f1 t1 q.
        let la : length at ≡ length (value_code k c d).at = n ∙ same ∙ sym q.count in
        let x = pairs_put a cs R op (scalar_of t) at (value_code k c d).at (d + value_need k c) f1 t1 nw iw la (omega (arith, n, same, sizes)) q.holds.count (every_more d (d + value_need k c) at (omega arith) lie) q.lies in
        let left : map (slice_index f1.registers) at ≡ ws = reads_same d f.registers f1.registers at q.below lie ∙ v in
        let both : pairwise (combined op (scalar_of t)) (map (slice_index f1.registers) at) (map (slice_index f1.registers) (value_code k c d).at) ≡ combined_words op t ws right = rw (left, q.value) (sym (plain_combined op t ws right nw)) in
        let count : length (pairwise (combined op (scalar_of t)) (map (slice_index f1.registers) at) (map (slice_index f1.registers) (value_code k c d).at)) ≡ size k c.of = pair_length (combined op (scalar_of t)) (map (slice_index f1.registers) at) (map (slice_index f1.registers) (value_code k c d).at) (length-map at (slice_index f1.registers) ∙ la ∙ sym (length-map (value_code k c d).at (slice_index f1.registers))) ∙ length-map at (slice_index f1.registers) ∙ n ∙ same ∙ sym sizes in
        rw x.runs (
          refl,
          record {
            is_through = refl;
            holds = holds_below k R (d + value_need k c) s1 f1 x.after (omega arith) q.holds x.below;
            below = below_then d (d + value_need k c) f.registers f1.registers x.after (omega arith) q.below x.below;
            value = subst (λ z. map (slice_index x.after) (run (d + value_need k c) z) ≡ pairwise (combined op (scalar_of t)) (map (slice_index f1.registers) at) (map (slice_index f1.registers) (value_code k c d).at)) count x.holds ∙ both;
            lies = run_below (d + value_need k c) (size k c.of) (d + operated_need k c) (omega arith);
            count = run_length (d + value_need k c) (size k c.of) ∙ sizes;
          },
        ))
      where
        pair_length : (h : ℕ → ℕ → ℕ) (xs ys : List ℕ) → length xs ≡ length ys → length (pairwise h xs ys) ≡ length xs
        pair_length h [] ys e = refl
        pair_length h (x ∷ xs) [] e = absurd (let z : ⊥ = omega arith in z)
        pair_length h (x ∷ xs) (y ∷ ys) e = ap suc (pair_length h xs ys (omega arith))

    -- the second operand's word into the register of the first
    later : (d : ℕ) (s : State) (f g0 : Site) (tu : ℕ) → size k m.of ≡ 1 → variables_end k ≤ d → d + operated_need k c < R → Holds k R s f → Below d g0.registers f.registers → Agree (Given k R d (d + operated_need k c) (size k m.of) (d ∷ []) g0) (value_of setting.structs m s tu) (ops_do false a cs (later_ops k c d) f tu)
    later d s f g0 tu one le room h b =
        subst (λ z. Agree (Given k R d (d + operated_need k c) (size k m.of) (d ∷ []) g0) z (ops_do false a cs (later_ops k c d) f tu)) (and_done (value_of setting.structs m s tu)) (then_code a cs k R (Given k R (suc d) (suc d + value_need k c) (size k m.of) (value_code k c (suc d)).at f) (Given k R d (d + operated_need k c) (size k m.of) (d ∷ []) g0) (value_of setting.structs m s tu) (value_code k c (suc d)).ops (o.Copy d (first_of (value_code k c (suc d)).at) ∷ []) f tu (λ ws. pure ws) (λ v s e f q. q.is_through) (part_value a cs setting vs gs R m c w g ok (suc d) s f tu (omega arith) (omega arith) h) (λ ws s1 f1 t1 q.
        let x = copy_puts a cs (first_of (value_code k c (suc d)).at) d f1 t1 (omega (arith, q.holds.count)) in
        let v = only_word (slice_index f1.registers) (value_code k c (suc d)).at ws (q.count ∙ one) q.value in
        rw x.runs (
          refl,
          record {
            is_through = refl;
            holds = holds_below k R d s1 f1 x.after le q.holds x.below;
            below = below_then d d g0.registers f1.registers x.after (omega arith) (below_then d (suc d) g0.registers f.registers f1.registers (omega arith) b q.below) x.below;
            value = ap (λ z. z ∷ []) (x.holds ∙ v.0) ∙ sym (one_word ws v.1);
            lies = (omega arith, tt);
            count = sym one;
          },
        )))
      where
        and_done : (p : Ending State (List ℕ)) → and_then p (λ ws. pure ws) ≡ p
        and_done Spent = refl
        and_done (Done ws s t) = refl

    known : (d v : ℕ) (s : State) (f g0 : Site) (tu : ℕ) → size k m.of ≡ 1 → variables_end k ≤ d → Holds k R s f → Below d g0.registers f.registers → slice_index f.registers d ≡ v → Agree (Given k R d (d + operated_need k c) (size k m.of) (d ∷ []) g0) (Done (v ∷ []) s tu) (Done Through f tu)
    known d v s f g0 tu one le h b e = (refl, record { is_through = refl; holds = h; below = b; value = ap (λ z. z ∷ []) e; lies = (omega arith, tt); count = sym one })

    and_operated : OperatedClaim binary.And
    and_operated t d at ws s f tu nw same is_one le room h v lie n =
        let one : size k m.of ≡ 1 = ap (size k) (sym g.w_of) ∙ eqb-true (size k w.of) 1 is_one in
        let x = copy_puts a cs (first_of at) d f tu (omega (arith, h.count)) in
        let e = only_word (slice_index f.registers) at ws (n ∙ same ∙ one) v in
        let hx = holds_below k R d s f x.after le h x.below in
        straight_code (Given k R d (d + operated_need k c) (size k m.of) (d ∷ []) f) _ (o.Copy d (first_of at) ∷ []) (o.If d (later_ops k c d) [] ∷ []) d f tu (λ after. slice_index after d ≡ slice_index f.registers (first_of at)) x (if_agree (Given k R d (d + operated_need k c) (size k m.of) (d ∷ []) f) d (slice_index ws 0) (value_of setting.structs m) (pure (truth false ∷ [])) (later_ops k c d) [] s (with f x.after) tu (x.holds ∙ e.0) (λ b. later d s (with f x.after) f tu one le room hx x.below) (λ b. known d 0 s (with f x.after) f tu one le hx x.below (x.holds ∙ e.0 ∙ false_zero (slice_index ws 0) b)))

    or_operated : OperatedClaim binary.Or
    or_operated t d at ws s f tu nw same is_one le room h v lie n =
        let one : size k m.of ≡ 1 = ap (size k) (sym g.w_of) ∙ eqb-true (size k w.of) 1 is_one in
        let x = copy_puts a cs (first_of at) d f tu (omega (arith, h.count)) in
        let e = only_word (slice_index f.registers) at ws (n ∙ same ∙ one) v in
        let hx = holds_below k R d s f x.after le h x.below in
        straight_code (Given k R d (d + operated_need k c) (size k m.of) (d ∷ []) f) _ (o.Copy d (first_of at) ∷ []) (o.If d (o.Set d 1 ∷ []) (later_ops k c d) ∷ []) d f tu (λ after. slice_index after d ≡ slice_index f.registers (first_of at)) x (if_agree (Given k R d (d + operated_need k c) (size k m.of) (d ∷ []) f) d (slice_index ws 0) (pure (truth true ∷ [])) (value_of setting.structs m) (o.Set d 1 ∷ []) (later_ops k c d) s (with f x.after) tu (x.holds ∙ e.0) (λ b.
        let y = set_puts a cs 1 d (with f x.after) tu (omega (arith, hx.count)) in
        rw y.runs (known d 1 s (with f y.after) f tu one le (holds_below k R d s (with f x.after) y.after le hx y.below) (below_then d d f.registers x.after y.after (omega arith) x.below y.below) y.holds)) (λ b. later d s (with f x.after) f tu one le room hx x.below))

    pub operated_good : (op : BinaryOperator) → OperatedClaim op
    operated_good binary.And = and_operated
    operated_good binary.Or = or_operated
    operated_good binary.Multiply = λ t d at ws s f tu nw same is_one le room h v lie n. wordly binary.Multiply t d at ws s f tu nw tt same le room h v lie n
    operated_good binary.Divide = λ t d at ws s f tu nw same is_one le room h v lie n. wordly binary.Divide t d at ws s f tu nw tt same le room h v lie n
    operated_good binary.Remainder = λ t d at ws s f tu nw same is_one le room h v lie n. wordly binary.Remainder t d at ws s f tu nw tt same le room h v lie n
    operated_good binary.Add = λ t d at ws s f tu nw same is_one le room h v lie n. wordly binary.Add t d at ws s f tu nw tt same le room h v lie n
    operated_good binary.Subtract = λ t d at ws s f tu nw same is_one le room h v lie n. wordly binary.Subtract t d at ws s f tu nw tt same le room h v lie n
    operated_good binary.ShiftLeft = λ t d at ws s f tu nw same is_one le room h v lie n. wordly binary.ShiftLeft t d at ws s f tu nw tt same le room h v lie n
    operated_good binary.ShiftRight = λ t d at ws s f tu nw same is_one le room h v lie n. wordly binary.ShiftRight t d at ws s f tu nw tt same le room h v lie n
    operated_good binary.Less = λ t d at ws s f tu nw same is_one le room h v lie n. wordly binary.Less t d at ws s f tu nw tt same le room h v lie n
    operated_good binary.Greater = λ t d at ws s f tu nw same is_one le room h v lie n. wordly binary.Greater t d at ws s f tu nw tt same le room h v lie n
    operated_good binary.AtMost = λ t d at ws s f tu nw same is_one le room h v lie n. wordly binary.AtMost t d at ws s f tu nw tt same le room h v lie n
    operated_good binary.AtLeast = λ t d at ws s f tu nw same is_one le room h v lie n. wordly binary.AtLeast t d at ws s f tu nw tt same le room h v lie n
    operated_good binary.Equal = λ t d at ws s f tu nw same is_one le room h v lie n. wordly binary.Equal t d at ws s f tu nw tt same le room h v lie n
    operated_good binary.NotEqual = λ t d at ws s f tu nw same is_one le room h v lie n. wordly binary.NotEqual t d at ws s f tu nw tt same le room h v lie n
    operated_good binary.BitAnd = λ t d at ws s f tu nw same is_one le room h v lie n. wordly binary.BitAnd t d at ws s f tu nw tt same le room h v lie n
    operated_good binary.BitXor = λ t d at ws s f tu nw same is_one le room h v lie n. wordly binary.BitXor t d at ws s f tu nw tt same le room h v lie n
    operated_good binary.BitOr = λ t d at ws s f tu nw same is_one le room h v lie n. wordly binary.BitOr t d at ws s f tu nw tt same le room h v lie n
