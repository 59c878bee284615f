-- Each operator as an operation on words.
use Rattle.std.proofs.Common.{◌≡◌, ℕ, zero, suc, ◌+◌, ◌<◌, List, [], ◌∷◌, map, length, Bool, true, false, refl, sym, ap, ◌∙◌, subst, arith}
use Rattle.std.specs.Prelude.{slice_index, ◌==◌, not}
use Rattle.std.proofs.lemmas.Bool.{false≢true}
use Rattle.wg_tree.specs.declared.expr.Scalar.{Scalar}
use Rattle.wg_tree.specs.declared.expr.Scalar.TheVariants as scalar
use Rattle.wg_tree.specs.declared.expr.BinaryOperator.{BinaryOperator}
use Rattle.wg_tree.specs.declared.expr.BinaryOperator.TheVariants as binary
use Rattle.wg_typed.specs.Operators.{combined, is_less, is_wide, pairwise}
use Rattle.wg_words.specs.Truth.{truth}
use Rattle.wg_code.specs.Lane.{Around, Site}
use Rattle.wg_code.specs.Flow.{Callees, through}
use Rattle.wg_code.specs.OpMeaning.{ops_do}
use Rattle.wg_code.specs.Operators.{binary as operation}
use Rattle.wg_code.specs.declared.op.Op.TheVariants as o
use Rattle.wg_lowered.specs.Exprs.{Form, form_of, swapped_op, turned_ops, word_ops, zipped, pair_op, pair_ops}
use Rattle.wg_state.specs.Turns.{and_then}
use Rattle.wg_lowered.proofs.Ops.{ops_append}
use Rattle.wg_lowered.proofs.Straight.{Every, below_same, straight_then, Puts, PutsAll, each_puts, binary_puts, set_puts, with}

abbrev pub swapped_value : ℕ → ℕ → ℕ → ℕ → ℕ
swapped_value zero number x y = operation 32 number x y
swapped_value (suc n) number x y = operation 32 number y x

abbrev pub turned_value : ℕ → ℕ → ℕ
turned_value zero v = v
turned_value (suc n) v = truth (v == 0)

abbrev pub form_value : Form → ℕ → ℕ → ℕ
form_value f x y = turned_value f.turned (swapped_value f.swapped f.number x y)

pub turned_is : (b : Bool) → truth (truth b == 0) ≡ truth (not b)
turned_is true = refl
turned_is false = refl

-- `&&` and `||` are no such operators
abbrev pub IsWordly : BinaryOperator → Type 0
IsWordly binary.And = ⊥
IsWordly binary.Or = ⊥
IsWordly _ = Unit {0}

pub form_right : (op : BinaryOperator) (s : Scalar) (x y : ℕ) → is_wide s ≡ false → IsWordly op → form_value (form_of op s) x y ≡ combined op s x y
form_right binary.Multiply scalar.Bool x y e w = refl
form_right binary.Multiply scalar.Int x y e w = refl
form_right binary.Multiply scalar.Uint x y e w = refl
form_right binary.Multiply scalar.Int16 x y e w = absurd (false≢true (sym e))
form_right binary.Multiply scalar.Uint16 x y e w = absurd (false≢true (sym e))
form_right binary.Multiply scalar.Int64 x y e w = absurd (false≢true (sym e))
form_right binary.Multiply scalar.Uint64 x y e w = absurd (false≢true (sym e))
form_right binary.Divide scalar.Bool x y e w = refl
form_right binary.Divide scalar.Int x y e w = refl
form_right binary.Divide scalar.Uint x y e w = refl
form_right binary.Divide scalar.Int16 x y e w = absurd (false≢true (sym e))
form_right binary.Divide scalar.Uint16 x y e w = absurd (false≢true (sym e))
form_right binary.Divide scalar.Int64 x y e w = absurd (false≢true (sym e))
form_right binary.Divide scalar.Uint64 x y e w = absurd (false≢true (sym e))
form_right binary.Remainder scalar.Bool x y e w = refl
form_right binary.Remainder scalar.Int x y e w = refl
form_right binary.Remainder scalar.Uint x y e w = refl
form_right binary.Remainder scalar.Int16 x y e w = absurd (false≢true (sym e))
form_right binary.Remainder scalar.Uint16 x y e w = absurd (false≢true (sym e))
form_right binary.Remainder scalar.Int64 x y e w = absurd (false≢true (sym e))
form_right binary.Remainder scalar.Uint64 x y e w = absurd (false≢true (sym e))
form_right binary.Add scalar.Bool x y e w = refl
form_right binary.Add scalar.Int x y e w = refl
form_right binary.Add scalar.Uint x y e w = refl
form_right binary.Add scalar.Int16 x y e w = absurd (false≢true (sym e))
form_right binary.Add scalar.Uint16 x y e w = absurd (false≢true (sym e))
form_right binary.Add scalar.Int64 x y e w = absurd (false≢true (sym e))
form_right binary.Add scalar.Uint64 x y e w = absurd (false≢true (sym e))
form_right binary.Subtract scalar.Bool x y e w = refl
form_right binary.Subtract scalar.Int x y e w = refl
form_right binary.Subtract scalar.Uint x y e w = refl
form_right binary.Subtract scalar.Int16 x y e w = absurd (false≢true (sym e))
form_right binary.Subtract scalar.Uint16 x y e w = absurd (false≢true (sym e))
form_right binary.Subtract scalar.Int64 x y e w = absurd (false≢true (sym e))
form_right binary.Subtract scalar.Uint64 x y e w = absurd (false≢true (sym e))
form_right binary.ShiftLeft scalar.Bool x y e w = refl
form_right binary.ShiftLeft scalar.Int x y e w = refl
form_right binary.ShiftLeft scalar.Uint x y e w = refl
form_right binary.ShiftLeft scalar.Int16 x y e w = absurd (false≢true (sym e))
form_right binary.ShiftLeft scalar.Uint16 x y e w = absurd (false≢true (sym e))
form_right binary.ShiftLeft scalar.Int64 x y e w = absurd (false≢true (sym e))
form_right binary.ShiftLeft scalar.Uint64 x y e w = absurd (false≢true (sym e))
form_right binary.ShiftRight scalar.Bool x y e w = refl
form_right binary.ShiftRight scalar.Int x y e w = refl
form_right binary.ShiftRight scalar.Uint x y e w = refl
form_right binary.ShiftRight scalar.Int16 x y e w = absurd (false≢true (sym e))
form_right binary.ShiftRight scalar.Uint16 x y e w = absurd (false≢true (sym e))
form_right binary.ShiftRight scalar.Int64 x y e w = absurd (false≢true (sym e))
form_right binary.ShiftRight scalar.Uint64 x y e w = absurd (false≢true (sym e))
form_right binary.Less scalar.Bool x y e w = refl
form_right binary.Less scalar.Int x y e w = refl
form_right binary.Less scalar.Uint x y e w = refl
form_right binary.Less scalar.Int16 x y e w = absurd (false≢true (sym e))
form_right binary.Less scalar.Uint16 x y e w = absurd (false≢true (sym e))
form_right binary.Less scalar.Int64 x y e w = absurd (false≢true (sym e))
form_right binary.Less scalar.Uint64 x y e w = absurd (false≢true (sym e))
form_right binary.Greater scalar.Bool x y e w = refl
form_right binary.Greater scalar.Int x y e w = refl
form_right binary.Greater scalar.Uint x y e w = refl
form_right binary.Greater scalar.Int16 x y e w = absurd (false≢true (sym e))
form_right binary.Greater scalar.Uint16 x y e w = absurd (false≢true (sym e))
form_right binary.Greater scalar.Int64 x y e w = absurd (false≢true (sym e))
form_right binary.Greater scalar.Uint64 x y e w = absurd (false≢true (sym e))
form_right binary.AtMost scalar.Bool x y e w = turned_is (is_less scalar.Bool y x)
form_right binary.AtMost scalar.Int x y e w = turned_is (is_less scalar.Int y x)
form_right binary.AtMost scalar.Uint x y e w = turned_is (is_less scalar.Uint y x)
form_right binary.AtMost scalar.Int16 x y e w = absurd (false≢true (sym e))
form_right binary.AtMost scalar.Uint16 x y e w = absurd (false≢true (sym e))
form_right binary.AtMost scalar.Int64 x y e w = absurd (false≢true (sym e))
form_right binary.AtMost scalar.Uint64 x y e w = absurd (false≢true (sym e))
form_right binary.AtLeast scalar.Bool x y e w = turned_is (is_less scalar.Bool x y)
form_right binary.AtLeast scalar.Int x y e w = turned_is (is_less scalar.Int x y)
form_right binary.AtLeast scalar.Uint x y e w = turned_is (is_less scalar.Uint x y)
form_right binary.AtLeast scalar.Int16 x y e w = absurd (false≢true (sym e))
form_right binary.AtLeast scalar.Uint16 x y e w = absurd (false≢true (sym e))
form_right binary.AtLeast scalar.Int64 x y e w = absurd (false≢true (sym e))
form_right binary.AtLeast scalar.Uint64 x y e w = absurd (false≢true (sym e))
form_right binary.Equal scalar.Bool x y e w = refl
form_right binary.Equal scalar.Int x y e w = refl
form_right binary.Equal scalar.Uint x y e w = refl
form_right binary.Equal scalar.Int16 x y e w = absurd (false≢true (sym e))
form_right binary.Equal scalar.Uint16 x y e w = absurd (false≢true (sym e))
form_right binary.Equal scalar.Int64 x y e w = absurd (false≢true (sym e))
form_right binary.Equal scalar.Uint64 x y e w = absurd (false≢true (sym e))
form_right binary.NotEqual scalar.Bool x y e w = turned_is (x == y)
form_right binary.NotEqual scalar.Int x y e w = turned_is (x == y)
form_right binary.NotEqual scalar.Uint x y e w = turned_is (x == y)
form_right binary.NotEqual scalar.Int16 x y e w = absurd (false≢true (sym e))
form_right binary.NotEqual scalar.Uint16 x y e w = absurd (false≢true (sym e))
form_right binary.NotEqual scalar.Int64 x y e w = absurd (false≢true (sym e))
form_right binary.NotEqual scalar.Uint64 x y e w = absurd (false≢true (sym e))
form_right binary.BitAnd scalar.Bool x y e w = refl
form_right binary.BitAnd scalar.Int x y e w = refl
form_right binary.BitAnd scalar.Uint x y e w = refl
form_right binary.BitAnd scalar.Int16 x y e w = absurd (false≢true (sym e))
form_right binary.BitAnd scalar.Uint16 x y e w = absurd (false≢true (sym e))
form_right binary.BitAnd scalar.Int64 x y e w = absurd (false≢true (sym e))
form_right binary.BitAnd scalar.Uint64 x y e w = absurd (false≢true (sym e))
form_right binary.BitXor scalar.Bool x y e w = refl
form_right binary.BitXor scalar.Int x y e w = refl
form_right binary.BitXor scalar.Uint x y e w = refl
form_right binary.BitXor scalar.Int16 x y e w = absurd (false≢true (sym e))
form_right binary.BitXor scalar.Uint16 x y e w = absurd (false≢true (sym e))
form_right binary.BitXor scalar.Int64 x y e w = absurd (false≢true (sym e))
form_right binary.BitXor scalar.Uint64 x y e w = absurd (false≢true (sym e))
form_right binary.BitOr scalar.Bool x y e w = refl
form_right binary.BitOr scalar.Int x y e w = refl
form_right binary.BitOr scalar.Uint x y e w = refl
form_right binary.BitOr scalar.Int16 x y e w = absurd (false≢true (sym e))
form_right binary.BitOr scalar.Uint16 x y e w = absurd (false≢true (sym e))
form_right binary.BitOr scalar.Int64 x y e w = absurd (false≢true (sym e))
form_right binary.BitOr scalar.Uint64 x y e w = absurd (false≢true (sym e))
form_right binary.And s x y e w = absurd w
form_right binary.Or s x y e w = absurd w

module _ (a : Around) (cs : Callees) where
  swapped_puts : (n number x y d : ℕ) (f : Site) (t : ℕ) → d < length f.registers → Puts a cs (swapped_op n number d x y ∷ []) d (swapped_value n number (slice_index f.registers x) (slice_index f.registers y)) f t
  swapped_puts zero number x y d f t lt = binary_puts a cs number x y d f t lt
  swapped_puts (suc n) number x y d f t lt = binary_puts a cs number y x d f t lt

  turned_puts : (n d v : ℕ) (f : Site) (t : ℕ) → d + 1 < length f.registers → slice_index f.registers d ≡ v → Puts a cs (turned_ops n d) d (turned_value n v) f t
  turned_puts zero d v f t lt e = record { after = f.registers; runs = refl; below = below_same d f.registers; holds = e }
  turned_puts (suc n) d v f t lt e =
      let x = set_puts a cs 0 (suc d) f t (omega arith) in
      let y = binary_puts a cs 13 d (suc d) d (with f x.after) t (omega (arith, x.below.count)) in
      let z : slice_index y.after d ≡ truth (v == 0) = y.holds ∙ rw (x.below.kept d (omega arith), x.holds, e) refl in
      record {
        after = y.after;
        runs = ops_append a cs (o.Set (suc d) 0 ∷ []) (o.Binary 13 d d (suc d) ∷ []) f t ∙ ap (λ p. and_then p (λ e. through e (ops_do false a cs (o.Binary 13 d d (suc d) ∷ [])))) x.runs ∙ y.runs;
        below = record { kept = λ r lt. y.below.kept r lt ∙ x.below.kept r (omega arith); count = y.below.count ∙ x.below.count };
        holds = z;
      }

  pub word_puts : (form : Form) (x y d : ℕ) (f : Site) (t : ℕ) → d + 1 < length f.registers → Puts a cs (word_ops form d x y) d (form_value form (slice_index f.registers x) (slice_index f.registers y)) f t
  word_puts form x y d f t lt =
      let p = swapped_puts form.swapped form.number x y d f t (omega arith) in
      let q = turned_puts form.turned d _ (with f p.after) t (omega (arith, p.below.count)) p.holds in
      straight_then a cs (swapped_op form.swapped form.number d x y ∷ []) (turned_ops form.turned d) d d f t (λ after. slice_index after d ≡ swapped_value form.swapped form.number (slice_index f.registers x) (slice_index f.registers y)) (λ after. slice_index after d ≡ form_value form (slice_index f.registers x) (slice_index f.registers y)) (omega arith) p q

  zipped_below : (d : ℕ) (xs ys : List ℕ) → Every (λ r. r < d) xs → Every (λ r. r < d) ys → Every (λ (p : ℕ × ℕ). (p.0 < d) × (p.1 < d)) (zipped xs ys)
  zipped_below d [] ys hx hy = tt
  zipped_below d (x ∷ xs) [] hx hy = tt
  zipped_below d (x ∷ xs) (y ∷ ys) hx hy = ((hx.0, hy.0), zipped_below d xs ys hx.1 hy.1)

  pub zipped_length : (xs ys : List ℕ) → length xs ≡ length ys → length (zipped xs ys) ≡ length xs
  zipped_length [] ys e = refl
  zipped_length (x ∷ xs) [] e = absurd (let h : ⊥ = omega arith in h)
  zipped_length (x ∷ xs) (y ∷ ys) e = ap suc (zipped_length xs ys (omega arith))

  pub zipped_values : (regs : List ℕ) (g h : ℕ → ℕ → ℕ) (xs ys : List ℕ) → ((x y : ℕ) → g x y ≡ h x y) → map (λ (p : ℕ × ℕ). g (slice_index regs p.0) (slice_index regs p.1)) (zipped xs ys) ≡ pairwise h (map (slice_index regs) xs) (map (slice_index regs) ys)
  zipped_values regs g h [] ys e = refl
  zipped_values regs g h (x ∷ xs) [] e = refl
  zipped_values regs g h (x ∷ xs) (y ∷ ys) e = rw (e (slice_index regs x) (slice_index regs y), zipped_values regs g h xs ys e) refl

  -- an operator on the words of two lists of registers
  pub pairs_put : (R : ℕ) (op : BinaryOperator) (s : Scalar) (xs ys : List ℕ) (d : ℕ) (f : Site) (t : ℕ) → is_wide s ≡ false → IsWordly op → length xs ≡ length ys → d + length xs < R → length f.registers ≡ R → Every (λ r. r < d) xs → Every (λ r. r < d) ys → PutsAll a cs (pair_ops (form_of op s) xs ys d) d (pairwise (combined op s) (map (slice_index f.registers) xs) (map (slice_index f.registers) ys)) f t
  pairs_put R op s xs ys d f t narrow w e room n hx hy =
      subst (λ vs. PutsAll a cs (pair_ops (form_of op s) xs ys d) d vs f t) (zipped_values f.registers (form_value (form_of op s)) (combined op s) xs ys (λ x y. form_right op s x y narrow w))
      (each_puts a cs (pair_op (form_of op s)) (λ p. form_value (form_of op s) (slice_index f.registers p.0) (slice_index f.registers p.1)) d R f.registers f.shared (λ p. (p.0 < d) × (p.1 < d)) (λ p d' g u ok ge lt' n' b _.
      subst (λ v. Puts a cs (pair_op (form_of op s) p d') d' v g u) (rw (b.kept p.0 ok.0, b.kept p.1 ok.1) refl) (word_puts (form_of op s) p.0 p.1 d' g u (omega (arith, n')))) (zipped xs ys) (zipped_below d xs ys hx hy) d f t (omega arith) (omega (arith, zipped_length xs ys e)) n (below_same d f.registers) refl)
