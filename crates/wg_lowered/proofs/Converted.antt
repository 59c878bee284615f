-- Conversions of values, and operators after them.
use Rattle.std.proofs.Common.{◌≡◌, ℕ, zero, suc, ◌+◌, ◌<◌, List, [], ◌∷◌, ◌++◌, map, length, false, refl, sym, ap, ◌∙◌, subst, arith}
use Rattle.std.proofs.lemmas.Bool.{ltb-true, eqb-true}
use Rattle.std.specs.Prelude.{slice_index, IsTrue, ◌&&◌, nat_eq, Some}
use Rattle.wg_state.specs.Turns.{and_then, pure, ◌>>=◌}
use Rattle.wg_typed.specs.Operators.{scalar_of, is_wide, converted, converted_number, converted_numbers, words_for}
use Rattle.wg_lowered.proofs.Narrow.{narrow_is, one_size, plain_words, plain_numbers, plain_converted}
use Rattle.wg_semantics.specs.Places.{Setting}
use Rattle.wg_semantics.specs.Calls.{Seen, value_of}
use Rattle.wg_semantics.specs.ExprMeaning.{operated, linked}
use Rattle.wg_tree.specs.declared.expr.BinaryOperator.{BinaryOperator}
use Rattle.wg_semantics.specs.declared.state.Spot.TheVariants as spot
use Rattle.wg_typed.specs.declared.types.TypeTree.{TypeTree}
use Rattle.wg_code.specs.Lane.{Around, Site}
use Rattle.wg_code.specs.Flow.{Callees}
use Rattle.wg_code.specs.OpMeaning.{ops_do}
use Rattle.wg_lowered.specs.Where.{Names, size}
use Rattle.wg_lowered.specs.Fits.{Typing}
use Rattle.wg_lowered.specs.declared.places.Where.TheVariants as place
use Rattle.wg_lowered.specs.Exprs.{Coded, value_code, value_need, operated_need}
use Rattle.wg_lowered.specs.Holding.{Agree}
use Rattle.wg_lowered.proofs.Ops.{agree_so}
use Rattle.wg_tree.specs.declared.expr.Scalar.{Scalar}
use Rattle.wg_typed.specs.declared.types.TypeTree.TheVariants as type
use Rattle.std.specs.Prelude.{replicate}
use Rattle.wg_lowered.specs.Fits.{converts, fills, joins, single, is_narrow}
use Rattle.wg_lowered.specs.Exprs.{operated_code, linked_code, linked_need, scalar_code, converted_code, filled_code}
use Rattle.wg_lowered.proofs.Rights.{only_word, first_below, K, ExprGood, LinkGood, KindGood, part_value}
use Rattle.wg_lowered.proofs.Straight.{Every, below_same, below_then, Straight, with}
use Rattle.wg_lowered.proofs.Registers.{and_left, and_right}
use Rattle.wg_lowered.proofs.Values.{holds_below, Found, Given, then_code}
use Rattle.wg_lowered.proofs.Fetches.{every_more}
use Rattle.wg_lowered.proofs.Operated.{straight_code, operated_good}
use Rattle.wg_lowered.proofs.Operated.{scalar_leaves}

map_replicate : (g : ℕ → ℕ) (n r : ℕ) → map g (replicate n r) ≡ replicate n (g r)
map_replicate g zero r = refl
map_replicate g (suc n) r = ap (λ l. g r ∷ l) (map_replicate g n r)

every_replicate : (d n r : ℕ) → r < d → Every (λ x. x < d) (replicate n r)
every_replicate d zero r lt = tt
every_replicate d (suc n) r lt = (lt, every_replicate d n r lt)

replicate_length : (n r : ℕ) → length (replicate n r) ≡ n
replicate_length zero r = refl
replicate_length (suc n) r = ap suc (replicate_length n r)

first_map : (g : ℕ → ℕ) (regs at : List ℕ) → length at ≡ 1 → g (slice_index regs (slice_index at 0)) ≡ slice_index (map g (map (slice_index regs) at)) 0
first_map g regs [] e = absurd (let h : ⊥ = omega arith in h)
first_map g regs (r ∷ at) e = refl

module _ (a : Around) (cs : Callees) (setting : Setting) (vs gs : List ℕ) (R : ℕ) where
  abbrev kc : Names
  kc = K a cs setting vs gs R

  abbrev pub Converts : TypeTree → TypeTree → List ℕ → ℕ → Site → List ℕ → Type 0
  Converts from to at d f after = (map (slice_index after) (converted_code from to at d).at ≡ converted from to (map (slice_index f.registers) at)) × (Every (λ r. r < d + size kc to) (converted_code from to at d).at × (length (converted_code from to at d).at ≡ size kc to))

  -- no code: the same registers
  same_leaves : (n : ℕ) (at : List ℕ) (d : ℕ) (f : Site) (t : ℕ) → length at ≡ n → Every (λ r. r < d) at → Straight a cs [] d f t (λ after. (map (slice_index after) at ≡ map (slice_index f.registers) at) × (Every (λ r. r < d + n) at × (length at ≡ n)))
  same_leaves n at d f t e lie = record { after = f.registers; runs = refl; below = below_same d f.registers; holds = (refl, (every_more d (d + n) at (omega arith) lie, e)) }

  each_leaves : (from : TypeTree) (sc : Scalar) (n : ℕ) (at : List ℕ) (d : ℕ) (f : Site) (t : ℕ) → is_wide (scalar_of from) ≡ false → is_wide sc ≡ false → length at ≡ n → Every (λ r. r < d) at → d + n < R → length f.registers ≡ R → Straight a cs (scalar_code sc at d).ops d f t (λ after. (map (slice_index after) (scalar_code sc at d).at ≡ words_for sc (converted_numbers from sc (map (slice_index f.registers) at))) × (Every (λ r. r < d + n) (scalar_code sc at d).at × (length (scalar_code sc at d).at ≡ n)))
  each_leaves from sc n at d f t nf nt e lie room count =
      let x = scalar_leaves a cs setting vs gs R (scalar_of from) sc at d f t nf nt lie (omega (arith, e)) count in
      record { after = x.after; runs = x.runs; below = x.below; holds = (x.holds.0 ∙ sym (plain_converted (scalar_of from) sc (map (slice_index f.registers) at) nf nt), (subst (λ m. Every (λ r. r < d + m) (scalar_code sc at d).at) e x.holds.1.0, x.holds.1.1 ∙ e)) }

  filled_leaves : (of sc : Scalar) (n : ℕ) (at : List ℕ) (d : ℕ) (f : Site) (t : ℕ) → is_wide of ≡ false → is_wide sc ≡ false → 0 < n → length at ≡ 1 → Every (λ r. r < d) at → d + n < R → length f.registers ≡ R → Straight a cs (filled_code (type.Scalar of) sc n at d).ops d f t (λ after. (map (slice_index after) (filled_code (type.Scalar of) sc n at d).at ≡ words_for sc (replicate n (slice_index (converted_numbers (type.Scalar of) sc (map (slice_index f.registers) at)) 0))) × (Every (λ r. r < d + n) (filled_code (type.Scalar of) sc n at d).at × (length (filled_code (type.Scalar of) sc n at d).at ≡ n)))
  filled_leaves of sc n at d f t nf nt some e lie room count =
      let first = slice_index at 0 in
      let x = scalar_leaves a cs setting vs gs R of sc (first ∷ []) d f t nf nt (first_below d at e lie, tt) (omega arith) count in
      let code = scalar_code sc (first ∷ []) d in
      let one = only_word (slice_index x.after) code.at (converted_number of sc (slice_index f.registers first) ∷ []) x.holds.1.1 x.holds.0 in
      let w = only_word (slice_index f.registers) at (map (slice_index f.registers) at) e refl in
      let lt = first_below (d + 1) code.at x.holds.1.1 x.holds.1.0 in
      let word : slice_index x.after (slice_index code.at 0) ≡ slice_index (converted_numbers (type.Scalar of) sc (map (slice_index f.registers) at)) 0 = one.0 ∙ first_map (converted_number of sc) f.registers at e ∙ ap (λ l. slice_index (map (converted_number of sc) l) 0) (sym (plain_numbers of (map (slice_index f.registers) at) nf)) in
      record { after = x.after; runs = x.runs; below = x.below; holds = (map_replicate (slice_index x.after) n (slice_index code.at 0) ∙ ap (replicate n) word ∙ sym (plain_words sc (replicate n (slice_index (converted_numbers (type.Scalar of) sc (map (slice_index f.registers) at)) 0)) nt), (every_replicate (d + n) n (slice_index code.at 0) (omega (arith, lt)), replicate_length n (slice_index code.at 0))) }

  vector_leaves : (from : TypeTree) (sc : Scalar) (n : ℕ) (at : List ℕ) (d : ℕ) (f : Site) (t : ℕ) → IsTrue ((is_narrow from && is_narrow (type.Vector sc n)) && fills kc from n) → length at ≡ size kc from → size kc from ≡ n → Every (λ r. r < d) at → d + n < R → length f.registers ≡ R → Straight a cs (scalar_code sc at d).ops d f t (λ after. (map (slice_index after) (scalar_code sc at d).at ≡ words_for sc (converted_numbers from sc (map (slice_index f.registers) at))) × (Every (λ r. r < d + n) (scalar_code sc at d).at × (length (scalar_code sc at d).at ≡ n)))
  vector_leaves from sc n at d f t w e same lie room count =
      let b = and_left (is_narrow from && is_narrow (type.Vector sc n)) _ w in
      each_leaves from sc n at d f t (narrow_is from (and_left (is_narrow from) _ b)) (narrow_is (type.Vector sc n) (and_right (is_narrow from) _ b)) (e ∙ same) lie room count

  pub converted_leaves : (from to : TypeTree) (at : List ℕ) (d : ℕ) (f : Site) (t : ℕ) → IsTrue (converts kc from to) → length at ≡ size kc from → Every (λ r. r < d) at → d + size kc to < R → length f.registers ≡ R → Straight a cs (converted_code from to at d).ops d f t (Converts from to at d f)
  converted_leaves from (type.Scalar sc) at d f t w e lie room count =
      let b = and_left (is_narrow from && is_narrow (type.Scalar sc)) _ w in
      let nf = narrow_is from (and_left (is_narrow from) _ b) in
      let nt = narrow_is (type.Scalar sc) (and_right (is_narrow from) _ b) in
      each_leaves from sc (size kc (type.Scalar sc)) at d f t nf nt (e ∙ eqb-true (size kc from) 1 (and_right (is_narrow from && is_narrow (type.Scalar sc)) _ w) ∙ sym (one_size sc nt)) lie room count
  converted_leaves (type.Scalar of) (type.Vector sc n) at d f t w e lie room count =
      let b = and_left (is_narrow (type.Scalar of) && is_narrow (type.Vector sc n)) _ w in
      let nf = narrow_is (type.Scalar of) (and_left (is_narrow (type.Scalar of)) _ b) in
      let nt = narrow_is (type.Vector sc n) (and_right (is_narrow (type.Scalar of)) _ b) in
      filled_leaves of sc n at d f t nf nt (ltb-true 0 n (and_right (is_narrow (type.Scalar of) && is_narrow (type.Vector sc n)) _ w)) (e ∙ one_size of nf) lie room count
  converted_leaves (type.Vector of m) (type.Vector sc n) at d f t w e lie room count = vector_leaves (type.Vector of m) sc n at d f t w e (eqb-true m n (and_right (is_narrow (type.Vector of m) && is_narrow (type.Vector sc n)) _ w)) lie room count
  converted_leaves (type.Struct number) (type.Vector sc n) at d f t w e lie room count = vector_leaves (type.Struct number) sc n at d f t w e (eqb-true (size kc (type.Struct number)) n (and_right (is_narrow (type.Struct number) && is_narrow (type.Vector sc n)) _ w)) lie room count
  converted_leaves (type.Array of m) (type.Vector sc n) at d f t w e lie room count = vector_leaves (type.Array of m) sc n at d f t w e (eqb-true (size kc (type.Array of m)) n (and_right (is_narrow (type.Array of m) && is_narrow (type.Vector sc n)) _ w)) lie room count
  converted_leaves from (type.Struct number) at d f t w e lie room count = same_leaves (size kc (type.Struct number)) at d f t (e ∙ eqb-true (size kc from) (size kc (type.Struct number)) w) lie
  converted_leaves from (type.Array of n) at d f t w e lie room count = same_leaves (size kc (type.Array of n)) at d f t (e ∙ eqb-true (size kc from) (size kc (type.Array of n)) w) lie

  pub convert_good : (m : Seen) (c : Coded) (w : Typing) → ExprGood a cs setting vs gs R m c w → KindGood a cs setting vs gs R (λ t. value_of setting.structs m >>= (λ words. pure (spot.Value (converted m.of t words)))) (λ t. record {
    need = value_need kc c + size kc t;
    spot = λ d.
        let v = value_code kc c d in
        let x = converted_code c.of t v.at (d + value_need kc c) in
        record { ops = v.ops ++ x.ops; at = place.Held x.at };
  }) (λ t. w.fits && converts kc w.of t)
  convert_good m c w g t ok d s f tu le room h =
      let v = value_code kc c d in
      let nb = value_need kc c in
      let Goal : TypeTree → Type 0 = λ u. Agree (Found kc R d (d + (nb + size kc t)) (size kc t) (place.Held (converted_code u t v.at (d + nb)).at) f) (and_then (value_of setting.structs m s tu) (λ words. pure (spot.Value (converted m.of t words)))) (ops_do false a cs (v.ops ++ (converted_code u t v.at (d + nb)).ops) f tu) in
      let ok2 : IsTrue (converts kc m.of t) = subst (λ u. IsTrue (converts kc u t)) g.w_of (and_right w.fits _ ok) in
      subst Goal (sym g.c_of) (then_code a cs kc R (Given kc R d (d + nb) (size kc m.of) v.at f) (Found kc R d (d + (nb + size kc t)) (size kc t) (place.Held (converted_code m.of t v.at (d + nb)).at) f) (value_of setting.structs m s tu) v.ops (converted_code m.of t v.at (d + nb)).ops f tu (λ words. pure (spot.Value (converted m.of t words))) (λ v s e f q. q.is_through) (part_value a cs setting vs gs R m c w g (and_left _ _ ok) d s f tu le (omega arith) h) (λ ws s1 f1 t1 q.
      let x = converted_leaves m.of t v.at (d + nb) f1 t1 ok2 q.count q.lies (omega arith) q.holds.count in
      rw x.runs (
        refl,
        record {
          is_through = refl;
          holds = holds_below kc R (d + nb) s1 f1 x.after (omega arith) q.holds x.below;
          below = below_then d (d + nb) f.registers f1.registers x.after (omega arith) q.below x.below;
          stands = (x.holds.0 ∙ ap (converted m.of t) q.value, x.holds.1.1);
          lies = every_more (d + nb + size kc t) (d + (nb + size kc t)) (converted_code m.of t v.at (d + nb)).at (omega arith) x.holds.1.0;
        },
      )))

  -- an operator whose left side is converted first
  pub by_good : (op : BinaryOperator) (by : TypeTree) (m : Seen) (c : Coded) (w : Typing) (of : TypeTree) → ExprGood a cs setting vs gs R m c w → LinkGood a cs setting vs gs R (record { of = of; next = linked setting op (Some by) m }) (record { of = of; need = λ t. linked_need kc (Some by) c; after = linked_code kc op (Some by) c }) (record { of = of; fits = λ t. (w.fits && nat_eq (size kc of) (size kc w.of)) && (joins kc t (Some by) (size kc w.of) && single op (size kc w.of)) })
  by_good op by m c w of g = record {
    c_of = refl;
    w_of = refl;
    claim = λ t d at ws s f tu ok le room h v lie n.
        let sw : size kc w.of ≡ size kc m.of = ap (size kc) g.w_of in
        let w1 = and_left (w.fits && nat_eq (size kc of) (size kc w.of)) _ ok in
        let e1 = eqb-true (size kc of) (size kc w.of) (and_right w.fits _ w1) in
        let j = and_right (w.fits && nat_eq (size kc of) (size kc w.of)) _ ok in
        let jb = and_left (converts kc t by && (is_narrow by && nat_eq (size kc by) (size kc w.of))) _ j in
        let jn = and_right (converts kc t by) _ jb in
        let e2 = eqb-true (size kc by) (size kc w.of) (and_right (is_narrow by) _ jn) in
        let nw = narrow_is by (and_left (is_narrow by) _ jn) in
        let x = converted_leaves t by at d f tu (and_left (converts kc t by) _ jb) n lie (omega arith) h.count in
        let C = converted_code t by at d in
        let d2 = d + size kc by in
        let hx = holds_below kc R d s f x.after le h x.below in
        let op_code = operated_code kc op by c C.at d2 in
        let z : d2 + operated_need kc c ≡ d + (size kc by + operated_need kc c) = omega arith in
        subst (λ q. Agree (Given kc R d (d + (size kc by + operated_need kc c)) q op_code.at f) (operated setting op by m (converted t by ws) s tu) (ops_do false a cs (C.ops ++ op_code.ops) f tu)) (sym (e1 ∙ sw)) (straight_code a cs setting vs gs R (Given kc R d (d + (size kc by + operated_need kc c)) (size kc m.of) op_code.at f) (operated setting op by m (converted t by ws) s tu) C.ops op_code.ops d f tu (Converts t by at d f) x (agree_so (Given kc R d2 (d2 + operated_need kc c) (size kc m.of) op_code.at (with f x.after)) (Given kc R d (d + (size kc by + operated_need kc c)) (size kc m.of) op_code.at f) _ _ (operated_good a cs setting vs gs R m c w g (and_left w.fits _ w1) op by d2 C.at (converted t by ws) s (with f x.after) tu nw (e2 ∙ sw) (and_right (converts kc t by && (is_narrow by && nat_eq (size kc by) (size kc w.of))) _ j) (omega arith) (omega arith) hx (x.holds.0 ∙ ap (converted t by) v) x.holds.1.0 x.holds.1.1) (λ u s2 e f2 y.
        record { is_through = y.is_through; holds = y.holds; below = below_then d d2 f.registers x.after f2.registers (omega arith) x.below y.below; value = y.value; lies = subst (λ b. Every (λ r. r < b) op_code.at) z y.lies; count = y.count })));
  }
