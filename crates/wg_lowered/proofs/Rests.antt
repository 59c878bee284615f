-- Prefix operators and constructors.
use Rattle.std.proofs.Common.{◌≡◌, ℕ, ◌+◌, ◌-◌, ◌<◌, ◌≤◌, List, [], ◌∷◌, ◌++◌, map, length, Bool, true, false, refl, sym, ap, ◌∙◌, subst, arith}
use Rattle.std.proofs.lemmas.Bool.{false≢true, eqb-true, leb-true}
use Rattle.std.proofs.lemmas.List.{length-map}
use Rattle.std.specs.Prelude.{slice_index, IsTrue, ◌&&◌, nat_le, nat_eq}
use Rattle.wg_state.specs.Turns.{Ending, Spent, Done, and_then, pure, ◌>>=◌}
use Rattle.wg_typed.specs.Operators.{scalar_of, is_wide, prefixed_words}
use Rattle.wg_lowered.proofs.Narrow.{narrow_is, plain_prefixed}
use Rattle.wg_words.specs.Truth.{is_true, truth}
use Rattle.wg_semantics.specs.Places.{Setting}
use Rattle.wg_semantics.specs.Calls.{Seen, value_of}
use Rattle.wg_semantics.specs.declared.state.State.{State}
use Rattle.wg_semantics.specs.declared.state.Spot.TheVariants as spot
use Rattle.wg_code.specs.Lane.{Around, Site, Exit}
use Rattle.wg_code.specs.Flow.{Callees}
use Rattle.wg_code.specs.OpMeaning.{ops_do}
use Rattle.wg_code.specs.declared.op.Op.TheVariants as o
use Rattle.wg_lowered.specs.Where.{Names, size}
use Rattle.wg_lowered.specs.Fits.{Typing}
use Rattle.wg_lowered.specs.declared.places.Where.TheVariants as place
use Rattle.wg_lowered.specs.Where.{run}
use Rattle.wg_lowered.specs.Exprs.{Coded, value_code, value_need}
use Rattle.wg_lowered.specs.Holding.{Agree}
use Rattle.wg_tree.specs.declared.expr.Scalar.{Scalar}
use Rattle.wg_tree.specs.declared.expr.Scalar.TheVariants as scalar
use Rattle.std.specs.Prelude.{◌==◌, not}
use Rattle.wg_lowered.specs.Fits.{is_narrow}
use Rattle.wg_lowered.proofs.Rights.{K, ExprGood, KindGood, part_value}
use Rattle.wg_lowered.proofs.Straight.{binary_puts}
use Rattle.wg_code.specs.Operators.{binary as operation}
use Rattle.wg_lowered.specs.Holding.{Below}
use Rattle.wg_lowered.proofs.Straight.{Every, below_same, below_then, straight_then, Puts, each_puts, copy_puts, set_puts, with}
use Rattle.wg_lowered.proofs.Registers.{and_left, and_right, run_reads, reads_same}
use Rattle.wg_lowered.specs.Where.{variables_end}
use Rattle.wg_lowered.specs.Holding.{Holds}
use Rattle.wg_lowered.proofs.Values.{holds_below, Found, Given, then_code}
use Rattle.wg_lowered.proofs.Fetches.{every_more}
use Rattle.wg_tree.specs.declared.expr.PrefixOperator.{PrefixOperator}
use Rattle.wg_tree.specs.declared.expr.PrefixOperator.TheVariants as prefix
use Rattle.wg_typed.specs.Operators.{prefixed}
use Rattle.wg_state.specs.Turns.{each}
use Rattle.wg_typed.specs.Layout.{put}
use Rattle.wg_lowered.specs.Fits.{all_parts}
use Rattle.wg_lowered.specs.Exprs.{prefixed_op, prefixed_ops, parts_need, parts_code}
use Rattle.wg_lowered.proofs.Straight.{unary_puts}
use Rattle.std.proofs.Common.{length-append}

every_append : (P : ℕ → Type 0) (xs ys : List ℕ) → Every P xs → Every P ys → Every P (xs ++ ys)
every_append P [] ys h g = g
every_append P (x ∷ xs) ys h g = (h.0, every_append P xs ys h.1 g)

map_join : (g : ℕ → ℕ) (xs ys : List ℕ) → map g (xs ++ ys) ≡ map g xs ++ map g ys
map_join g [] ys = refl
map_join g (x ∷ xs) ys = ap (λ l. g x ∷ l) (map_join g xs ys)

map_pair : (g h : ℕ → ℕ) (xs : List ℕ) → map (λ x. g (h x)) xs ≡ map g (map h xs)
map_pair g h [] = refl
map_pair g h (x ∷ xs) = ap (λ l. g (h x) ∷ l) (map_pair g h xs)

not_zero : (v : ℕ) → truth (v == 0) ≡ truth (not (is_true v))
not_zero v = go (v == 0)
  where
    go : (b : Bool) → truth b ≡ truth (not (not b))
    go true = refl
    go false = refl

module _ (a : Around) (cs : Callees) (setting : Setting) (vs gs : List ℕ) (R : ℕ) where
  abbrev kr : Names
  kr = K a cs setting vs gs R

  minus_puts : (r d : ℕ) (f : Site) (t : ℕ) → r < d → d < length f.registers → Puts a cs (o.Set d 0 ∷ o.Binary 1 d d r ∷ []) d (operation 32 1 0 (slice_index f.registers r)) f t
  minus_puts r d f t lt room =
      let y = set_puts a cs 0 d f t room in
      let z = binary_puts a cs 1 d r d (with f y.after) t (omega (arith, room, y.below.count)) in
      straight_then a cs (o.Set d 0 ∷ []) (o.Binary 1 d d r ∷ []) d d f t (λ after. slice_index after d ≡ 0) (λ after. slice_index after d ≡ operation 32 1 0 (slice_index f.registers r)) (omega arith) y (record { after = z.after; runs = z.runs; below = z.below; holds = z.holds ∙ rw (y.below.kept r lt, y.holds) refl })

  -- a prefix operator on a word; every scalar has 32 bits
  prefix_puts : (op : PrefixOperator) (sc : Scalar) (r d : ℕ) (f : Site) (t : ℕ) → is_wide sc ≡ false → r < d → d < length f.registers → Puts a cs (prefixed_op op r d) d (prefixed op sc (slice_index f.registers r)) f t
  prefix_puts prefix.Minus scalar.Bool r d f t e lt room = minus_puts r d f t lt room
  prefix_puts prefix.Minus scalar.Int r d f t e lt room = minus_puts r d f t lt room
  prefix_puts prefix.Minus scalar.Uint r d f t e lt room = minus_puts r d f t lt room
  prefix_puts prefix.Minus scalar.Int16 r d f t e lt room = absurd (false≢true (sym e))
  prefix_puts prefix.Minus scalar.Uint16 r d f t e lt room = absurd (false≢true (sym e))
  prefix_puts prefix.Minus scalar.Int64 r d f t e lt room = absurd (false≢true (sym e))
  prefix_puts prefix.Minus scalar.Uint64 r d f t e lt room = absurd (false≢true (sym e))
  prefix_puts prefix.Plus sc r d f t e lt room = copy_puts a cs r d f t room
  prefix_puts prefix.Not sc r d f t e lt room =
      let y = set_puts a cs 0 d f t room in
      let z = binary_puts a cs 13 r d d (with f y.after) t (omega (arith, room, y.below.count)) in
      straight_then a cs (o.Set d 0 ∷ []) (o.Binary 13 d r d ∷ []) d d f t (λ after. slice_index after d ≡ 0) _ (omega arith) y (record { after = z.after; runs = z.runs; below = z.below; holds = z.holds ∙ rw (y.below.kept r lt, y.holds) (not_zero (slice_index f.registers r)) })
  prefix_puts prefix.Complement scalar.Bool r d f t e lt room = unary_puts a cs 0 r d f t room
  prefix_puts prefix.Complement scalar.Int r d f t e lt room = unary_puts a cs 0 r d f t room
  prefix_puts prefix.Complement scalar.Uint r d f t e lt room = unary_puts a cs 0 r d f t room
  prefix_puts prefix.Complement scalar.Int16 r d f t e lt room = absurd (false≢true (sym e))
  prefix_puts prefix.Complement scalar.Uint16 r d f t e lt room = absurd (false≢true (sym e))
  prefix_puts prefix.Complement scalar.Int64 r d f t e lt room = absurd (false≢true (sym e))
  prefix_puts prefix.Complement scalar.Uint64 r d f t e lt room = absurd (false≢true (sym e))

  pub prefix_good : (op : PrefixOperator) (m : Seen) (c : Coded) (w : Typing) → ExprGood a cs setting vs gs R m c w → KindGood a cs setting vs gs R (λ t. value_of setting.structs m >>= (λ words. pure (spot.Value (prefixed_words op t words)))) (λ t. record {
    need = value_need kr c + size kr t;
    spot = λ d.
        let v = value_code kr c d in
        record { ops = v.ops ++ prefixed_ops op v.at (d + value_need kr c); at = place.Fixed (d + value_need kr c) };
  }) (λ t. (w.fits && is_narrow t) && nat_eq (size kr w.of) (size kr t))
  prefix_good op m c w g t ok d s f tu le room h =
      let v = value_code kr c d in
      let nb = value_need kr c in
      let e : size kr m.of ≡ size kr t = ap (size kr) (sym g.w_of) ∙ eqb-true (size kr w.of) (size kr t) (and_right (w.fits && is_narrow t) _ ok) in
      let ok1 = and_left (w.fits && is_narrow t) _ ok in
      let nw = narrow_is t (and_right w.fits _ ok1) in
      then_code a cs kr R (Given kr R d (d + nb) (size kr m.of) v.at f) (Found kr R d (d + (nb + size kr t)) (size kr t) (place.Fixed (d + nb)) f) (value_of setting.structs m s tu) v.ops (prefixed_ops op v.at (d + nb)) f tu (λ words. pure (spot.Value (prefixed_words op t words))) (λ v s e f q. q.is_through) (part_value a cs setting vs gs R m c w g (and_left w.fits _ ok1) d s f tu le (omega arith) h) (λ ws s1 f1 t1 q.
      let n : length v.at ≡ size kr t = q.count ∙ e in
      let x = each_puts a cs (prefixed_op op) (λ r. prefixed op (scalar_of t) (slice_index f1.registers r)) (d + nb) R f1.registers f1.shared (λ r. r < d + nb) (λ r d' z u ok ge lt' n' b _.
      subst (λ y. Puts a cs (prefixed_op op r d') d' y z u) (ap (prefixed op (scalar_of t)) (b.kept r ok)) (prefix_puts op (scalar_of t) r d' z u nw (omega (arith, ok, ge)) (omega (arith, n')))) v.at q.lies (d + nb) f1 t1 (omega arith) (omega (arith, n)) q.holds.count (below_same (d + nb) f1.registers) refl in
      let m' : length (map (λ r. prefixed op (scalar_of t) (slice_index f1.registers r)) v.at) ≡ size kr t = length-map v.at (λ r. prefixed op (scalar_of t) (slice_index f1.registers r)) ∙ n in
      let value : map (slice_index x.after) (run (d + nb) (size kr t)) ≡ prefixed_words op t ws = subst (λ z. map (slice_index x.after) (run (d + nb) z) ≡ map (λ r. prefixed op (scalar_of t) (slice_index f1.registers r)) v.at) m' x.holds ∙ map_pair (prefixed op (scalar_of t)) (slice_index f1.registers) v.at ∙ ap (map (prefixed op (scalar_of t))) q.value ∙ sym (plain_prefixed op t ws nw) in
      rw x.runs (
        refl,
        record {
          is_through = refl;
          holds = holds_below kr R (d + nb) s1 f1 x.after (omega arith) q.holds x.below;
          below = below_then d (d + nb) f.registers f1.registers x.after (omega arith) q.below x.below;
          stands = sym (run_reads x.after (d + nb) (size kr t)) ∙ value;
          lies = omega arith;
        },
      ))

  -- the parts' words one after another: no code but theirs
  pub parts_good : {B E : Type 0} (pr : B → E) (m : E → Seen) (c : E → Coded) (w : E → Typing) (all : (x : B) → ExprGood a cs setting vs gs R (m (pr x)) (c (pr x)) (w (pr x))) (xs : List B) (n d : ℕ) (s : State) (f : Site) (tu : ℕ) → IsTrue (all_parts kr (map w (map pr xs)) n) → variables_end kr ≤ d → d + parts_need kr (map c (map pr xs)) < R → Holds kr R s f → Agree (λ (values : List (List ℕ)) s' e f'. Given kr R d (d + parts_need kr (map c (map pr xs))) n (parts_code kr (map c (map pr xs)) d).at f (put values) s' e f') (each (map (value_of setting.structs) (map m (map pr xs))) s tu) (ops_do false a cs (parts_code kr (map c (map pr xs)) d).ops f tu)
  parts_good pr m c w all [] n d s f tu ok le room h = (refl, record { is_through = refl; holds = h; below = below_same d f.registers; value = refl; lies = tt; count = sym (eqb-true n 0 ok) })
  parts_good pr m c w all (x ∷ xs) n d s f tu ok le room h =
      let g = all x in
      let mx = m (pr x) in
      let cx = c (pr x) in
      let wx = w (pr x) in
      let v = value_code kr cx d in
      let nb = value_need kr cx in
      let rest = parts_code kr (map c (map pr xs)) (d + nb) in
      let more = parts_need kr (map c (map pr xs)) in
      let e : size kr wx.of ≡ size kr mx.of = ap (size kr) g.w_of in
      let ok2 = and_right wx.fits _ ok in
      let fit = leb-true (size kr wx.of) n (and_left (nat_le (size kr wx.of) n) _ ok2) in
      let ok3 = and_right (nat_le (size kr wx.of) n) _ ok2 in
      let Q : List (List ℕ) → State → Exit → Site → Type 0 = λ values s' e f'. Given kr R d (d + (nb + more)) n (v.at ++ rest.at) f (put values) s' e f' in
      then_code a cs kr R (Given kr R d (d + nb) (size kr mx.of) v.at f) Q (value_of setting.structs mx s tu) v.ops rest.ops f tu (λ words. each (map (value_of setting.structs) (map m (map pr xs))) >>= (λ others. pure (words ∷ others))) (λ v s e f q. q.is_through) (part_value a cs setting vs gs R mx cx wx g (and_left wx.fits _ ok) d s f tu le (omega arith) h) (λ ws s1 f1 t1 q.
      joined (n - size kr wx.of) (d + nb + more) d (d + nb) (d + (nb + more)) n v.at rest.at f f1 ws (omega arith) (omega arith) (omega arith) (omega (arith, q.count, e, fit)) q.below q.value q.lies q.count _ _ (parts_good pr m c w all xs (n - size kr wx.of) (d + nb) s1 f1 t1 ok3 (omega arith) (omega arith) q.holds))
    where
      joined : {sz : ℕ} (n2 to d e to2 n : ℕ) (at rest : List ℕ) (f f1 : Site) (ws : List ℕ) → d ≤ e → e ≤ to → to ≤ to2 → sz + n2 ≡ n → Below d f.registers f1.registers → map (slice_index f1.registers) at ≡ ws → Every (λ r. r < e) at → length at ≡ sz → (o : Ending State (List (List ℕ))) (p : Ending Site Exit) → Agree (λ (values : List (List ℕ)) s' x f'. Given kr R e to n2 rest f1 (put values) s' x f') o p → Agree (λ (values : List (List ℕ)) s' x f'. Given kr R d to2 n (at ++ rest) f (put values) s' x f') (and_then o (λ others. pure (ws ∷ others))) p
      joined n2 to d e to2 n at rest f f1 ws le mid ge sum b v lie count Spent Spent r = tt
      joined n2 to d e to2 n at rest f f1 ws le mid ge sum b v lie count Spent (Done x y z) r = absurd r
      joined n2 to d e to2 n at rest f f1 ws le mid ge sum b v lie count (Done x y z) Spent r = absurd r
      joined n2 to d e to2 n at rest f f1 ws le mid ge sum b v lie count (Done values s2 t2) (Done x y z) r = (
        r.0,
        record {
          is_through = r.1.is_through;
          holds = r.1.holds;
          below = below_then d e f.registers f1.registers y.registers le b r.1.below;
          value = map_join (slice_index y.registers) at rest ∙ rw (reads_same e f1.registers y.registers at r.1.below lie ∙ v, r.1.value) refl;
          lies = every_append (λ q. q < to2) at rest (every_more e to2 at (omega (arith, mid, ge)) lie) (every_more to to2 rest ge r.1.lies);
          count = length-append at rest ∙ omega (arith, count, r.1.count, sum);
        },
      )

  pub construct_good : {B E : Type 0} (pr : B → E) (m : E → Seen) (c : E → Coded) (w : E → Typing) (all : (x : B) → ExprGood a cs setting vs gs R (m (pr x)) (c (pr x)) (w (pr x))) (xs : List B) → KindGood a cs setting vs gs R (λ t. each (map (value_of setting.structs) (map m (map pr xs))) >>= (λ values. pure (spot.Value (put values)))) (λ t. record { need = parts_need kr (map c (map pr xs)); spot = λ d. record { ops = (parts_code kr (map c (map pr xs)) d).ops; at = place.Held (parts_code kr (map c (map pr xs)) d).at } }) (λ t. all_parts kr (map w (map pr xs)) (size kr t))
  construct_good pr m c w all xs t ok d s f tu le room h =
      placed (d + parts_need kr (map c (map pr xs))) d (size kr t) (parts_code kr (map c (map pr xs)) d).at f _ _ (parts_good pr m c w all xs (size kr t) d s f tu ok le room h)
    where
      placed : (to d n : ℕ) (at : List ℕ) (f : Site) (o : Ending State (List (List ℕ))) (p : Ending Site Exit) → Agree (λ (values : List (List ℕ)) s' x f'. Given kr R d to n at f (put values) s' x f') o p → Agree (Found kr R d to n (place.Held at) f) (and_then o (λ values. pure (spot.Value (put values)))) p
      placed to d n at f Spent Spent r = tt
      placed to d n at f Spent (Done x y z) r = absurd r
      placed to d n at f (Done x y z) Spent r = absurd r
      placed to d n at f (Done values s t) (Done x y z) r = (r.0, record { is_through = r.1.is_through; holds = r.1.holds; below = r.1.below; stands = (r.1.value, r.1.count); lies = r.1.lies })
