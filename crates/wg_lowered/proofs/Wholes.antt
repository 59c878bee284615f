-- Kinds of expressions, and all of them.
use Rattle.std.proofs.Common.{◌≡◌, ℕ, zero, suc, ◌+◌, ◌<◌, ◌≤◌, List, [], ◌∷◌, ◌++◌, map, length, Bool, true, false, refl, sym, ap, ◌∙◌, subst, arith}
use Rattle.std.proofs.lemmas.Bool.{eqb-true, leb-true}
use Rattle.std.proofs.lemmas.List.{length-map}
use Rattle.std.specs.Prelude.{slice_index, IsTrue, ◌&&◌, nat_lt, nat_le, nat_eq, if◌then◌else◌, None}
use Rattle.wg_state.specs.Turns.{Ending, Spent, Done, Action, and_then, pure, ◌>>=◌}
use Rattle.wg_lowered.proofs.Narrow.{narrow_is}
use Rattle.wg_words.specs.Truth.{is_true}
use Rattle.wg_semantics.specs.Places.{Setting}
use Rattle.wg_state.specs.WordLists.{zeros}
use Rattle.wg_semantics.specs.Calls.{Seen, value_of}
use Rattle.wg_semantics.specs.ExprMeaning.{Follows, Linked, word_of, when, followed, operated, linked, chained, valued}
use Rattle.wg_tree.specs.declared.expr.BinaryOperator.{BinaryOperator}
use Rattle.wg_semantics.specs.declared.state.State.{State}
use Rattle.wg_semantics.specs.declared.state.Spot.{Spot}
use Rattle.wg_semantics.specs.declared.state.Spot.TheVariants as spot
use Rattle.wg_semantics.specs.declared.state.Store.TheVariants as store
use Rattle.wg_typed.specs.declared.types.TypeTree.{TypeTree}
use Rattle.wg_code.specs.Lane.{Around, Site, Exit, Through}
use Rattle.wg_code.specs.Flow.{Callees}
use Rattle.wg_code.specs.OpMeaning.{ops_do}
use Rattle.wg_code.specs.declared.op.Op.TheVariants as o
use Rattle.wg_lowered.specs.Where.{Names, size}
use Rattle.wg_lowered.specs.Fits.{Fitting, Typing, all_fit}
use Rattle.wg_lowered.specs.declared.places.Where.{Where}
use Rattle.wg_lowered.specs.declared.places.Where.TheVariants as place
use Rattle.wg_lowered.specs.declared.places.Space.TheVariants as space
use Rattle.wg_lowered.specs.Where.{copies, copy_op, sets, set_op, run}
use Rattle.wg_lowered.specs.Where.{base_of}
use Rattle.wg_lowered.specs.Exprs.{Coded, Formed, Joined, value_code, value_need, first_of, forms_need, forms_code, operated_need, links_need, links_code, into}
use Rattle.wg_lowered.specs.Holding.{Agree}
use Rattle.wg_lowered.proofs.Ops.{agree_so}
use Rattle.wg_lowered.specs.Fits.{joins, single, is_narrow, variable_fits}
use Rattle.wg_lowered.specs.Exprs.{operated_code, linked_code, linked_need}
use Rattle.wg_lowered.proofs.Rights.{lies_more, K, ExprGood, FormGood, LinkGood, KindGood, part_value, word_of_then}
use Rattle.wg_lowered.specs.Holding.{Below}
use Rattle.wg_lowered.proofs.Straight.{Every, below_same, below_then, Puts, each_puts, copy_puts, set_puts}
use Rattle.wg_lowered.proofs.Registers.{and_left, and_right, run_reads, base_below}
use Rattle.wg_lowered.specs.Where.{variables_end}
use Rattle.wg_lowered.specs.Holding.{Holds}
use Rattle.wg_lowered.proofs.Values.{holds_below, Stands, LiesBelow, Found, Given, then_code}
use Rattle.wg_lowered.proofs.Fetches.{every_more, every_unit}
use Rattle.wg_lowered.proofs.Operated.{if_agree, operated_good}
use Rattle.wg_lowered.proofs.Rights.{forms_good}

module _ (a : Around) (cs : Callees) (setting : Setting) (vs gs : List ℕ) (R : ℕ) where
  abbrev kk : Names
  kk = K a cs setting vs gs R

  -- ---- places at once

  pub at_once : (need n d : ℕ) (w : Where) (p : Spot) (s : State) (f : Site) (t : ℕ) → Holds kk R s f → Stands kk n w p f.registers → LiesBelow d n w → Agree (Found kk R d (d + need) n w f) (Done p s t) (Done Through f t)
  at_once need n d w p s f t h st l = (refl, record { is_through = refl; holds = h; below = below_same d f.registers; stands = st; lies = lies_more d (d + need) n w (omega arith) l })

  pub variable_good : (variable : ℕ) → KindGood a cs setting vs gs R (λ t. pure (spot.At (store.Variable variable) 0)) (λ t. record { need = 0; spot = λ d. record { ops = []; at = place.Fixed (base_of vs variable) } }) (λ t. variable_fits vs variable (size kk t))
  variable_good variable t w d s f tu le room h =
      let e = eqb-true (slice_index vs variable) (size kk t) (and_right (nat_lt variable (length vs)) _ w) in
      let b = base_below vs variable in
      at_once 0 (size kk t) d (place.Fixed (base_of vs variable)) (spot.At (store.Variable variable) 0) s f tu h (record { is_variable = tt; inside = omega (arith, e); base = omega arith }) (omega (arith, e, b, le))

  pub shared_good : (variable : ℕ) → KindGood a cs setting vs gs R (λ t. pure (spot.At (store.Shared variable) 0)) (λ t. record {
    need = 1;
    spot = λ d. record { ops = o.Set d 0 ∷ []; at = place.Ranged space.Group (base_of gs variable) (base_of gs variable + size kk t) d };
  }) (λ t. variable_fits gs variable (size kk t) && nat_le (size kk t) 8192)
  shared_good variable t w d s f tu le room h =
      let fit = and_left (variable_fits gs variable (size kk t)) _ w in
      let small = leb-true (size kk t) 8192 (and_right (variable_fits gs variable (size kk t)) _ w) in
      let e = eqb-true (slice_index gs variable) (size kk t) (and_right (nat_lt variable (length gs)) _ fit) in
      let b = base_of gs variable in
      let x = set_puts a cs 0 d f tu (omega (arith, h.count)) in
      let z : b + (slice_index x.after d) ≡ b + 0 = ap (λ n. b + n) x.holds in
      let i : slice_index x.after d ≡ 0 = x.holds in
      rw x.runs (
        refl,
        record {
          is_through = refl;
          holds = holds_below kk R d s f x.after le h x.below;
          below = x.below;
          stands = (
            record { small = record { apart = le; index_small = omega (arith, i, small); range_small = omega (arith, small) }; inside = omega (arith, i) },
            record { is_variable = tt; inside = omega (arith, e); base = omega (arith, z) },
          );
          lies = (omega arith, tt);
        },
      )

  -- words set at once
  pub sets_good : (words : List ℕ) (d n : ℕ) (s : State) (f : Site) (t : ℕ) → length words ≡ n → variables_end kk ≤ d → d + n < R → Holds kk R s f → Agree (Found kk R d (d + n) n (place.Fixed d) f) (Done (spot.Value words) s t) (ops_do false a cs (sets words d) f t)
  sets_good words d n s f t e le room h =
      let x = each_puts a cs set_op (λ v. v) d R f.registers f.shared (λ v. Unit {0}) (λ v d' g u ok ge lt' n' b _. set_puts a cs v d' g u (omega (arith, n'))) words (every_unit words) d f t (omega arith) (omega (arith, e)) h.count (below_same d f.registers) refl in
      let same : map (λ (v : ℕ). v) words ≡ words = map_id words in
      let v : map (slice_index x.after) (run d (length words)) ≡ words = subst (λ z. map (slice_index x.after) (run d (length z)) ≡ z) same x.holds in
      rw x.runs (
        refl,
        record {
          is_through = refl;
          holds = holds_below kk R d s f x.after le h x.below;
          below = x.below;
          stands = sym (run_reads x.after d n) ∙ subst (λ z. map (slice_index x.after) (run d z) ≡ words) e v;
          lies = omega arith;
        },
      )
    where
      map_id : (l : List ℕ) → map (λ (v : ℕ). v) l ≡ l
      map_id [] = refl
      map_id (x ∷ l) = ap (λ z. x ∷ z) (map_id l)

  pub literal_good : (words : List ℕ) → KindGood a cs setting vs gs R (λ t. pure (spot.Value words)) (λ t. record { need = length words; spot = λ d. record { ops = sets words d; at = place.Fixed d } }) (λ t. nat_eq (length words) (size kk t))
  literal_good words t w d s f tu le room h =
      let e = eqb-true (length words) (size kk t) w in
      subst (λ z. Agree (Found kk R d (d + z) (size kk t) (place.Fixed d) f) (Done (spot.Value words) s tu) (ops_do false a cs (sets words d) f tu)) (sym e) (sets_good words d (size kk t) s f tu e le (omega (arith, e)) h)

  pub zeros_good : KindGood a cs setting vs gs R (λ t. pure (spot.Value (zeros (size kk t)))) (λ t. record { need = size kk t; spot = λ d. record { ops = sets (zeros (size kk t)) d; at = place.Fixed d } }) (λ t. true)
  zeros_good t w d s f tu le room h = sets_good (zeros (size kk t)) d (size kk t) s f tu (zeros_length (size kk t)) le room h
    where
      zeros_length : (n : ℕ) → length (zeros n) ≡ n
      zeros_length zero = refl
      zeros_length (suc n) = ap suc (zeros_length n)

  -- ---- forms after a value

  pub access_good : {F B : Type 0} (mb : Seen) (cb : Coded) (wb : Typing) → ExprGood a cs setting vs gs R mb cb wb → (pr : B → F) (m : F → Follows) (c : F → Formed) (w : F → Fitting) (each : (x : B) → FormGood a cs setting vs gs R (m (pr x)) (c (pr x)) (w (pr x))) (xs : List B) → KindGood a cs setting vs gs R (λ t. mb.spot >>= followed (map m (map pr xs)) mb.of) (λ t. record {
    need = cb.need + forms_need (map c (map pr xs)) cb.of;
    spot = λ d. let p = cb.spot d in let q = forms_code (map c (map pr xs)) cb.of p.at (d + cb.need) in record { ops = p.ops ++ q.ops; at = q.at };
  }) (λ t. wb.fits && all_fit kk (map w (map pr xs)) wb.of t)
  access_good mb cb wb g pr m c w each xs t ok d s f tu le room h =
      let ok2 : IsTrue (all_fit kk (map w (map pr xs)) mb.of t) = subst (λ u. IsTrue (all_fit kk (map w (map pr xs)) u t)) g.w_of (and_right wb.fits _ ok) in
      let Goal : TypeTree → Type 0 = λ u. d + (cb.need + forms_need (map c (map pr xs)) u) < R → Agree (Found kk R d (d + (cb.need + forms_need (map c (map pr xs)) u)) (size kk t) (forms_code (map c (map pr xs)) u (cb.spot d).at (d + cb.need)).at f) (and_then (mb.spot s tu) (followed (map m (map pr xs)) mb.of)) (ops_do false a cs ((cb.spot d).ops ++ (forms_code (map c (map pr xs)) u (cb.spot d).at (d + cb.need)).ops) f tu) in
      subst Goal (sym g.c_of) (λ room.
      then_code a cs kk R (Found kk R d (d + cb.need) (size kk mb.of) (cb.spot d).at f) (Found kk R d (d + (cb.need + forms_need (map c (map pr xs)) mb.of)) (size kk t) (forms_code (map c (map pr xs)) mb.of (cb.spot d).at (d + cb.need)).at f) (mb.spot s tu) (cb.spot d).ops (forms_code (map c (map pr xs)) mb.of (cb.spot d).at (d + cb.need)).ops f tu (followed (map m (map pr xs)) mb.of) (λ v s e f q. q.is_through) (g.claim (and_left _ _ ok) d s f tu le (omega arith) h) (λ p1 s1 f1 t1 q.
      agree_so (Found kk R (d + cb.need) (d + cb.need + forms_need (map c (map pr xs)) mb.of) (size kk t) (forms_code (map c (map pr xs)) mb.of (cb.spot d).at (d + cb.need)).at f1) (Found kk R d (d + (cb.need + forms_need (map c (map pr xs)) mb.of)) (size kk t) (forms_code (map c (map pr xs)) mb.of (cb.spot d).at (d + cb.need)).at f) _ _ (forms_good a cs setting vs gs R pr m c w each xs mb.of t (d + cb.need) p1 (cb.spot d).at s1 f1 t1 ok2 (omega arith) (omega arith) q.holds q.stands q.lies) (λ v s2 e f2 y. record { is_through = y.is_through; holds = y.holds; below = below_then d (d + cb.need) f.registers f1.registers f2.registers (omega arith) q.below y.below; stands = y.stands; lies = lies_more (d + cb.need + forms_need (map c (map pr xs)) mb.of) _ (size kk t) _ (omega arith) y.lies }))) room

  -- ---- a chain

  pub link_good : (op : BinaryOperator) (m : Seen) (c : Coded) (w : Typing) (of : TypeTree) → ExprGood a cs setting vs gs R m c w → LinkGood a cs setting vs gs R (record { of = of; next = linked setting op None m }) (record { of = of; need = λ t. linked_need kk None c; after = linked_code kk op None c }) (record { of = of; fits = λ t. (w.fits && nat_eq (size kk of) (size kk w.of)) && (joins kk t None (size kk w.of) && single op (size kk w.of)) })
  link_good op m c w of g = record {
    c_of = refl;
    w_of = refl;
    claim = λ t d at ws s f tu ok le room h v lie n.
        let sw : size kk w.of ≡ size kk m.of = ap (size kk) g.w_of in
        let e1 = eqb-true (size kk of) (size kk w.of) (and_right w.fits _ (and_left (w.fits && nat_eq (size kk of) (size kk w.of)) _ ok)) in
        let j = and_right (w.fits && nat_eq (size kk of) (size kk w.of)) _ ok in
        let e2 = eqb-true (size kk t) (size kk w.of) (and_right (is_narrow t) _ (and_left (is_narrow t && nat_eq (size kk t) (size kk w.of)) _ j)) in
        let nw = narrow_is t (and_left (is_narrow t) _ (and_left (is_narrow t && nat_eq (size kk t) (size kk w.of)) _ j)) in
        subst (λ z. Agree (Given kk R d (d + operated_need kk c) z (operated_code kk op t c at d).at f) (operated setting op t m ws s tu) (ops_do false a cs (operated_code kk op t c at d).ops f tu)) (sym (e1 ∙ sw)) (operated_good a cs setting vs gs R m c w g (and_left w.fits _ (and_left (w.fits && nat_eq (size kk of) (size kk w.of)) _ ok)) op t d at ws s f tu nw (e2 ∙ sw) (and_right (is_narrow t && nat_eq (size kk t) (size kk w.of)) _ j) le room h v lie n);
  }

  pub links_good : {F B : Type 0} (pr : B → F) (m : F → Linked) (c : F → Joined) (w : F → Fitting) (each : (x : B) → LinkGood a cs setting vs gs R (m (pr x)) (c (pr x)) (w (pr x))) (xs : List B) (t to : TypeTree) (d : ℕ) (at ws : List ℕ) (s : State) (f : Site) (tu : ℕ) → IsTrue (all_fit kk (map w (map pr xs)) t to) → variables_end kk ≤ d → d + links_need (map c (map pr xs)) t < R → Holds kk R s f → map (slice_index f.registers) at ≡ ws → Every (λ r. r < d) at → length at ≡ size kk t → Agree (Given kk R d (d + links_need (map c (map pr xs)) t) (size kk to) (links_code (map c (map pr xs)) t at d).at f) (chained (map m (map pr xs)) t ws s tu) (ops_do false a cs (links_code (map c (map pr xs)) t at d).ops f tu)
  links_good pr m c w each [] t to d at ws s f tu ok le room h v lie n =
      let e : size kk t ≡ size kk to = eqb-true (size kk t) (size kk to) ok in
      (refl, record { is_through = refl; holds = h; below = below_same d f.registers; value = v; lies = every_more d (d + 0) at (omega arith) lie; count = n ∙ e })
  links_good pr m c w each (x ∷ xs) t to d at ws s f tu ok le room h v lie n =
      let g = each x in
      let ok2 : IsTrue (all_fit kk (map w (map pr xs)) (m (pr x)).of to) = subst (λ u. IsTrue (all_fit kk (map w (map pr xs)) u to)) g.w_of (and_right ((w (pr x)).fits t) _ ok) in
      let n1 = (c (pr x)).need t in
      let code1 = (c (pr x)).after t at d in
      let Goal : TypeTree → Type 0 = λ u. d + (n1 + links_need (map c (map pr xs)) u) < R → Agree (Given kk R d (d + (n1 + links_need (map c (map pr xs)) u)) (size kk to) (links_code (map c (map pr xs)) u code1.at (d + n1)).at f) (and_then ((m (pr x)).next t ws s tu) (chained (map m (map pr xs)) (m (pr x)).of)) (ops_do false a cs (code1.ops ++ (links_code (map c (map pr xs)) u code1.at (d + n1)).ops) f tu) in
      subst Goal (sym g.c_of) (λ room.
      then_code a cs kk R (Given kk R d (d + n1) (size kk (m (pr x)).of) code1.at f) (Given kk R d (d + (n1 + links_need (map c (map pr xs)) (m (pr x)).of)) (size kk to) (links_code (map c (map pr xs)) (m (pr x)).of code1.at (d + n1)).at f) ((m (pr x)).next t ws s tu) code1.ops (links_code (map c (map pr xs)) (m (pr x)).of code1.at (d + n1)).ops f tu (chained (map m (map pr xs)) (m (pr x)).of) (λ v s e f q. q.is_through) (g.claim t d at ws s f tu (and_left _ _ ok) le (omega arith) h v lie n) (λ ws1 s1 f1 t1 q.
      agree_so (Given kk R (d + n1) (d + n1 + links_need (map c (map pr xs)) (m (pr x)).of) (size kk to) (links_code (map c (map pr xs)) (m (pr x)).of code1.at (d + n1)).at f1) (Given kk R d (d + (n1 + links_need (map c (map pr xs)) (m (pr x)).of)) (size kk to) (links_code (map c (map pr xs)) (m (pr x)).of code1.at (d + n1)).at f) _ _ (links_good pr m c w each xs (m (pr x)).of to (d + n1) code1.at ws1 s1 f1 t1 ok2 (omega arith) (omega arith) q.holds q.value q.lies q.count) (λ v s2 e f2 y. record { is_through = y.is_through; holds = y.holds; below = below_then d (d + n1) f.registers f1.registers f2.registers (omega arith) q.below y.below; value = y.value; lies = every_more (d + n1 + links_need (map c (map pr xs)) (m (pr x)).of) _ _ (omega arith) y.lies; count = y.count }))) room

  pub chain_good : {F B : Type 0} (mb : Seen) (cb : Coded) (wb : Typing) → ExprGood a cs setting vs gs R mb cb wb → (pr : B → F) (m : F → Linked) (c : F → Joined) (w : F → Fitting) (each : (x : B) → LinkGood a cs setting vs gs R (m (pr x)) (c (pr x)) (w (pr x))) (xs : List B) → KindGood a cs setting vs gs R (λ t. value_of setting.structs mb >>= (λ words. valued (chained (map m (map pr xs)) mb.of words))) (λ t. record {
    need = value_need kk cb + links_need (map c (map pr xs)) cb.of;
    spot = λ d.
        let w = value_code kk cb d in
        let x = links_code (map c (map pr xs)) cb.of w.at (d + value_need kk cb) in
        record { ops = w.ops ++ x.ops; at = place.Held x.at };
  }) (λ t. wb.fits && all_fit kk (map w (map pr xs)) wb.of t)
  chain_good mb cb wb g pr m c w each xs t ok d s f tu le room h =
      let ok2 : IsTrue (all_fit kk (map w (map pr xs)) mb.of t) = subst (λ u. IsTrue (all_fit kk (map w (map pr xs)) u t)) g.w_of (and_right wb.fits _ ok) in
      let v = value_code kk cb d in
      let nb = value_need kk cb in
      let Goal : TypeTree → Type 0 = λ u. d + (nb + links_need (map c (map pr xs)) u) < R → Agree (Found kk R d (d + (nb + links_need (map c (map pr xs)) u)) (size kk t) (place.Held (links_code (map c (map pr xs)) u v.at (d + nb)).at) f) (and_then (value_of setting.structs mb s tu) (λ words. valued (chained (map m (map pr xs)) mb.of words))) (ops_do false a cs (v.ops ++ (links_code (map c (map pr xs)) u v.at (d + nb)).ops) f tu) in
      subst Goal (sym g.c_of) (λ room.
      then_code a cs kk R (Given kk R d (d + nb) (size kk mb.of) v.at f) (Found kk R d (d + (nb + links_need (map c (map pr xs)) mb.of)) (size kk t) (place.Held (links_code (map c (map pr xs)) mb.of v.at (d + nb)).at) f) (value_of setting.structs mb s tu) v.ops (links_code (map c (map pr xs)) mb.of v.at (d + nb)).ops f tu (λ words. valued (chained (map m (map pr xs)) mb.of words)) (λ v s e f q. q.is_through) (part_value a cs setting vs gs R mb cb wb g (and_left _ _ ok) d s f tu le (omega arith) h) (λ ws s1 f1 t1 q.
      valued_agrees (d + nb) (d + nb + links_need (map c (map pr xs)) mb.of) (d + (nb + links_need (map c (map pr xs)) mb.of)) d (size kk t) (links_code (map c (map pr xs)) mb.of v.at (d + nb)).at f f1 (omega arith) (omega arith) q.below (chained (map m (map pr xs)) mb.of ws s1 t1) _ (links_good pr m c w each xs mb.of t (d + nb) v.at ws s1 f1 t1 ok2 (omega arith) (omega arith) q.holds q.value q.lies q.count))) room
    where
      -- words as a value
      valued_agrees : (e to to' d n : ℕ) (at : List ℕ) (f f1 : Site) → d ≤ e → to ≤ to' → Below d f.registers f1.registers → (o : Ending State (List ℕ)) (p : Ending Site Exit) → Agree (Given kk R e to n at f1) o p → Agree (Found kk R d to' n (place.Held at) f) (and_then o (λ words. pure (spot.Value words))) p
      valued_agrees e to to' d n at f f1 le ge b Spent Spent r = tt
      valued_agrees e to to' d n at f f1 le ge b Spent (Done x y z) r = absurd r
      valued_agrees e to to' d n at f f1 le ge b (Done x y z) Spent r = absurd r
      valued_agrees e to to' d n at f f1 le ge b (Done ws s t) (Done x y z) r = (r.0, record { is_through = r.1.is_through; holds = r.1.holds; below = below_then d e f.registers f1.registers y.registers le b r.1.below; stands = (r.1.value, r.1.count); lies = every_more to to' at ge r.1.lies })

  -- ---- a choice

  -- one branch: its words into the registers from top on
  into_good : (m : Seen) (c : Coded) (w : Typing) → ExprGood a cs setting vs gs R m c w → IsTrue w.fits → (d top n d0 : ℕ) (s : State) (f g0 : Site) (t : ℕ) → size kk m.of ≡ n → variables_end kk ≤ d0 → d0 ≤ d → d + value_need kk c ≤ top → top + n < R → Holds kk R s f → Below d0 g0.registers f.registers → Agree (Found kk R d0 (top + n) n (place.Fixed top) g0) (valued (value_of setting.structs m) s t) (ops_do false a cs (into kk c d top) f t)
  into_good m c w g ok d top n d0 s f g0 t e le ge fit room h b =
      then_code a cs kk R (Given kk R d (d + value_need kk c) (size kk m.of) (value_code kk c d).at f) (Found kk R d0 (top + n) n (place.Fixed top) g0) (value_of setting.structs m s t) (value_code kk c d).ops (copies (value_code kk c d).at top) f t (λ ws. pure (spot.Value ws)) (λ v s e f q. q.is_through) (part_value a cs setting vs gs R m c w g ok d s f t (omega arith) (omega arith) h) (λ ws s1 f1 t1 q.
      let at = (value_code kk c d).at in
      let count : length at ≡ n = q.count ∙ e in
      let x = each_puts a cs copy_op (λ r. slice_index f1.registers r) top R f1.registers f1.shared (λ r. r < top) (λ r d' z u ok ge lt' n' b _.
      subst (λ y. Puts a cs (copy_op r d') d' y z u) (b.kept r ok) (copy_puts a cs r d' z u (omega (arith, n')))) at (every_more (d + value_need kk c) top at fit q.lies) top f1 t1 (omega arith) (omega (arith, count)) q.holds.count (below_same top f1.registers) refl in
      let m' : length (map (slice_index f1.registers) at) ≡ n = length-map at (slice_index f1.registers) ∙ count in
      let v : map (slice_index x.after) (run top n) ≡ ws = subst (λ z. map (slice_index x.after) (run top z) ≡ map (slice_index f1.registers) at) m' x.holds ∙ q.value in
      rw x.runs (
        refl,
        record {
          is_through = refl;
          holds = holds_below kk R top s1 f1 x.after (omega arith) q.holds x.below;
          below = below_then d0 top g0.registers f1.registers x.after (omega arith) (below_then d0 d g0.registers f.registers f1.registers ge b q.below) x.below;
          stands = sym (run_reads x.after top n) ∙ v;
          lies = omega arith;
        },
      ))

  pub choice_good : (mt ma mb : Seen) (ct ca cb : Coded) (wt wa wb : Typing) → ExprGood a cs setting vs gs R mt ct wt → ExprGood a cs setting vs gs R ma ca wa → ExprGood a cs setting vs gs R mb cb wb → KindGood a cs setting vs gs R (λ t. word_of setting mt >>= (λ c. valued (when c (value_of setting.structs ma) (value_of setting.structs mb)))) (λ t. record {
    need = value_need kk ct + (value_need kk ca + value_need kk cb) + size kk t;
    spot = λ d.
        let w = value_code kk ct d in
        let top = d + (value_need kk ct + (value_need kk ca + value_need kk cb)) in
        record { ops = w.ops ++ o.If (first_of w.at) (into kk ca (d + value_need kk ct) top) (into kk cb (d + value_need kk ct) top) ∷ []; at = place.Fixed top };
  }) (λ t. (wt.fits && nat_eq (size kk wt.of) 1) && ((wa.fits && nat_eq (size kk wa.of) (size kk t)) && (wb.fits && nat_eq (size kk wb.of) (size kk t))))
  choice_good mt ma mb ct ca cb wt wa wb gt ga gb t ok d s f tu le room h =
      let ot = and_left (wt.fits && nat_eq (size kk wt.of) 1) _ ok in
      let oab = and_right (wt.fits && nat_eq (size kk wt.of) 1) _ ok in
      let oa = and_left (wa.fits && nat_eq (size kk wa.of) (size kk t)) _ oab in
      let ob = and_right (wa.fits && nat_eq (size kk wa.of) (size kk t)) _ oab in
      let one : size kk mt.of ≡ 1 = ap (size kk) (sym gt.w_of) ∙ eqb-true (size kk wt.of) 1 (and_right wt.fits _ ot) in
      let ea : size kk ma.of ≡ size kk t = ap (size kk) (sym ga.w_of) ∙ eqb-true (size kk wa.of) (size kk t) (and_right wa.fits _ oa) in
      let eb : size kk mb.of ≡ size kk t = ap (size kk) (sym gb.w_of) ∙ eqb-true (size kk wb.of) (size kk t) (and_right wb.fits _ ob) in
      let nt = value_need kk ct in
      let top = d + (nt + (value_need kk ca + value_need kk cb)) in
      let to = d + (nt + (value_need kk ca + value_need kk cb) + size kk t) in
      let z : top + size kk t ≡ to = omega arith in
      subst (λ to. Agree (Found kk R d to (size kk t) (place.Fixed top) f) (and_then (word_of setting mt s tu) (λ c. valued (when c (value_of setting.structs ma) (value_of setting.structs mb)))) (ops_do false a cs ((value_code kk ct d).ops ++ o.If (first_of (value_code kk ct d).at) (into kk ca (d + nt) top) (into kk cb (d + nt) top) ∷ []) f tu)) z
      (word_of_then a cs setting vs gs R (Found kk R d (top + size kk t) (size kk t) (place.Fixed top) f) mt ct wt (o.If (first_of (value_code kk ct d).at) (into kk ca (d + nt) top) (into kk cb (d + nt) top) ∷ []) d s f tu (λ v. valued (when v (value_of setting.structs ma) (value_of setting.structs mb))) gt (and_left _ _ ot) one le (omega arith) h (λ v s1 f1 t1 h1 b1 e1 q1.
      subst (λ x. Agree (Found kk R d (top + size kk t) (size kk t) (place.Fixed top) f) x (ops_do false a cs (o.If (first_of (value_code kk ct d).at) (into kk ca (d + nt) top) (into kk cb (d + nt) top) ∷ []) f1 t1)) (when_valued v (value_of setting.structs ma) (value_of setting.structs mb) s1 t1)
      (if_agree a cs setting vs gs R (Found kk R d (top + size kk t) (size kk t) (place.Fixed top) f) (first_of (value_code kk ct d).at) v (valued (value_of setting.structs ma)) (valued (value_of setting.structs mb)) (into kk ca (d + nt) top) (into kk cb (d + nt) top) s1 f1 t1 e1 (λ c. into_good ma ca wa ga (and_left _ _ oa) (d + nt) top (size kk t) d s1 f1 f t1 ea le (omega arith) (omega arith) (omega arith) h1 b1) (λ c. into_good mb cb wb gb (and_left _ _ ob) (d + nt) top (size kk t) d s1 f1 f t1 eb le (omega arith) (omega arith) (omega arith) h1 b1))))
    where
      when_valued : (v : ℕ) (m n : Action State (List ℕ)) (s : State) (t : ℕ) → when v (valued m) (valued n) s t ≡ valued (when v m n) s t
      when_valued v m n s t = go (is_true v)
        where
          go : (b : Bool) → (if b then valued m else valued n) s t ≡ valued (if b then m else n) s t
          go true = refl
          go false = refl
