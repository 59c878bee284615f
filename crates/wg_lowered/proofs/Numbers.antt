-- Numbers of the launch: `Count()`, `FinishedCrossGroupSharing()`, `GetRemainingRecursionLevels()` and `IsValid()`.
use Rattle.std.proofs.Common.{◌≡◌, ℕ, ◌+◌, ◌<◌, ◌≤◌, List, [], ◌∷◌, ◌++◌, length, false, refl, sym, ap, ◌∙◌, subst, arith, get_or-set_same}
use Rattle.std.proofs.lemmas.Bool.{eqb-true}
use Rattle.std.specs.Prelude.{slice_index, slice_set, ◌&&◌, nat_eq, Option, Some, None, is_some}
use Rattle.wg_words.specs.Truth.{truth}
use Rattle.wg_state.specs.Requests.{target_of}
use Rattle.wg_state.specs.Turns.{Done, pure, read, ◌>>=◌}
use Rattle.wg_semantics.specs.Places.{Setting}
use Rattle.wg_semantics.specs.Calls.{Seen}
use Rattle.wg_semantics.specs.ExprMeaning.{index_of, valued}
use Rattle.wg_semantics.specs.declared.state.State.{State}
use Rattle.wg_semantics.specs.declared.state.Spot.TheVariants as spot
use Rattle.wg_code.specs.Lane.{Around, Site, Through}
use Rattle.wg_code.specs.Flow.{Callees}
use Rattle.wg_code.specs.OpMeaning.{ops_do}
use Rattle.wg_code.specs.declared.op.Op.{Op}
use Rattle.wg_code.specs.declared.op.Op.TheVariants as o
use Rattle.wg_lowered.specs.declared.places.Where.TheVariants as place
use Rattle.wg_lowered.specs.Holding.{Agree, Below, Beside, Holds}
use Rattle.wg_lowered.specs.Where.{Names, size, variables_end}
use Rattle.wg_lowered.specs.Exprs.{Coded, first_of, index_code, index_need, one_word, value_code, value_need}
use Rattle.wg_lowered.specs.Fits.{Typing, index_fits}
use Rattle.wg_lowered.proofs.Ops.{ops_one, does_InputCount, does_Level, does_Last, does_Valid}
use Rattle.wg_lowered.proofs.Straight.{below_same, below_then, below_set, set_puts, with}
use Rattle.wg_lowered.proofs.Registers.{and_left, and_right}
use Rattle.wg_lowered.proofs.Values.{Found, holds_below}
use Rattle.wg_lowered.proofs.Operated.{straight_code}
use Rattle.wg_lowered.proofs.Rights.{K, ExprGood, KindGood, word_of_then}

module _ (a : Around) (cs : Callees) (setting : Setting) (vs gs : List ℕ) (R : ℕ) where
  abbrev kn : Names
  kn = K a cs setting vs gs R

  -- an operation that sets a register to a word of the launch
  put_word : (op : Op) (v d n e : ℕ) (s : State) (f g : Site) (t : ℕ) → n ≡ 1 → variables_end kn ≤ d → d ≤ e → e < R → Holds kn R s g → Below d f.registers g.registers → ops_do false a cs (op ∷ []) g t ≡ Done Through (with g (slice_set g.registers e v)) t → Agree (Found kn R d (e + 1) n (place.Fixed e) f) (Done (spot.Value (v ∷ [])) s t) (ops_do false a cs (op ∷ []) g t)
  put_word op v d n e s f g t one le ge room h b runs =
      let c = below_set d e v g.registers g.registers ge (below_same d g.registers) in
      let same : slice_index (slice_set g.registers e v) e ≡ v = get_or-set_same g.registers e v 0 (omega (arith, h.count)) in
      rw (runs, one) (
        refl,
        record {
          is_through = refl;
          holds = holds_below kn R d s g (slice_set g.registers e v) le h c;
          below = below_then d d f.registers g.registers (slice_set g.registers e v) (omega arith) b c;
          stands = ap (λ w. w ∷ []) same;
          lies = omega arith;
        },
      )

  pub count_good : KindGood a cs setting vs gs R (λ t. valued (read (λ s. length s.world.inputs ∷ []))) (λ t. one_word (λ d. o.InputCount d)) (λ t. nat_eq (size kn t) 1)
  count_good t w d s f tu le room h =
      let same : length f.world.inputs ≡ length s.world.inputs = ap (λ w. length w.inputs) h.world in
      put_word (o.InputCount d) (length s.world.inputs) d (size kn t) d s f f tu (eqb-true (size kn t) 1 w) le (omega arith) (omega arith) h (below_same d f.registers) (ops_one a cs _ _ f tu (does_InputCount a cs d) ∙ ap (λ v. Done Through (with f (slice_set f.registers d v)) tu) same)

  pub finished_good : Beside a setting → KindGood a cs setting vs gs R (λ t. pure (spot.Value (truth setting.last ∷ []))) (λ t. one_word (λ d. o.Last d)) (λ t. nat_eq (size kn t) 1)
  finished_good beside t w d s f tu le room h =
      put_word (o.Last d) (truth setting.last) d (size kn t) d s f f tu (eqb-true (size kn t) 1 w) le (omega arith) (omega arith) h (below_same d f.registers) (ops_one a cs _ _ f tu (does_Last a cs d) ∙ ap (λ v. Done Through (with f (slice_set f.registers d (truth v))) tu) beside.last)

  pub levels_good : Beside a setting → KindGood a cs setting vs gs R (λ t. pure (spot.Value (setting.level ∷ []))) (λ t. one_word (λ d. o.Level d)) (λ t. nat_eq (size kn t) 1)
  levels_good beside t w d s f tu le room h =
      put_word (o.Level d) setting.level d (size kn t) d s f f tu (eqb-true (size kn t) 1 w) le (omega arith) (omega arith) h (below_same d f.registers) (ops_one a cs _ _ f tu (does_Level a cs d) ∙ ap (λ v. Done Through (with f (slice_set f.registers d v)) tu) beside.level)

  -- an index that may be left out
  abbrev pub IndexGood : Option Seen → Option Coded → Option Typing → Type 0
  IndexGood None None None = Unit {0}
  IndexGood (Some m) (Some c) (Some w) = ExprGood a cs setting vs gs R m c w
  IndexGood _ _ _ = ⊥

  valid_after : Beside a setting → (output : ℕ) (q v d e n : ℕ) (s : State) (f g : Site) (t : ℕ) → n ≡ 1 → variables_end kn ≤ d → d ≤ e → e < R → Holds kn R s g → Below d f.registers g.registers → slice_index g.registers q ≡ v → Agree (Found kn R d (e + 1) n (place.Fixed e) f) (Done (spot.Value (truth (is_some (target_of setting.outputs output v)) ∷ [])) s t) (ops_do false a cs (o.Valid e output q ∷ []) g t)
  valid_after beside output q v d e n s f g t one le ge room h b same =
      put_word (o.Valid e output q) (truth (is_some (target_of setting.outputs output v))) d n e s f g t one le ge room h b (ops_one a cs _ _ g t (does_Valid a cs e output q) ∙ rw (beside.outputs, same) refl)

  valid_first : Beside a setting → (output : ℕ) → KindGood a cs setting vs gs R (λ t. index_of setting None >>= (λ at. pure (spot.Value (truth (is_some (target_of setting.outputs output at)) ∷ [])))) (λ t. record {
    need = index_need kn None + 1;
    spot = λ d.
        let i = index_code kn None d in
        record { ops = i.ops ++ o.Valid (d + index_need kn None) output (first_of i.at) ∷ []; at = place.Fixed (d + index_need kn None) };
  }) (λ t. index_fits kn None && nat_eq (size kn t) 1)
  valid_first beside output t w d s f tu le room h =
      let x = set_puts a cs 0 d f tu (omega (arith, h.count)) in
      let z : d + 1 + 1 ≡ d + (1 + 1) = omega arith in
      straight_code a cs setting vs gs R (Found kn R d (d + (1 + 1)) (size kn t) (place.Fixed (d + 1)) f) (Done (spot.Value (truth (is_some (target_of setting.outputs output 0)) ∷ [])) s tu) (o.Set d 0 ∷ []) (o.Valid (d + 1) output d ∷ []) d f tu (λ after. slice_index after d ≡ 0) x (subst (λ to. Agree (Found kn R d to (size kn t) (place.Fixed (d + 1)) f) (Done (spot.Value (truth (is_some (target_of setting.outputs output 0)) ∷ [])) s tu) (ops_do false a cs (o.Valid (d + 1) output d ∷ []) (with f x.after) tu)) z (valid_after beside output d 0 d (d + 1) (size kn t) s f (with f x.after) tu (eqb-true (size kn t) 1 w) le (omega arith) (omega arith) (holds_below kn R d s f x.after le h x.below) x.below x.holds))

  valid_at : Beside a setting → (output : ℕ) (m : Seen) (c : Coded) (w : Typing) → ExprGood a cs setting vs gs R m c w → KindGood a cs setting vs gs R (λ t. index_of setting (Some m) >>= (λ at. pure (spot.Value (truth (is_some (target_of setting.outputs output at)) ∷ [])))) (λ t. record {
    need = index_need kn (Some c) + 1;
    spot = λ d.
        let i = index_code kn (Some c) d in
        record { ops = i.ops ++ o.Valid (d + index_need kn (Some c)) output (first_of i.at) ∷ []; at = place.Fixed (d + index_need kn (Some c)) };
  }) (λ t. index_fits kn (Some w) && nat_eq (size kn t) 1)
  valid_at beside output m c w g t ok d s f tu le room h =
      let fit = and_left (w.fits && nat_eq (size kn w.of) 1) _ ok in
      let one : size kn m.of ≡ 1 = ap (size kn) (sym g.w_of) ∙ eqb-true (size kn w.of) 1 (and_right w.fits _ fit) in
      let e = d + value_need kn c in
      let z : e + 1 ≡ d + (value_need kn c + 1) = omega arith in
      word_of_then a cs setting vs gs R (Found kn R d (d + (value_need kn c + 1)) (size kn t) (place.Fixed e) f) m c w (o.Valid e output (first_of (value_code kn c d).at) ∷ []) d s f tu (λ v. pure (spot.Value (truth (is_some (target_of setting.outputs output v)) ∷ []))) g (and_left w.fits _ fit) one le (omega arith) h (λ v s1 f1 t1 h1 b1 e1 q1.
      subst (λ to. Agree (Found kn R d to (size kn t) (place.Fixed e) f) (Done (spot.Value (truth (is_some (target_of setting.outputs output v)) ∷ [])) s1 t1) (ops_do false a cs (o.Valid e output (first_of (value_code kn c d).at) ∷ []) f1 t1)) z (valid_after beside output (first_of (value_code kn c d).at) v d e (size kn t) s1 f f1 t1 (eqb-true (size kn t) 1 (and_right (w.fits && nat_eq (size kn w.of) 1) _ ok)) le (omega arith) (omega arith) h1 b1 e1))

  pub valid_good : Beside a setting → (output : ℕ) (m : Option Seen) (c : Option Coded) (w : Option Typing) → IndexGood m c w → KindGood a cs setting vs gs R (λ t. index_of setting m >>= (λ at. pure (spot.Value (truth (is_some (target_of setting.outputs output at)) ∷ [])))) (λ t. record {
    need = index_need kn c + 1;
    spot = λ d.
        let i = index_code kn c d in
        record { ops = i.ops ++ o.Valid (d + index_need kn c) output (first_of i.at) ∷ []; at = place.Fixed (d + index_need kn c) };
  }) (λ t. index_fits kn w && nat_eq (size kn t) 1)
  valid_good beside output None None None g = valid_first beside output
  valid_good beside output None None (Some w) g = absurd g
  valid_good beside output None (Some c) None g = absurd g
  valid_good beside output None (Some c) (Some w) g = absurd g
  valid_good beside output (Some m) None None g = absurd g
  valid_good beside output (Some m) None (Some w) g = absurd g
  valid_good beside output (Some m) (Some c) None g = absurd g
  valid_good beside output (Some m) (Some c) (Some w) g = valid_at beside output m c w g
