-- The code of each kind of expression does what the kind means.
use Rattle.std.proofs.Common.{◌≡◌, ℕ, ◌+◌, ◌-◌, ◌<◌, ◌≤◌, List, [], ◌∷◌, map, length, Bool, true, false, refl, sym, ap, ◌∙◌, subst, arith}
use Rattle.std.proofs.lemmas.Bool.{ltb-true}
use Rattle.std.proofs.lemmas.List.{length-map}
use Rattle.std.specs.Prelude.{slice_index, nat_lt}
use Rattle.wg_state.specs.Turns.{Done, read}
use Rattle.wg_semantics.specs.Places.{fetched, words_from, stored}
use Rattle.wg_state.specs.WordLists.{zeros}
use Rattle.wg_semantics.specs.Calls.{Seen, value_of}
use Rattle.wg_semantics.specs.declared.state.State.{State}
use Rattle.wg_semantics.specs.declared.state.Spot.{Spot}
use Rattle.wg_semantics.specs.declared.state.Spot.TheVariants as spot
use Rattle.wg_semantics.specs.declared.state.Store.{Store}
use Rattle.wg_typed.specs.declared.types.TypeTree.{TypeTree}
use Rattle.wg_code.specs.Lane.{Around, Site, Through, ranged}
use Rattle.wg_code.specs.Flow.{Callees}
use Rattle.wg_code.specs.OpMeaning.{ops_do}
use Rattle.wg_lowered.specs.Where.{Names, size}
use Rattle.wg_lowered.specs.declared.places.Where.{Where}
use Rattle.wg_lowered.specs.declared.places.Where.TheVariants as place
use Rattle.wg_lowered.specs.declared.places.Space.{Space}
use Rattle.wg_lowered.specs.declared.places.Space.TheVariants as space
use Rattle.wg_lowered.specs.Where.{run, get_op, gets, fetched_at}
use Rattle.wg_lowered.specs.Exprs.{Coded, value_need, value_code}
use Rattle.wg_lowered.specs.Holding.{Agree}
use Rattle.wg_lowered.specs.Holding.{Below}
use Rattle.wg_lowered.proofs.Straight.{Every, below_same, below_then, PutsAll, Puts, each_puts, get_puts, space_words}
use Rattle.wg_lowered.proofs.Registers.{run_reads, run_below, run_length, from_same}
use Rattle.wg_lowered.specs.Where.{variables_end}
use Rattle.wg_lowered.specs.Holding.{Holds}
use Rattle.wg_lowered.proofs.Values.{stored_base, stored_word, fetched_variable, holds_below, InVariable, Stands, RangeBelow, Found, Given, SpotClaim, WordsClaim, then_code, ranged_from, ranged_outside}

-- each of a list
pub every_unit : {A : Type 0} (l : List A) → Every (λ x. Unit {0}) l
every_unit [] = tt
every_unit (x ∷ l) = (tt, every_unit l)

pub every_more : (d e : ℕ) (l : List ℕ) → d ≤ e → Every (λ r. r < d) l → Every (λ r. r < e) l
every_more d e [] le h = tt
every_more d e (r ∷ l) le h = (omega (arith, h.0), every_more d e l le h.1)

pub ranged_same : (sp : Space) (d from to index : ℕ) (f g : Site) → Below d f.registers g.registers → g.shared ≡ f.shared → index < d → RangeBelow sp d to → ranged (space_words sp g) from to (slice_index g.registers index) ≡ ranged (space_words sp f) from to (slice_index f.registers index)
ranged_same space.Group d from to index f g h e lt le = rw (h.kept index lt, e) refl
ranged_same space.Own d from to index f g h e lt le = rw (h.kept index lt) (go (nat_lt (slice_index f.registers index) (to - from)) refl)
  where
    go : (c : Bool) → nat_lt (slice_index f.registers index) (to - from) ≡ c → ranged g.registers from to (slice_index f.registers index) ≡ ranged f.registers from to (slice_index f.registers index)
    go true e =
        let i : slice_index f.registers index < to - from = ltb-true (slice_index f.registers index) (to - from) e in
        rw e (h.kept (from + slice_index f.registers index) (omega (arith, i)))
    go false e = rw e refl

module _ (a : Around) (cs : Callees) (k : Names) (R : ℕ) where
  -- a variable's words
  pub variable_read : (n : ℕ) (sp : Space) (x : Store) (from at : ℕ) (s : State) (f : Site) → Holds k R s f → InVariable k n sp x from at → words_from (space_words sp f) at n ≡ words_from (stored x s) from n
  variable_read n sp x from at s f h v =
      rw v.base (from_same (space_words sp f) (stored x s) (stored_base k x + from) from n (λ j lt.
      let e : stored_base k x + from + j ≡ stored_base k x + (from + j) = omega arith in
      ap (slice_index (space_words sp f)) e ∙ stored_word k R s f sp x (from + j) h v.is_variable (omega (arith, v.inside))))

  -- what each word of a range is
  abbrev pub got : Space → ℕ → ℕ → ℕ → Site → ℕ → ℕ
  got sp from to index f c = ranged (space_words sp f) (from + c) to (slice_index f.registers index)

  pub gets_puts : (sp : Space) (from to index d n : ℕ) (f : Site) (t : ℕ) → index < d → RangeBelow sp d to → d + n < R → length f.registers ≡ R → PutsAll a cs (gets sp from to index d n) d (map (got sp from to index f) (run 0 n)) f t
  gets_puts sp from to index d n f t lt le room count =
      each_puts a cs (get_op sp from to index) (got sp from to index f) d R f.registers f.shared (λ c. Unit {0}) (λ c d' g u ok ge lt' n' h e.
      subst (λ v. Puts a cs (get_op sp from to index c d') d' v g u) (ranged_same sp d (from + c) to index f g h e lt le) (get_puts a cs sp from to index c d' g u (omega (arith, n')))) (run 0 n) (every_unit (run 0 n)) d f t (omega arith) (omega (arith, run_length 0 n)) count (below_same d f.registers) refl

  pub ranged_given : (d to : ℕ) (t : TypeTree) (sp : Space) (from end index : ℕ) (f : Site) (s1 : State) (f1 : Site) (t1 : ℕ) → variables_end k ≤ d → d ≤ to → PutsAll a cs (gets sp from end index to (size k t)) to (map (got sp from end index f1) (run 0 (size k t))) f1 t1 → Holds k R s1 f1 → Below d f.registers f1.registers → (words : List ℕ) → map (got sp from end index f1) (run 0 (size k t)) ≡ words → Agree (Given k R d (to + size k t) (size k t) (run to (size k t)) f) (Done words s1 t1) (ops_do false a cs (gets sp from end index to (size k t)) f1 t1)
  ranged_given d to t sp from end index f s1 f1 t1 le ge x h b words e =
      let n : length (map (got sp from end index f1) (run 0 (size k t))) ≡ size k t = length-map (run 0 (size k t)) (got sp from end index f1) ∙ run_length 0 (size k t) in
      rw x.runs (
        refl,
        record {
          is_through = refl;
          holds = holds_below k R to s1 f1 x.after (omega arith) h x.below;
          below = below_then d to f.registers f1.registers x.after ge b x.below;
          value = subst (λ m. map (slice_index x.after) (run to m) ≡ map (got sp from end index f1) (run 0 (size k t))) n x.holds ∙ e;
          lies = run_below to (size k t) (to + size k t) (omega arith);
          count = run_length to (size k t);
        },
      )

  -- the words of a range, where it holds a value or a variable's words
  pub ranged_words : (n : ℕ) (sp : Space) (from to index : ℕ) (t : TypeTree) (p : Spot) (s : State) (f : Site) → size k t ≡ n → Holds k R s f → Stands k n (place.Ranged sp from to index) p f.registers → map (got sp from to index f) (run 0 n) ≡ fetched k.structs t p s
  ranged_words n space.Own from to index t (spot.Value words) s f e h st = ranged_from a cs k R f.registers from to (slice_index f.registers index) n st.0.inside ∙ st.1
  ranged_words n space.Group from to index t (spot.Value words) s f e h st = absurd st.1
  ranged_words n sp from to index t (spot.At x at) s f e h st = ranged_from a cs k R (space_words sp f) from to (slice_index f.registers index) n st.0.inside ∙ variable_read n sp x at (from + slice_index f.registers index) s f h st.1 ∙ sym (fetched_variable k t sp x at s st.1.is_variable ∙ ap (words_from (stored x s) at) e)
  ranged_words n sp from to index t spot.Nowhere s f e h st = ranged_outside a cs k R (space_words sp f) from to (slice_index f.registers index) n st.1 ∙ ap zeros (sym e)

  -- the words of a place
  pub fetch : (d to : ℕ) (t : TypeTree) (w : Where) (p : Spot) (f : Site) (s1 : State) (f1 : Site) (t1 : ℕ) → variables_end k ≤ d → d ≤ to → to + size k t < R → Found k R d to (size k t) w f p s1 Through f1 → Agree (Given k R d (to + size k t) (size k t) (fetched_at w (size k t) to).at f) (Done (fetched k.structs t p s1) s1 t1) (ops_do false a cs (fetched_at w (size k t) to).ops f1 t1)
  fetch d to t (place.Fixed at) (spot.Value words) f s1 f1 t1 le ge room q = (
    refl,
    record {
      is_through = refl;
      holds = q.holds;
      below = q.below;
      value = run_reads f1.registers at (size k t) ∙ q.stands;
      lies = run_below at (size k t) (to + size k t) (omega (arith, q.lies));
      count = run_length at (size k t);
    },
  )
  fetch d to t (place.Fixed at) (spot.At x from) f s1 f1 t1 le ge room q = (
    refl,
    record {
      is_through = refl;
      holds = q.holds;
      below = q.below;
      value = run_reads f1.registers at (size k t) ∙ variable_read (size k t) space.Own x from at s1 f1 q.holds q.stands ∙ sym (fetched_variable k t space.Own x from s1 q.stands.is_variable);
      lies = run_below at (size k t) (to + size k t) (omega (arith, q.lies));
      count = run_length at (size k t);
    },
  )
  fetch d to t (place.Fixed at) spot.Nowhere f s1 f1 t1 le ge room q = absurd q.stands
  fetch d to t (place.Held registers) (spot.Value words) f s1 f1 t1 le ge room q = (
    refl,
    record {
      is_through = refl;
      holds = q.holds;
      below = q.below;
      value = q.stands.0;
      lies = every_more to (to + size k t) registers (omega arith) q.lies;
      count = q.stands.1;
    },
  )
  fetch d to t (place.Held registers) (spot.At x from) f s1 f1 t1 le ge room q = absurd q.stands
  fetch d to t (place.Held registers) spot.Nowhere f s1 f1 t1 le ge room q = absurd q.stands
  fetch d to t (place.Ranged sp from end index) p f s1 f1 t1 le ge room q =
      let x = gets_puts sp from end index to (size k t) f1 t1 q.lies.0 q.lies.1 room q.holds.count in
      ranged_given d to t sp from end index f s1 f1 t1 le ge x q.holds q.below (fetched k.structs t p s1) (ranged_words (size k t) sp from end index t p s1 f1 refl q.holds q.stands)

  -- a value, where a place is right
  pub value_claim : (m : Seen) (c : Coded) → c.of ≡ m.of → SpotClaim a cs k R m.spot c.spot c.need (size k m.of) → WordsClaim a cs k R (value_of k.structs m) (value_code k c) (value_need k c) (size k m.of)
  value_claim m c same claim d s f t le room h =
      let sizes : size k c.of ≡ size k m.of = ap (size k) same in
      rw same (then_code a cs k R (Found k R d (d + c.need) (size k m.of) (c.spot d).at f) (Given k R d (d + (c.need + size k m.of)) (size k m.of) (fetched_at (c.spot d).at (size k m.of) (d + c.need)).at f) (m.spot s t) (c.spot d).ops (fetched_at (c.spot d).at (size k m.of) (d + c.need)).ops f t (λ p. read (fetched k.structs m.of p)) (λ v s e f q. q.is_through) (claim d s f t le (omega (arith, sizes)) h) (λ p s1 f1 t1 q.
      let e : d + c.need + size k m.of ≡ d + (c.need + size k m.of) = omega arith in
      subst (λ z. Agree (Given k R d z (size k m.of) (fetched_at (c.spot d).at (size k m.of) (d + c.need)).at f) (Done (fetched k.structs m.of p s1) s1 t1) (ops_do false a cs (fetched_at (c.spot d).at (size k m.of) (d + c.need)).ops f1 t1)) e (fetch d (d + c.need) m.of (c.spot d).at p f s1 f1 t1 le (omega arith) (omega (arith, sizes)) q)))
