-- The code of each kind of expression does what the kind means.
use Rattle.std.proofs.Common.{◌≡◌, ℕ, ◌+◌, ◌*◌, ◌<◌, ◌≤◌, List, [], ◌∷◌, ◌++◌, map, length, Bool, false, refl, sym, ap, ◌∙◌, subst, arith}
use Rattle.std.proofs.lemmas.Bool.{ltb-true, eqb-true, leb-true}
use Rattle.std.specs.Prelude.{slice_index, IsTrue, ◌&&◌, nat_lt, nat_le, nat_eq}
use Rattle.wg_state.specs.Turns.{Ending, Spent, Done, Action, and_then, pure}
use Rattle.wg_typed.specs.Layout.{field_range}
use Rattle.wg_semantics.specs.Places.{Setting, part_at, element_at, array_size}
use Rattle.wg_semantics.specs.Calls.{Seen, value_of}
use Rattle.wg_semantics.specs.ExprMeaning.{Follows, Linked, word_of, indexed, followed}
use Rattle.wg_semantics.specs.declared.state.State.{State}
use Rattle.wg_semantics.specs.declared.state.Spot.{Spot}
use Rattle.wg_typed.specs.declared.types.TypeTree.{TypeTree}
use Rattle.wg_code.specs.Lane.{Around, Site, Exit}
use Rattle.wg_code.specs.Flow.{Callees}
use Rattle.wg_code.specs.OpMeaning.{ops_do}
use Rattle.wg_code.specs.declared.op.Op.{Op}
use Rattle.wg_lowered.specs.Where.{Names, size}
use Rattle.wg_lowered.specs.Fits.{Fitting, Typing, all_fit, is_part}
use Rattle.wg_lowered.specs.declared.places.Where.{Where}
use Rattle.wg_lowered.specs.declared.places.Where.TheVariants as place
use Rattle.wg_lowered.specs.Where.{part_of}
use Rattle.wg_lowered.specs.Exprs.{Coded, Formed, Joined, Kinded, value_code, value_need, element_code, indexed_code, first_of, forms_need, forms_code}
use Rattle.wg_lowered.specs.Holding.{Agree}
use Rattle.wg_lowered.proofs.Ops.{agree_so}
use Rattle.wg_lowered.specs.Holding.{Below}
use Rattle.wg_lowered.proofs.Straight.{Every, below_same, below_then, Straight}
use Rattle.wg_lowered.proofs.Registers.{and_left, and_right}
use Rattle.wg_lowered.specs.Where.{variables_end}
use Rattle.wg_lowered.specs.Holding.{Holds}
use Rattle.wg_lowered.proofs.Values.{holds_below, Stands, LiesBelow, range_more, Found, Given, SpotClaim, WordsClaim, then_code}
use Rattle.wg_lowered.proofs.Fetches.{value_claim, every_more}
use Rattle.wg_lowered.proofs.Parts.{part_stands, part_lies, stands_same}
use Rattle.wg_lowered.proofs.Elements.{element_leaves}

-- places whose registers are below a greater number
pub lies_more : (d e n : ℕ) (w : Where) → d ≤ e → LiesBelow d n w → LiesBelow e n w
lies_more d e n (place.Fixed at) le h = omega (arith, h)
lies_more d e n (place.Held rs) le h = every_more d e rs le h
lies_more d e n (place.Ranged sp from to index) le h = (omega (arith, h.0), range_more sp d e to le h.1)

-- the one word of a list of one register
pub only_word : (g : ℕ → ℕ) (at ws : List ℕ) → length at ≡ 1 → map g at ≡ ws → (g (slice_index at 0) ≡ slice_index ws 0) × (length ws ≡ 1)
only_word g [] ws n e = absurd (let h : ⊥ = omega arith in h)
only_word g (r ∷ []) ws n e = (ap (λ l. slice_index l 0) e, ap length (sym e))
only_word g (r ∷ x ∷ at) ws n e = absurd (let h : ⊥ = omega arith in h)

pub first_below : (d : ℕ) (at : List ℕ) → length at ≡ 1 → Every (λ r. r < d) at → slice_index at 0 < d
first_below d [] n h = absurd (let h : ⊥ = omega arith in h)
first_below d (r ∷ at) n h = h.0

pub one_word : (ws : List ℕ) → length ws ≡ 1 → ws ≡ slice_index ws 0 ∷ []
one_word [] n = absurd (let h : ⊥ = omega arith in h)
one_word (w ∷ []) n = refl
one_word (w ∷ x ∷ ws) n = absurd (let h : ⊥ = omega arith in h)

module _ (a : Around) (cs : Callees) (setting : Setting) (vs gs : List ℕ) (R : ℕ) where
  abbrev pub K : Names
  K = record { structs = setting.structs; variables = vs; shared = gs }

  pub record ExprGood (m : Seen) (c : Coded) (w : Typing) : Type 0 where
    pub c_of : c.of ≡ m.of
    pub w_of : w.of ≡ m.of
    pub claim : IsTrue w.fits → SpotClaim a cs K R m.spot c.spot c.need (size K m.of)

  pub record FormGood (m : Follows) (c : Formed) (w : Fitting) : Type 0 where
    pub c_of : c.of ≡ m.of
    pub w_of : w.of ≡ m.of
    pub claim : (t : TypeTree) (d : ℕ) (p : Spot) (wh : Where) (s : State) (f : Site) (tu : ℕ) → IsTrue (w.fits t) → variables_end K ≤ d → d + c.need t < R → Holds K R s f → Stands K (size K t) wh p f.registers → LiesBelow d (size K t) wh → Agree (Found K R d (d + c.need t) (size K m.of) (c.after t wh d).at f) (m.after t p s tu) (ops_do false a cs (c.after t wh d).ops f tu)

  pub record LinkGood (m : Linked) (c : Joined) (w : Fitting) : Type 0 where
    pub c_of : c.of ≡ m.of
    pub w_of : w.of ≡ m.of
    pub claim : (t : TypeTree) (d : ℕ) (at ws : List ℕ) (s : State) (f : Site) (tu : ℕ) → IsTrue (w.fits t) → variables_end K ≤ d → d + c.need t < R → Holds K R s f → map (slice_index f.registers) at ≡ ws → Every (λ r. r < d) at → length at ≡ size K t → Agree (Given K R d (d + c.need t) (size K m.of) (c.after t at d).at f) (m.next t ws s tu) (ops_do false a cs (c.after t at d).ops f tu)

  abbrev pub KindGood : (TypeTree → Action State Spot) → (TypeTree → Kinded) → (TypeTree → Bool) → Type 0
  KindGood m c w = (t : TypeTree) → IsTrue (w t) → SpotClaim a cs K R (m t) (c t).spot (c t).need (size K t)

  -- ---- the value of a part

  pub part_value : (m : Seen) (c : Coded) (w : Typing) → ExprGood m c w → IsTrue w.fits → WordsClaim a cs K R (value_of setting.structs m) (value_code K c) (value_need K c) (size K m.of)
  part_value m c w g ok = value_claim a cs K R m c g.c_of (g.claim ok)

  -- the word of a part, and then more code
  pub word_then : {A : Type 0} (Q : A → State → Exit → Site → Type 0) (m : Seen) (c : Coded) (w : Typing) (rest : List Op) (d : ℕ) (s : State) (f : Site) (t : ℕ) (g : ℕ → Action State A) → ExprGood m c w → IsTrue w.fits → size K m.of ≡ 1 → variables_end K ≤ d → d + value_need K c < R → Holds K R s f → ((v : ℕ) (s' : State) (f' : Site) (t' : ℕ) → Holds K R s' f' → Below d f.registers f'.registers → slice_index f'.registers (first_of (value_code K c d).at) ≡ v → first_of (value_code K c d).at < d + value_need K c → Agree Q (g v s' t') (ops_do false a cs rest f' t')) → Agree Q (and_then (value_of setting.structs m s t) (λ ws. g (slice_index ws 0))) (ops_do false a cs ((value_code K c d).ops ++ rest) f t)
  word_then Q m c w rest d s f t g good ok one le room h next =
      then_code a cs K R (Given K R d (d + value_need K c) (size K m.of) (value_code K c d).at f) Q (value_of setting.structs m s t) (value_code K c d).ops rest f t (λ ws. g (slice_index ws 0)) (λ v s e f q. q.is_through) (part_value m c w good ok d s f t le room h) (λ ws s1 f1 t1 q.
      let n : length (value_code K c d).at ≡ 1 = q.count ∙ one in
      let v = only_word (slice_index f1.registers) (value_code K c d).at ws n q.value in
      next (slice_index ws 0) s1 f1 t1 q.holds q.below v.0 (first_below (d + value_need K c) (value_code K c d).at n q.lies))

  flat_word : {A : Type 0} (p : Ending State (List ℕ)) (g : ℕ → Action State A) → and_then (and_then p (λ ws. pure (slice_index ws 0))) g ≡ and_then p (λ ws. g (slice_index ws 0))
  flat_word Spent g = refl
  flat_word (Done ws s t) g = refl

  pub word_of_then : {A : Type 0} (Q : A → State → Exit → Site → Type 0) (m : Seen) (c : Coded) (w : Typing) (rest : List Op) (d : ℕ) (s : State) (f : Site) (t : ℕ) (g : ℕ → Action State A) → ExprGood m c w → IsTrue w.fits → size K m.of ≡ 1 → variables_end K ≤ d → d + value_need K c < R → Holds K R s f → ((v : ℕ) (s' : State) (f' : Site) (t' : ℕ) → Holds K R s' f' → Below d f.registers f'.registers → slice_index f'.registers (first_of (value_code K c d).at) ≡ v → first_of (value_code K c d).at < d + value_need K c → Agree Q (g v s' t') (ops_do false a cs rest f' t')) → Agree Q (and_then (word_of setting m s t) g) (ops_do false a cs ((value_code K c d).ops ++ rest) f t)
  word_of_then {A} Q m c w rest d s f t g good ok one le room h next =
      subst (λ z. Agree Q z (ops_do false a cs ((value_code K c d).ops ++ rest) f t)) (sym (flat_word (value_of setting.structs m s t) g)) (word_then Q m c w rest d s f t g good ok one le room h next)

  -- straight code after which a place stands
  pub straight_found : (d to n : ℕ) (w : Where) (p : Spot) (ops : List Op) (s : State) (f g : Site) (t : ℕ) (e : ℕ) → variables_end K ≤ d → d ≤ e → Holds K R s g → Below d f.registers g.registers → Straight a cs ops e g t (λ after. Stands K n w p after × LiesBelow to n w) → Agree (Found K R d to n w f) (Done p s t) (ops_do false a cs ops g t)
  straight_found d to n w p ops s f g t e le ge h b x = rw x.runs (
    refl,
    record {
      is_through = refl;
      holds = holds_below K R e s g x.after (omega arith) h x.below;
      below = below_then d e f.registers g.registers x.after ge b x.below;
      stands = x.holds.0;
      lies = x.holds.1;
    },
  )

  -- ---- forms

  pub field_good : (field : ℕ) (of : TypeTree) → FormGood (record { of = of; after = λ t p. pure (part_at (field_range setting.structs t field) p) }) (record { of = of; need = λ t. 0; after = λ t w d. record { ops = []; at = part_of (field_range setting.structs t field) w } }) (record { of = of; fits = λ t. is_part (field_range setting.structs t field) (size K t) (size K of) })
  field_good field of = record {
    c_of = refl;
    w_of = refl;
    claim = λ t d p wh s f tu w le room h st l.
        let e = eqb-true ((field_range setting.structs t field).from + size K of) (field_range setting.structs t field).to (and_right (nat_le (field_range setting.structs t field).to (size K t)) _ w) in
        let i = leb-true (field_range setting.structs t field).to (size K t) (and_left _ _ w) in (
          refl,
          record {
            is_through = refl;
            holds = h;
            below = below_same d f.registers;
            stands = part_stands K (size K t) (size K of) (field_range setting.structs t field) wh p f.registers e i st;
            lies = lies_more d (d + 0) (size K of) (part_of (field_range setting.structs t field) wh) (omega arith) (part_lies d (size K t) (size K of) (field_range setting.structs t field) wh e i l);
          },
        );
  }

  pub index_good : (mi : Seen) (ci : Coded) (wi : Typing) (of : TypeTree) → ExprGood mi ci wi → FormGood (record { of = of; after = indexed setting mi of }) (record { of = of; need = λ t. value_need K ci + (1 + size K t); after = indexed_code K ci of }) (record { of = of; fits = λ t. (wi.fits && nat_eq (size K wi.of) 1) && (nat_eq (size K t) (array_size t * size K of) && (nat_lt 0 (array_size t) && nat_le (size K t) 8192)) })
  index_good mi ci wi of g = record {
    c_of = refl;
    w_of = refl;
    claim = λ t d p wh s f tu w le room h st l.
        let w1 = and_left (wi.fits && nat_eq (size K wi.of) 1) _ w in
        let w2 = and_right (wi.fits && nat_eq (size K wi.of) 1) _ w in
        let one : size K mi.of ≡ 1 = ap (size K) (sym g.w_of) ∙ eqb-true (size K wi.of) 1 (and_right wi.fits _ w1) in
        let whole : size K t ≡ array_size t * size K of = eqb-true (size K t) (array_size t * size K of) (and_left _ _ w2) in
        let some = ltb-true 0 (array_size t) (and_left _ _ (and_right (nat_eq (size K t) (array_size t * size K of)) _ w2)) in
        let small = leb-true (size K t) 8192 (and_right (nat_lt 0 (array_size t)) _ (and_right (nat_eq (size K t) (array_size t * size K of)) _ w2)) in
        let d' = d + value_need K ci in
        let to = d + (value_need K ci + (1 + size K t)) in
        let q = first_of (value_code K ci d).at in
        let code = element_code (array_size t) (size K of) wh q d' in
        word_of_then (Found K R d to (size K of) code.at f) mi ci wi code.ops d s f tu (λ v. pure (element_at (array_size t) (size K of) v p)) g (and_left _ _ w1) one le (omega arith) h (λ v s1 f1 t1 h1 b1 e1 q1.
        let st1 : Stands K (array_size t * size K of) wh p f1.registers = subst (λ n. Stands K n wh p f1.registers) whole (stands_same a cs K d (size K t) wh p f.registers f1.registers l b1 st) in
        let l1 : LiesBelow d' (array_size t * size K of) wh = lies_more d d' (array_size t * size K of) wh (omega arith) (subst (λ n. LiesBelow d n wh) whole l) in
        let x = element_leaves a cs K R (array_size t) (size K of) wh p q d' v f1 t1 (omega arith) some (omega (arith, small, whole)) q1 (omega (arith, whole)) h1.count e1 l1 st1 in
        let z : d' + (array_size t * size K of + 1) ≡ to = omega (arith, whole) in
        straight_found d to (size K of) code.at (element_at (array_size t) (size K of) v p) code.ops s1 f f1 t1 d' le (omega arith) h1 b1 (subst (λ z. Straight a cs code.ops d' f1 t1 (λ after. Stands K (size K of) code.at (element_at (array_size t) (size K of) v p) after × LiesBelow z (size K of) code.at)) z x));
  }

  pub forms_good : {F B : Type 0} (pr : B → F) (m : F → Follows) (c : F → Formed) (w : F → Fitting) (each : (x : B) → FormGood (m (pr x)) (c (pr x)) (w (pr x))) (xs : List B) (t to : TypeTree) (d : ℕ) (p : Spot) (wh : Where) (s : State) (f : Site) (tu : ℕ) → IsTrue (all_fit K (map w (map pr xs)) t to) → variables_end K ≤ d → d + forms_need (map c (map pr xs)) t < R → Holds K R s f → Stands K (size K t) wh p f.registers → LiesBelow d (size K t) wh → Agree (Found K R d (d + forms_need (map c (map pr xs)) t) (size K to) (forms_code (map c (map pr xs)) t wh d).at f) (followed (map m (map pr xs)) t p s tu) (ops_do false a cs (forms_code (map c (map pr xs)) t wh d).ops f tu)
  forms_good pr m c w each [] t to d p wh s f tu ok le room h st l =
      let e : size K t ≡ size K to = eqb-true (size K t) (size K to) ok in
      (refl, record { is_through = refl; holds = h; below = below_same d f.registers; stands = subst (λ n. Stands K n wh p f.registers) e st; lies = lies_more d (d + 0) (size K to) wh (omega arith) (subst (λ n. LiesBelow d n wh) e l) })
  forms_good pr m c w each (x ∷ xs) t to d p wh s f tu ok le room h st l =
      let g = each x in
      let P : TypeTree → Type 0 = λ u. IsTrue (all_fit K (map w (map pr xs)) u to) in
      let ok2 : IsTrue (all_fit K (map w (map pr xs)) (m (pr x)).of to) = subst P g.w_of (and_right ((w (pr x)).fits t) _ ok) in
      let n1 = (c (pr x)).need t in
      let code1 = (c (pr x)).after t wh d in
      let Goal : TypeTree → Type 0 = λ u. d + (n1 + forms_need (map c (map pr xs)) u) < R → Agree (Found K R d (d + (n1 + forms_need (map c (map pr xs)) u)) (size K to) (forms_code (map c (map pr xs)) u code1.at (d + n1)).at f) (and_then ((m (pr x)).after t p s tu) (followed (map m (map pr xs)) (m (pr x)).of)) (ops_do false a cs (code1.ops ++ (forms_code (map c (map pr xs)) u code1.at (d + n1)).ops) f tu) in
      subst Goal (sym g.c_of) (λ room.
      then_code a cs K R (Found K R d (d + n1) (size K (m (pr x)).of) code1.at f) (Found K R d (d + (n1 + forms_need (map c (map pr xs)) (m (pr x)).of)) (size K to) (forms_code (map c (map pr xs)) (m (pr x)).of code1.at (d + n1)).at f) ((m (pr x)).after t p s tu) code1.ops (forms_code (map c (map pr xs)) (m (pr x)).of code1.at (d + n1)).ops f tu (followed (map m (map pr xs)) (m (pr x)).of) (λ v s e f q. q.is_through) (g.claim t d p wh s f tu (and_left _ _ ok) le (omega arith) h st l) (λ p1 s1 f1 t1 q.
      let z : d + n1 + forms_need (map c (map pr xs)) (m (pr x)).of ≡ d + (n1 + forms_need (map c (map pr xs)) (m (pr x)).of) = omega arith in
      agree_so (Found K R (d + n1) (d + n1 + forms_need (map c (map pr xs)) (m (pr x)).of) (size K to) (forms_code (map c (map pr xs)) (m (pr x)).of code1.at (d + n1)).at f1) (Found K R d (d + (n1 + forms_need (map c (map pr xs)) (m (pr x)).of)) (size K to) (forms_code (map c (map pr xs)) (m (pr x)).of code1.at (d + n1)).at f) _ _ (forms_good pr m c w each xs (m (pr x)).of to (d + n1) p1 code1.at s1 f1 t1 ok2 (omega arith) (omega arith) q.holds q.stands q.lies) (λ v s2 e f2 y. record { is_through = y.is_through; holds = y.holds; below = below_then d (d + n1) f.registers f1.registers f2.registers (omega arith) q.below y.below; stands = y.stands; lies = lies_more (d + n1 + forms_need (map c (map pr xs)) (m (pr x)).of) _ (size K to) _ (omega arith) y.lies }))) room
