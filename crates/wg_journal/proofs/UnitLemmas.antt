-- No two units of a good shape have one text.
use Rattle.std.proofs.Common.{◌≡◌, ◌≢◌, ◌⊎◌, ℕ, zero, suc, ◌+◌, ◌-◌, ◌%◌, ◌^◌, ◌≤◌, ◌<◌, Bool, true, false, List, [], ◌∷◌, ◌++◌, length, map, Some, refl, sym, ap, subst, ◌∙◌, append_assoc, arith, inl, inr, ⊎_elim}
use Rattle.std.specs.Prelude.{◌==◌, ◌&&◌, ◌||◌, IsTrue, slice_get, codes, if◌then◌else◌}
use Rattle.std.specs.List.{list_all}
use Rattle.std.specs.Fmt.{decimal}
use Rattle.std.proofs.lemmas.Fmt.{decimal_injective, decimal_by_steps}
use Rattle.std.proofs.lemmas.Bool.Decides.{nat_tests}
use Rattle.wg_words.specs.Each.{Each}
use Rattle.wg_machine.specs.declared.shape.Shape.{Shape}
use Rattle.wg_machine.specs.declared.shape.Unit.{Unit}
use Rattle.wg_machine.specs.declared.shape.NodeName.{NodeName}
use Rattle.wg_machine.specs.GoodShape.{IsGoodShape}
use Rattle.wg_words.specs.Characters.{is_letter, is_digit, is_identifier}
use Rattle.wg_machine.specs.Unrolling.{levels, unrolled, node_and_level}
use Rattle.wg_journal.specs.Names.{index_at}
use Rattle.wg_journal.specs.Texts.{unit_text, unit_label}
use Rattle.wg_journal.proofs.FieldLemmas.{some_is}
use Rattle.wg_journal.proofs.NumberLemmas.{Visible, visible_append, visible_decimal}

-- ---- the place of a node's level among the units

pub place : ℕ → List ℕ → ℕ → ℕ → ℕ
place n [] m level = 0
place n (d ∷ depths) m level = if m == n then d - level else (d + 1) + place (n + 1) depths m level

-- what an index of a node's levels and the rest finds
record Finds (n d : ℕ) (rest : List (ℕ × ℕ)) (u m level : ℕ) : Type 0 where
  here : ((m ≡ n) × (u + level ≡ d)) ⊎ ((v : ℕ) × (u ≡ d + 1 + v) × (slice_get rest v ≡ Some (m, level)))

in_levels : (n d : ℕ) (rest : List (ℕ × ℕ)) (u m level : ℕ) → slice_get (levels n d ++ rest) u ≡ Some (m, level) → Finds n d rest u m level
in_levels n zero rest zero m level e =
    let same = some_is (n, 0) (m, level) e in
    let q : 0 ≡ level = ap (λ (p : ℕ × ℕ). p.1) same in
    record { here = inl (sym (ap (λ (p : ℕ × ℕ). p.0) same), omega arith) }
in_levels n zero rest (suc u) m level e = record { here = inr (u, omega arith, e) }
in_levels n (suc d) rest zero m level e =
    let same = some_is (n, suc d) (m, level) e in
    let q : suc d ≡ level = ap (λ (p : ℕ × ℕ). p.1) same in
    record { here = inl (sym (ap (λ (p : ℕ × ℕ). p.0) same), omega arith) }
in_levels n (suc d) rest (suc u) m level e =
    let h = in_levels n d rest u m level e in
    record { here = ⊎_elim (λ p. inl (p.0, omega (arith, p.1))) (λ p. inr (p.0, omega (arith, p.1), p.2)) h.here }

pub record IsAt (n : ℕ) (depths : List ℕ) (u m level : ℕ) : Type 0 where
  pub low : n ≤ m
  pub high : m < n + length depths
  pub level_few : level ≤ 31
  pub placed : u ≡ place n depths m level

pub at_place : (n : ℕ) (depths : List ℕ) (u m level : ℕ) → Each (λ d. d ≤ 31) depths → slice_get (unrolled n depths) u ≡ Some (m, level) → IsAt n depths u m level
unfolding place
at_place n [] u m level few e = absurd cc
at_place n (d ∷ depths) u m level few e = ⊎_elim own (later (λ v h. at_place (n + 1) depths v m level few.1 h)) (in_levels n d (unrolled (n + 1) depths) u m level e).here
  where
    own : (m ≡ n) × (u + level ≡ d) → IsAt n (d ∷ depths) u m level
    own p =
        let test : (m == n) ≡ true = grind (arith, nat_tests, p.0) in
        let is : d - level ≡ u = omega (arith, p.1) in
        record { low = omega (arith, p.0); high = omega (arith, p.0); level_few = omega (arith, p.1, few.0); placed = rw test (sym is) }

    later : ((v : ℕ) → slice_get (unrolled (n + 1) depths) v ≡ Some (m, level) → IsAt (n + 1) depths v m level) → ((v : ℕ) × (u ≡ d + 1 + v) × (slice_get (unrolled (n + 1) depths) v ≡ Some (m, level))) → IsAt n (d ∷ depths) u m level
    later ih p =
        let h = ih p.0 p.2 in
        let low = h.low in
        let high = h.high in
        let test : (m == n) ≡ false = grind (arith, nat_tests) in
        record { low = omega arith; high = omega arith; level_few = h.level_few; placed = rw test (omega (arith, p.1, h.placed)) }

-- ---- what stands before the first `[`

named_byte : (c : ℕ) → (is_letter c || is_digit c) ≡ true → (33 ≤ c) × (c ≢ 91)
named_byte c h = (grind (arith, nat_tests), λ e. grind (arith, nat_tests))

letter_named : (c : ℕ) → is_letter c ≡ true → (is_letter c || is_digit c) ≡ true
letter_named c h = rw h refl

all_named : (name : List ℕ) → list_all (λ b. is_letter b || is_digit b) name ≡ true → Each (λ c. (33 ≤ c) × (c ≢ 91)) name
all_named [] h = tt
all_named (c ∷ name) h = choice (λ k. all_named name k) (is_letter c || is_digit c) refl h
  where
    choice : (list_all (λ b. is_letter b || is_digit b) name ≡ true → Each (λ c. (33 ≤ c) × (c ≢ 91)) name) → (b : Bool) → (is_letter c || is_digit c) ≡ b → (b && list_all (λ b. is_letter b || is_digit b) name) ≡ true → ((33 ≤ c) × (c ≢ 91)) × Each (λ c. (33 ≤ c) × (c ≢ 91)) name
    choice ih true t h = (named_byte c t, ih h)
    choice ih false t h = absurd cc

pub identifier_named : (name : List ℕ) → IsTrue (is_identifier name) → Each (λ c. (33 ≤ c) × (c ≢ 91)) name
identifier_named [] h = tt
identifier_named (c ∷ name) h = choice (is_letter c) refl h
  where
    choice : (b : Bool) → is_letter c ≡ b → (b && list_all (λ b. is_letter b || is_digit b) name) ≡ true → ((33 ≤ c) × (c ≢ 91)) × Each (λ c. (33 ≤ c) × (c ≢ 91)) name
    choice true t h = (named_byte c (letter_named c t), all_named name h)
    choice false t h = absurd cc

pub visible_named : (name : List ℕ) → Each (λ c. (33 ≤ c) × (c ≢ 91)) name → Visible name
visible_named [] h = tt
visible_named (c ∷ name) h = (h.0.0, visible_named name h.1)

-- two texts that begin with a part without a byte, and then have it, have one first part
pub parted : (sep : ℕ) (a b x y : List ℕ) → Each (λ c. c ≢ sep) a → Each (λ c. c ≢ sep) b → a ++ sep ∷ x ≡ b ++ sep ∷ y → (a ≡ b) × (x ≡ y)
parted sep [] [] x y p q e = (refl, cc)
parted sep [] (d ∷ b) x y p q e = absurd (q.0 cc)
parted sep (c ∷ a) [] x y p q e = absurd (p.0 cc)
parted sep (c ∷ a) (d ∷ b) x y p q e =
    let h : c ≡ d = cc in
    let r = parted sep a b x y p.1 q.1 cc in
    (rw (h, r.0) refl, r.1)

no_bracket : (name : List ℕ) → Each (λ c. (33 ≤ c) × (c ≢ 91)) name → Each (λ c. c ≢ 91) name
no_bracket [] h = tt
no_bracket (c ∷ name) h = (h.0.1, no_bracket name h.1)

HasNoClose : ℕ → List ℕ → Type 0
HasNoClose n ds = Each (λ c. c ≢ 93) ds

digits_append : (a b : List ℕ) → Each (λ c. c ≢ 93) a → Each (λ c. c ≢ 93) b → Each (λ c. c ≢ 93) (a ++ b)
digits_append [] b p q = q
digits_append (c ∷ a) b p q = (p.0, digits_append a b p.1 q)

no_close : (n : ℕ) → n < 2 ^ 64 → Each (λ c. c ≢ 93) (decimal n)
unfolding HasNoClose
no_close n fits = decimal_by_steps HasNoClose (λ n h. (λ e. omega arith, tt)) (λ n ds h p. digits_append ds ((48 + n % 10) ∷ []) p (λ e. omega arith, tt)) n fits

-- a unit's text tells its name, index and level
pub unit_text_tells : (a b : List ℕ) (i j k l : ℕ) → IsTrue (is_identifier a) → IsTrue (is_identifier b) → i < 2 ^ 64 → j < 2 ^ 64 → k < 2 ^ 64 → l < 2 ^ 64 → unit_text a i k ≡ unit_text b j l → (a ≡ b) × (i ≡ j) × (k ≡ l)
unit_text_tells a b i j k l p q fi fj fk fl e =
    let regroup : (n : List ℕ) (x y : List ℕ) → n ++ codes "[" ++ x ++ codes "]@" ++ y ≡ n ++ 91 ∷ (x ++ 93 ∷ (64 ∷ y)) = λ n x y. simp append_assoc in
    let first = parted 91 a b _ _ (no_bracket a (identifier_named a p)) (no_bracket b (identifier_named b q)) (sym (regroup a (decimal i) (decimal k)) ∙ (e ∙ regroup b (decimal j) (decimal l))) in
    let second = parted 93 (decimal i) (decimal j) _ _ (no_close i fi) (no_close j fj) first.1 in
    let third : decimal k ≡ decimal l = cc (second.1) in
    (first.0, decimal_injective i j fi fj second.0, decimal_injective k l fk fl third)

pub visible_unit_text : (name : List ℕ) (index level : ℕ) → IsTrue (is_identifier name) → index < 2 ^ 64 → level < 2 ^ 64 → Visible (unit_text name index level)
visible_unit_text name index level h f g =
    visible_append (name ++ codes "[" ++ decimal index ++ codes "]@") (decimal level)
    (visible_append (name ++ codes "[" ++ decimal index) (codes "]@") (visible_append (name ++ codes "[") (decimal index) (visible_append name (codes "[") (visible_named name (identifier_named name h)) (omega arith, tt)) (visible_decimal index f)) (omega arith, (omega arith, tt)))
    (visible_decimal level g)

-- ---- the units of a good shape

there : {X : Type 0} (xs : List X) (k : ℕ) → k < length xs → (x : X) × (slice_get xs k ≡ Some x)
there [] k h = absurd (omega arith)
there (x ∷ xs) zero h = (x, refl)
there (x ∷ xs) (suc k) h = there xs k (omega arith)

get_map : {X Y : Type 0} (f : X → Y) (xs : List X) (k : ℕ) (x : X) → slice_get xs k ≡ Some x → slice_get (map f xs) k ≡ Some (f x)
get_map f [] k x e = absurd cc
get_map f (y ∷ xs) zero x e = ap (λ z. Some (f z)) (some_is y x e)
get_map f (y ∷ xs) (suc k) x e = get_map f xs k x e

each_at : {X : Type 0} (P : X → Type 0) (xs : List X) (k : ℕ) (x : X) → Each P xs → slice_get xs k ≡ Some x → P x
each_at P [] k x h e = absurd cc
each_at P (y ∷ xs) zero x h e = subst P (some_is y x e) h.0
each_at P (y ∷ xs) (suc k) x h e = each_at P xs k x h.1 e

-- a unit's node and level, and where it stands
pub record HasUnit (shape : Shape) (good : IsGoodShape shape) (u : ℕ) : Type 0 where
  pub unit : Unit
  pub name : NodeName
  pub unit_is : slice_get shape.units u ≡ Some unit
  pub name_is : slice_get shape.nodes unit.node ≡ Some name
  pub identifier : IsTrue (is_identifier name.name)
  pub level_few : unit.level ≤ 31
  pub placed : u ≡ place 0 good.unrolling.depths unit.node unit.level
  pub text : unit_label shape u ≡ unit_text name.name name.index unit.level
  pub index : index_at shape u ≡ name.index

pub has_unit : (shape : Shape) (good : IsGoodShape shape) (u : ℕ) → u < length shape.units → HasUnit shape good u
has_unit shape good u h =
    let n = there shape.units u h in
    let un = good.unrolling in
    let pair = get_map node_and_level shape.units u n.0 n.1 in
    let at = at_place 0 un.depths u n.0.node n.0.level un.few (ap (λ (l : List (ℕ × ℕ)). slice_get l u) (sym un.units) ∙ pair) in
    let high = at.high in
    let count = un.count in
    let m = there shape.nodes n.0.node (omega arith) in
    record {
      unit = n.0;
      name = m.0;
      unit_is = n.1;
      name_is = m.1;
      identifier = each_at (λ (k : NodeName). IsTrue (is_identifier k.name)) shape.nodes n.0.node m.0 good.node_names m.1;
      level_few = at.level_few;
      placed = at.placed;
      text = rw (n.1, m.1) refl;
      index = rw (n.1, m.1) refl;
    }

pub one_unit : (shape : Shape) (good : IsGoodShape shape) (u v : ℕ) → u < length shape.units → v < length shape.units → index_at shape u < 2 ^ 64 → index_at shape v < 2 ^ 64 → unit_label shape u ≡ unit_label shape v → u ≡ v
one_unit shape good u v hu hv fu fv e =
    let a = has_unit shape good u hu in
    let b = has_unit shape good v hv in
    let i = a.index in
    let j = b.index in
    let la = a.level_few in
    let lb = b.level_few in
    let tells = unit_text_tells a.name.name b.name.name a.name.index b.name.index a.unit.level b.unit.level a.identifier b.identifier (omega arith) (omega arith) (omega arith) (omega arith) (sym a.text ∙ (e ∙ b.text)) in
    let t0 = tells.0 in
    let t1 = tells.1 in
    let same : a.name ≡ b.name = ap (λ (n : List ℕ). record { name = n; index = a.name.index }) t0 ∙ ap (λ (k : ℕ). record { name = b.name.name; index = k }) t1 in
    let node : a.unit.node ≡ b.unit.node = good.nodes_differ a.unit.node b.unit.node a.name a.name_is (b.name_is ∙ ap (λ (n : NodeName). Some n) (sym same)) in
    a.placed ∙ (ap (λ (n : ℕ). place 0 good.unrolling.depths n a.unit.level) node ∙ (ap (λ (l : ℕ). place 0 good.unrolling.depths b.unit.node l) tells.2 ∙ sym b.placed))

pub visible_unit : (shape : Shape) (good : IsGoodShape shape) (u : ℕ) → u < length shape.units → index_at shape u < 2 ^ 64 → Visible (unit_label shape u)
visible_unit shape good u h f =
    let a = has_unit shape good u h in
    let i = a.index in
    let l = a.level_few in
    subst Visible (sym a.text) (visible_unit_text a.name.name a.name.index a.unit.level a.identifier (omega arith) (omega arith))
