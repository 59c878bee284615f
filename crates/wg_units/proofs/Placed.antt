-- To which unit an element sends.
use Rattle.std.proofs.Common.{◌≡◌, ◌≢◌, ℕ, zero, suc, ◌+◌, ◌-◌, ◌<◌, ◌≤◌, ◌==◌, List, [], ◌∷◌, ◌++◌, length, take, get_or, refl, sym, ap, subst, subst₂, ◌∙◌, arith, eq-eqb, ne_eqb, Option, Some, None, slice_get, unwrap_or}
use Rattle.std.specs.List.{AllZip}
use Rattle.std.proofs.lemmas.Bool.{cond-true, cond-false}
use Rattle.std.proofs.lemmas.List.{take_more}
use Rattle.std.proofs.lemmas.Option.{slice_get-get_or}
use Rattle.wg_words.specs.Each.{Each}
use Rattle.wg_machine.specs.Unrolling.{unrolled}
use Rattle.wg_node_attributes.specs.declared.attributes.NodeAttrs.{NodeAttrs}
use Rattle.wg_shapes.specs.Level.{top_level, top_levels}
use Rattle.wg_shapes.specs.ShapeOf.{arrival, one_lower}
use Rattle.wg_shapes.proofs.Booleans.{each_at}
use Rattle.wg_shapes.proofs.Depths.{top_at}
use Rattle.wg_shapes.proofs.Numbered.{unit_there, first_unit as first_number}
use Rattle.wg_units.specs.Numbers.{first_unit, first_units, IsNodeBelow, IsPlaceOf}
use Rattle.wg_units.proofs.Counted.{count_tops, first_there}

same_first : (tops : List ℕ) (n : ℕ) → first_unit tops n ≡ first_number tops n
same_first [] n = refl
same_first (top ∷ tops) zero = refl
same_first (top ∷ tops) (suc n) = ap (λ k. top + 1 + k) (same_first tops n)

-- the unit of a node at a level
pub stands : (nodes : List NodeAttrs) (n level : ℕ) → n < length nodes → level ≤ top_level nodes n → slice_get (unrolled 0 (top_levels nodes)) (first_unit (top_levels nodes) n + (top_level nodes n - level)) ≡ Some (n, level)
stands nodes n level lt le =
    ap (λ k. slice_get (unrolled 0 (top_levels nodes)) (k + (top_level nodes n - level))) (same_first (top_levels nodes) n)
    ∙ (unit_there (top_levels nodes) 0 n (top_level nodes n) level (top_at nodes n lt) le ∙ ap (λ k. Some (k, level)) (omega arith))

-- ---- where a record arrives

pub at_own : (nodes : List NodeAttrs) (n level m own t : ℕ) → m ≡ n → level ≢ 0 → n < length nodes → level ≤ top_level nodes n → own ≡ first_unit (top_levels nodes) n + (top_level nodes n - level) → t ≡ own + 1 → IsPlaceOf (unrolled 0 (top_levels nodes)) (arrival nodes n level (Some m)) (Some t)
at_own nodes n zero m own t same some lt le o e = absurd (some refl)
at_own nodes n (suc level) m own t same some lt le o e =
    let there = stands nodes n level lt (omega (arith, le)) in
    let number : t ≡ first_unit (top_levels nodes) n + (top_level nodes n - level) = omega (arith, o, e, le) in
    subst (λ p. IsPlaceOf (unrolled 0 (top_levels nodes)) p (Some t))
    (sym (cond-true (m == n) (one_lower n (suc level)) (Some (m, top_level nodes m)) (eq-eqb m n same)))
    (ap (slice_get (unrolled 0 (top_levels nodes))) number ∙ there)

pub at_last : (nodes : List NodeAttrs) (n level m : ℕ) → m ≡ n → level ≡ 0 → IsPlaceOf (unrolled 0 (top_levels nodes)) (arrival nodes n level (Some m)) None
at_last nodes n level m same none = subst (λ p. IsPlaceOf (unrolled 0 (top_levels nodes)) p None) (sym (cond-true (m == n) (one_lower n level) (Some (m, top_level nodes m)) (eq-eqb m n same) ∙ ap (one_lower n) none)) tt

pub at_other : (nodes : List NodeAttrs) (firsts : List ℕ) (n level m t : ℕ) → m ≢ n → firsts ≡ first_units (top_levels nodes) → m < length nodes → t ≡ unwrap_or (slice_get firsts m) 0 → IsPlaceOf (unrolled 0 (top_levels nodes)) (arrival nodes n level (Some m)) (Some t)
at_other nodes firsts n level m t other e lt is =
    let c = count_tops nodes in
    let first : t ≡ first_unit (top_levels nodes) m = is ∙ (ap (λ l. unwrap_or (slice_get l m) 0) e ∙ first_there (top_levels nodes) m (omega (arith, c, lt))) in
    let number : t ≡ first_unit (top_levels nodes) m + (top_level nodes m - top_level nodes m) = omega (arith, first) in
    subst (λ p. IsPlaceOf (unrolled 0 (top_levels nodes)) p (Some t))
    (sym (cond-false (m == n) (one_lower n level) (Some (m, top_level nodes m)) (ne_eqb m n other)))
    (ap (slice_get (unrolled 0 (top_levels nodes))) number ∙ stands nodes m (top_level nodes m) lt (omega arith))

-- ---- elements of an output

abbrev pub AreArrivals : List NodeAttrs → ℕ → ℕ → List (Option ℕ) → List (Option ℕ) → Type 0
AreArrivals nodes n level elements targets = AllZip (λ (e : Option ℕ) (t : Option ℕ). IsPlaceOf (unrolled 0 (top_levels nodes)) (arrival nodes n level e) t) elements targets

zip_push : {A B : Type 0} (R : A → B → Type 0) (xs : List A) (ys : List B) (x : A) (y : B) → AllZip R xs ys → R x y → AllZip R (xs ++ x ∷ []) (ys ++ y ∷ [])
zip_push R [] [] x y all r = (r, tt)
zip_push R [] (b ∷ ys) x y all r = absurd all
zip_push R (a ∷ xs) [] x y all r = absurd all
zip_push R (a ∷ xs) (b ∷ ys) x y all r = (all.0, zip_push R xs ys x y all.1 r)

pub more_arrivals : (nodes : List NodeAttrs) (n level i : ℕ) (elements targets new : List (Option ℕ)) (e t : Option ℕ) → AreArrivals nodes n level (take i elements) targets → i < length elements → e ≡ get_or elements i e → IsPlaceOf (unrolled 0 (top_levels nodes)) (arrival nodes n level e) t
    → new ≡ targets ++ t ∷ [] → AreArrivals nodes n level (take (i + 1) elements) new
more_arrivals nodes n level i elements targets new e t all lt is r same =
    subst₂ (AreArrivals nodes n level) (sym (take_more elements i e lt ∙ ap (λ x. take i elements ++ x ∷ []) (sym is))) (sym same)
    (zip_push (λ (e : Option ℕ) (t : Option ℕ). IsPlaceOf (unrolled 0 (top_levels nodes)) (arrival nodes n level e) t) (take i elements) targets e t all r)

pub one_below : (count : ℕ) (elements : List (Option ℕ)) (i : ℕ) (e : Option ℕ) → Each (IsNodeBelow count) elements → i < length elements → e ≡ get_or elements i e → IsNodeBelow count e
one_below count elements i e each lt is = each_at (IsNodeBelow count) elements i e each (slice_get-get_or elements i e lt ∙ ap (λ x. Some x) (sym is))

pub again : (xs : List (Option ℕ)) (i : ℕ) (d : Option ℕ) → i < length xs → get_or xs i d ≡ get_or xs i (get_or xs i d)
again [] i d lt = absurd (omega (arith, lt))
again (x ∷ xs) zero d lt = refl
again (x ∷ xs) (suc i) d lt = get_again xs i d x (omega (arith, lt))
  where
    get_again : (xs : List (Option ℕ)) (i : ℕ) (d x : Option ℕ) → i < length xs → get_or xs i d ≡ get_or xs i (get_or xs i d)
    get_again [] i d x lt = absurd (omega (arith, lt))
    get_again (y ∷ xs) zero d x lt = refl
    get_again (y ∷ xs) (suc i) d x lt = get_again xs i d x (omega (arith, lt))
