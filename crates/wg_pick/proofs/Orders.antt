-- The order of picking from a sort, and the places in it.
use Rattle.std.proofs.Common.{◌≡◌, ◌⊎◌, ℕ, zero, suc, ◌+◌, ◌-◌, ◌<◌, ◌≤◌, All, List, [], ◌∷◌, ◌++◌, length, get_or, set, map, false, slice_index, refl, sym, ◌∙◌, ap, subst, arith, inl, inr, length-append}
use Rattle.std.proofs.lemmas.Bool.{cases_lt}
use Rattle.std.proofs.lemmas.Bool.Decides.{eqb_tells}
use Rattle.std.proofs.lemmas.List.{length-set, get_or-set_same, get_or-set_other, get_or-map, length-map}
use Rattle.std.proofs.lemmas.List.{get_or_append_left, get_or_push}
use Rattle.std.proofs.lemmas.List.Elements.{Contains-get_or}
use Rattle.std.proofs.lemmas.List.Sorted.{All-permutation, Contains-permutation, length_permutation}
use Rattle.std.specs.Cmp.{nat_cmp_is}
use Rattle.std.proofs.lemmas.Map.Keys.{ge_from_not_lt}
use Rattle.std.specs.List.Sorted.{IsPermutation}
use Rattle.std.specs.Ordering.{nat_cmp, ordering_then, is_lt}
use Rattle.std.specs.declared.cmp.Ordering.{Ordering}
use Rattle.std.specs.declared.cmp.Ordering.TheVariants.{Less, Equal}
use Rattle.wg_pick.specs.Row.{ComesFirst, IsOrder, HasItsPlace}

-- ---- places

pub record ArePlaced (order places : List ℕ) (count : ℕ) : Type 0 where
  pub same_length : length places ≡ length order
  pub placed : (place : ℕ) → place < count → HasItsPlace order places (slice_index order place)

pub one_placed : (order places : List ℕ) (count : ℕ) → count < length order → slice_index order count < length order
    → ArePlaced order places count → ArePlaced order (set places (slice_index order count) count) (count + 1)
one_placed order places count below within are =
    record {
      same_length = length-set places unit count ∙ are.same_length;
      placed = λ place h. elim (eqb_tells (slice_index order place) unit) [
        | inl same ↦ let P : ℕ → Type 0 = λ u. HasItsPlace order (set places unit count) u in subst P (sym same.1) here
        | inr other ↦ elsewhere place h other.1
      ];
    }
  where
    unit : ℕ
    unit = slice_index order count

    stored : slice_index (set places (slice_index order count) count) (slice_index order count) ≡ count
    stored = get_or-set_same places (slice_index order count) count 0 (omega (arith, are.same_length, within))

    here : HasItsPlace order (set places (slice_index order count) count) (slice_index order count)
    here = record { within = omega (arith, stored, below); own = ap (λ (p : ℕ). slice_index order p) stored }

    elsewhere : (place : ℕ) → place < count + 1 → (slice_index order place ≡ slice_index order count → ⊥)
        → HasItsPlace order (set places (slice_index order count) count) (slice_index order place)
    elsewhere place h differs =
        let before : place < count = elim (cases_lt place count) [
          | inl less ↦ less
          | inr past ↦ let e : place ≡ count = omega (arith, h, past) in absurd (differs (ap (λ (p : ℕ). slice_index order p) e))
        ] in
        let was = are.placed place before in
        let kept = get_or-set_other places (slice_index order count) (slice_index order place) count 0 differs in
        record { within = omega (arith, kept, was.within); own = ap (λ (p : ℕ). slice_index order p) kept ∙ was.own }

-- ---- the order

then_first : (depths : List ℕ) (u v w : ℕ) → ComesFirst depths u v → ComesFirst depths v w → ComesFirst depths u w
then_first depths u v w first second =
    elim first [
      | inl a ↦ elim second [ inl b ↦ inl (omega (arith, a, b)) | inr b ↦ inl (omega (arith, a, b.0)) ]
      | inr a ↦ elim second [ inl b ↦ inl (omega (arith, a.0, b)) | inr b ↦ inr (b.0 ∙ a.0, omega (arith, a.1, b.1)) ]
    ]

chain : (depths order : List ℕ) → ((k : ℕ) → k + 1 < length order → ComesFirst depths (slice_index order k) (slice_index order (k + 1)))
    → (m i : ℕ) → i + m < length order → ComesFirst depths (slice_index order i) (slice_index order (i + m))
chain depths order next zero i below =
    let e : i + 0 ≡ i = omega arith in rw e (inr (refl, omega arith))
chain depths order next (suc m) i below =
    let e : i + suc m ≡ i + m + 1 = omega arith in
    rw e (then_first depths (slice_index order i) (slice_index order (i + m)) (slice_index order (i + m + 1)) (chain depths order next m i (omega (arith, below))) (next (i + m) (omega (arith, below))))

pub all_sorted : (depths order : List ℕ) → ((k : ℕ) → k + 1 < length order → ComesFirst depths (slice_index order k) (slice_index order (k + 1)))
    → (i j : ℕ) → i ≤ j → j < length order → ComesFirst depths (slice_index order i) (slice_index order j)
all_sorted depths order next i j before within =
    elim (cases_lt i (j + 1)) [
      | inl less ↦
          let e : i + (j - i) ≡ j = omega (arith, before) in
          let P : ℕ → Type 0 = λ x. ComesFirst depths (slice_index order i) (slice_index order x) in
          subst P e (chain depths order next (j - i) i (omega (arith, e, within)))
      | inr past ↦ absurd (omega (arith, past, before))
    ]

-- ---- the sorted row

-- units in rising order of number, each with its depth
pub record AreRanked {X : Type 0} (depth unit : X → ℕ) (depths : List ℕ) (count : ℕ) (row : List X) : Type 0 where
  pub count_is : length row ≡ count
  pub each : (k : ℕ) (d : X) → k < count → (unit (get_or row k d) ≡ k) × (depth (get_or row k d) ≡ slice_index depths k)

pub none_ranked : {X : Type 0} (depth unit : X → ℕ) (depths : List ℕ) → AreRanked depth unit depths 0 []
none_ranked depth unit depths = record { count_is = refl; each = λ k d h. absurd (omega (arith, h)) }

pub one_ranked : {X : Type 0} (depth unit : X → ℕ) (depths : List ℕ) (count : ℕ) (row : List X) (x : X)
    → unit x ≡ count → depth x ≡ slice_index depths count → AreRanked depth unit depths count row → AreRanked depth unit depths (count + 1) (row ++ x ∷ [])
one_ranked {X} depth unit depths count row x is_unit is_depth are =
    record { count_is = omega (arith, length-append row (x ∷ []), are.count_is); each = each }
  where
    each : (k : ℕ) (d : X) → k < count + 1 → (unit (get_or (row ++ x ∷ []) k d) ≡ k) × (depth (get_or (row ++ x ∷ []) k d) ≡ slice_index depths k)
    each k d h =
        elim (cases_lt k count) [
          | inl below ↦ rw (get_or_append_left row (x ∷ []) d k (omega (arith, are.count_is, below))) (are.each k d below)
          | inr past ↦
              let e : k ≡ count = omega (arith, h, past) in
              rw (get_or_push row x d k (omega (arith, e, are.count_is)), e) (is_unit, is_depth)
        ]

pub later : (a b u v : ℕ) → is_lt (ordering_then (nat_cmp a b) (nat_cmp v u)) ≡ false → (b < a) ⊎ ((b ≡ a) × (u ≤ v))
later a b u v h =
    elim (cases_lt a b) [
      | inl less ↦
          let e = nat_cmp_is a b Less less in
          let P : Ordering → Type 0 = λ o. is_lt (ordering_then o (nat_cmp v u)) ≡ false in
          absurd (cc (subst P (sym e) h))
      | inr more ↦
          elim (cases_lt b a) [
            | inl less ↦ inl less
            | inr same ↦
                let is : a ≡ b = omega (arith, more, same) in
                let e = nat_cmp_is a b Equal is in
                let P : Ordering → Type 0 = λ o. is_lt (ordering_then o (nat_cmp v u)) ≡ false in
                inr (sym is, ge_from_not_lt v u (subst P (sym e) h))
          ]
    ]

abbrev pub AreLater : {X : Type 0} → (X → ℕ) → (X → ℕ) → List X → Type 0
AreLater {X} depth unit row = (k : ℕ) (d : X) → k + 1 < length row
    → (depth (get_or row (k + 1) d) < depth (get_or row k d)) ⊎ ((depth (get_or row (k + 1) d) ≡ depth (get_or row k d)) × (unit (get_or row k d) ≤ unit (get_or row (k + 1) d)))

pub sorted_order : {X : Type 0} (depth unit : X → ℕ) (depths : List ℕ) (row sorted : List X) (d : X) → AreRanked depth unit depths (length depths) row
    → IsPermutation row sorted → AreLater depth unit sorted → IsOrder depths (map unit sorted)
sorted_order {X} depth unit depths row sorted d are moved later =
    record {
      count = length-map sorted unit ∙ long;
      within = λ place h. let below : place < length sorted = omega (arith, length-map sorted unit, h) in
          omega (arith, read place below, (all place d below).0, length-map sorted unit, long);
      each = λ u h. each u (omega (arith, h, length-map sorted unit, long));
      sorted = all_sorted depths (map unit sorted) next;
    }
  where
    long : length sorted ≡ length depths
    long = length_permutation row sorted moved ∙ are.count_is

    first : All (λ (x : X). (unit x < length depths) × (depth x ≡ slice_index depths (unit x))) row
    first k e h =
        let r = are.each k e (omega (arith, h, are.count_is)) in
        (omega (arith, r.0, h, are.count_is), r.1 ∙ ap (λ (j : ℕ). slice_index depths j) (sym r.0))

    all : All (λ (x : X). (unit x < length depths) × (depth x ≡ slice_index depths (unit x))) sorted
    all = All-permutation (λ (x : X). (unit x < length depths) × (depth x ≡ slice_index depths (unit x))) row sorted moved first

    read : (k : ℕ) → k < length sorted → slice_index (map unit sorted) k ≡ unit (get_or sorted k d)
    read k h = get_or-map unit sorted k d 0 h

    each : (u : ℕ) → u < length depths → (place : ℕ) × (place < length (map unit sorted)) × (slice_index (map unit sorted) place ≡ u)
    each u h =
        let x = get_or row u d in
        let found = Contains-permutation row sorted x moved (Contains-get_or row u d (omega (arith, h, are.count_is))) in (
          found.0,
          omega (arith, found.1, length-map sorted unit),
          get_or-map unit sorted found.0 x 0 found.1 ∙ ap unit found.2 ∙ (are.each u d h).0,
        )

    next : (k : ℕ) → k + 1 < length (map unit sorted) → ComesFirst depths (slice_index (map unit sorted) k) (slice_index (map unit sorted) (k + 1))
    next k h =
        let inside : k + 1 < length sorted = omega (arith, h, length-map sorted unit) in
        let here = (all k d (omega (arith, inside))).1 in
        let there = (all (k + 1) d inside).1 in
        rw (read k (omega (arith, inside)), read (k + 1) inside, ← here, ← there) (later k d inside)
