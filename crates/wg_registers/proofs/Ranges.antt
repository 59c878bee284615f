-- A word of a range of a new record.
use Rattle.std.proofs.Common.{◌≡◌, ℕ, zero, suc, ◌+◌, ◌-◌, Bool, true, false, List, [], ◌∷◌, refl, sym, ap, ◌∙◌}
use Rattle.std.specs.Prelude.{nat_lt, if◌then◌else◌, slice_get, slice_index, slice_set, unwrap_or, Option, Some, None}
use Rattle.std.proofs.lemmas.List.{set-get_or}
use Rattle.std.proofs.lemmas.Option.{unwrap_or-slice_get}
use Rattle.wg_state.specs.WordLists.{list_at}
use Rattle.wg_state.specs.declared.world.Grant.{Grant}
use Rattle.wg_code.specs.Lane.{ranged, with_ranged}
use Rattle.wg_code.specs.Records.{grant_with, grants_with}

-- what a place tells of the range
tells : (b : Bool) (x at : ℕ) → (if b then Some x else None) ≡ Some at → (b ≡ true) × (x ≡ at)
tells true x at e = (refl, ap (λ o. unwrap_or o x) e)
tells false x at e = absurd (cc)

tells_none : (b : Bool) (x : ℕ) → (if b then Some x else None) ≡ None → b ≡ false
tells_none true x e = absurd (cc)
tells_none false x e = refl

module _ (from to w : ℕ) (words : List ℕ) where
  pub read_inside : (at : ℕ) → (if nat_lt w (to - from) then Some (from + w) else None) ≡ Some at → slice_index words at ≡ ranged words from to w
  read_inside at e =
      let t = tells (nat_lt w (to - from)) (from + w) at e in
      ap (slice_index words) (sym t.1) ∙ sym (ap (λ (b : Bool). if b then slice_index words (from + w) else 0) t.0)

  pub read_outside : (if nat_lt w (to - from) then Some (from + w) else None) ≡ None → 0 ≡ ranged words from to w
  read_outside e = sym (ap (λ (b : Bool). if b then slice_index words (from + w) else 0) (tells_none (nat_lt w (to - from)) (from + w) e))

set_same : {A : Type 0} → (xs : List A) (i : ℕ) (x : A) → slice_get xs i ≡ Some x → slice_set xs i x ≡ xs
set_same [] i x e = refl
set_same (y ∷ xs) zero x e = ap (λ z. z ∷ xs) (ap (λ o. unwrap_or o x) (sym e))
set_same (y ∷ xs) (suc i) x e = ap (λ l. y ∷ l) (set_same xs i x e)

-- records of which none is changed
unchanged : (grants : List Grant) (at index : ℕ) → grants_with (Some at) index (λ (words : List ℕ). words) grants ≡ grants
unchanged grants at index = by (slice_get grants at) refl
  where
    inner : (g : Grant) → slice_get grants at ≡ Some g → (b : Bool) → (if b then grants else slice_set grants at (record g { items = slice_set g.items index (list_at g.items index) })) ≡ grants
    inner g e true = refl
    inner g e false =
        ap (λ (items : List (List ℕ)). slice_set grants at (record g { items = items })) (ap (slice_set g.items index) (unwrap_or-slice_get g.items index []) ∙ set-get_or g.items index [])
        ∙ set_same grants at g e

    by : (o : Option Grant) → slice_get grants at ≡ o → grant_with o index (λ (words : List ℕ). words) at grants ≡ grants
    by None e = refl
    by (Some g) e = inner g e g.complete

module _ (from to w value grant index : ℕ) (grants : List Grant) where
  pub put_inside : (at : ℕ) → (if nat_lt w (to - from) then Some (from + w) else None) ≡ Some at
      → grants_with (Some grant) index (λ (words : List ℕ). slice_set words at value) grants ≡ grants_with (Some grant) index (λ (words : List ℕ). with_ranged words from to w value) grants
  put_inside at e =
      let t = tells (nat_lt w (to - from)) (from + w) at e in
      ap (λ (k : ℕ). grants_with (Some grant) index (λ (words : List ℕ). slice_set words k value) grants) (sym t.1)
      ∙ sym (ap (λ (b : Bool). grants_with (Some grant) index (λ (words : List ℕ). if b then slice_set words (from + w) value else words) grants) t.0)

  pub put_outside : (if nat_lt w (to - from) then Some (from + w) else None) ≡ None → grants ≡ grants_with (Some grant) index (λ (words : List ℕ). with_ranged words from to w value) grants
  put_outside e =
      sym (ap (λ (b : Bool). grants_with (Some grant) index (λ (words : List ℕ). if b then slice_set words (from + w) value else words) grants) (tells_none (nat_lt w (to - from)) (from + w) e)
      ∙ unchanged grants grant index)
