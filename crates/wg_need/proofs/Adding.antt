-- What one more of a budget does to the sums of the row.
use Rattle.std.proofs.Common.{◌≡◌, ℕ, zero, suc, ◌+◌, ◌-◌, ◌<◌, ◌≤◌, ◌==◌, ◌&&◌, if◌then◌else◌, List, [], ◌∷◌, ◌++◌, length, get_or, set, drop, refl, sym, ◌∙◌, ap, arith, inl, inr}
use Rattle.std.specs.Prelude.{nat_lt}
use Rattle.std.proofs.lemmas.Bool.Decides.{eqb_tells}
use Rattle.std.proofs.lemmas.Grind.{common_steps}
use Rattle.std.proofs.lemmas.List.{drop-append-le, drop-set-add, get_or-drop, get_or-set_same, get_or-set_other, length-drop}
use Rattle.wg_need.specs.declared.sums.Budget.{Budget}
use Rattle.wg_need.specs.declared.sums.Seen.{Seen}
use Rattle.wg_need.specs.declared.table.Need.{Need}
use Rattle.wg_need.specs.Rows.{need_in, IsSoundRow}
use Rattle.wg_need.specs.Scratch.{seen_at, owed, IsOpenRow}

need_in-push : (row : List Need) (n : Need) (v : ℕ) → need_in (row ++ n ∷ []) v ≡ need_in row v + (if n.unit == v then n.records else 0)
need_in-push [] n v = omega arith
need_in-push (m ∷ row) n v = omega (arith, need_in-push row n v)

-- more records of a need
need_in-set : (row : List Need) (k v more : ℕ) (d n : Need) → k < length row → n.unit ≡ (get_or row k d).unit → n.records ≡ (get_or row k d).records + more
    → need_in (set row k n) v ≡ need_in row v + (if n.unit == v then more else 0)
need_in-set [] k v more d n h u r = absurd (omega (arith, h))
need_in-set (m ∷ row) zero v more d n h u r =
    elim (eqb_tells m.unit v) [
      | inl same ↦ rw (u, same.0) (omega (arith, r))
      | inr other ↦ rw (u, other.0) (omega arith)
    ]
need_in-set (m ∷ row) (suc k) v more d n h u r = omega (arith, need_in-set row k v more d n (omega (arith, h)) u r)

owed_none : (b : Budget) (start : ℕ) (seen : List Seen) (v : ℕ) → (seen_at seen v).place ≤ start → owed b start seen v ≡ 0
owed_none b start seen v h = grind (arith, common_steps, h)

owed_other : (b : Budget) (start : ℕ) (seen : List Seen) (v : ℕ) → ((seen_at seen v).budget ≡ b.number → ⊥) → owed b start seen v ≡ 0
owed_other b start seen v h = grind (arith, common_steps, h)

owed_all : (b : Budget) (start : ℕ) (seen : List Seen) (v : ℕ) → start < (seen_at seen v).place → (seen_at seen v).budget ≡ b.number → owed b start seen v ≡ b.most
owed_all b start seen v h e = grind (arith, common_steps, h, e)

none_in : (row : List Need) (v : ℕ) → ((j : ℕ) (d : Need) → j < length row → (get_or row j d).unit ≡ v → ⊥) → need_in row v ≡ 0
none_in [] v h = refl
none_in (m ∷ row) v h =
    elim (eqb_tells m.unit v) [
      | inl same ↦ absurd (h 0 m (omega arith) same.1)
      | inr other ↦ rw other.0 (omega (arith, none_in row v (λ j d less e. h (suc j) d (omega (arith, less)) e)))
    ]

-- the records of a unit that stands once in a row
one_in : (row : List Need) (k v : ℕ) (d : Need) → k < length row → (get_or row k d).unit ≡ v → ((j : ℕ) (e : Need) → j < length row → (get_or row j e).unit ≡ v → j ≡ k)
    → need_in row v ≡ (get_or row k d).records
one_in [] k v d h is only = absurd (omega (arith, h))
one_in (m ∷ row) zero v d h is only =
    elim (eqb_tells m.unit v) [
      | inl same ↦ rw same.0 (omega (arith, none_in row v (λ j e less u. absurd (omega (arith, only (suc j) e (omega (arith, less)) u)))))
      | inr other ↦ absurd (other.1 is)
    ]
one_in (m ∷ row) (suc k) v d h is only =
    elim (eqb_tells m.unit v) [
      | inl same ↦ absurd (omega (arith, only 0 m (omega arith) same.1))
      | inr other ↦ rw other.0 (omega (arith, one_in row k v d (omega (arith, h)) is (λ j e less u. omega (arith, only (suc j) e (omega (arith, less)) u))))
    ]

pub sum_pushed : (b : Budget) (start : ℕ) (seen : List Seen) (needs : List Need) (t v : ℕ) (n : Need) (s : Seen)
    → start ≤ length needs → t < length seen → (seen_at seen t).place ≤ start → n.unit ≡ t → n.records ≡ b.most → start < s.place → s.budget ≡ b.number
    → need_in (drop start (needs ++ n ∷ [])) v + owed b start seen v ≡ need_in (drop start needs) v + owed b start (set seen t s) v
sum_pushed b start seen needs t v n s begun within fresh is_unit is_most later is_budget =
    elim (eqb_tells v t) [
      | inl same ↦ rw same.1 (omega (arith, split t, hit, owed_none b start seen t fresh, all))
      | inr other ↦ omega (arith, split v, miss v other.1, ap (λ (x : Seen). if nat_lt start x.place && (x.budget == b.number) then b.most else 0) (get_or-set_other seen t v s (record { place = 0; budget = 0 }) other.1))
    ]
  where
    split : (w : ℕ) → need_in (drop start (needs ++ n ∷ [])) w ≡ need_in (drop start needs) w + (if n.unit == w then n.records else 0)
    split w = ap (λ (xs : List Need). need_in xs w) (drop-append-le start needs (n ∷ []) begun) ∙ need_in-push (drop start needs) n w

    hit : (if n.unit == t then n.records else 0) ≡ b.most
    hit = elim (eqb_tells n.unit t) [ inl same ↦ rw same.0 is_most | inr other ↦ absurd (other.1 is_unit) ]

    miss : (w : ℕ) → (w ≡ t → ⊥) → (if n.unit == w then n.records else 0) ≡ 0
    miss w apart = elim (eqb_tells n.unit w) [ inl same ↦ absurd (apart (sym same.1 ∙ is_unit)) | inr other ↦ rw other.0 refl ]

    new : seen_at (set seen t s) t ≡ s
    new = get_or-set_same seen t s (record { place = 0; budget = 0 }) within

    all : owed b start (set seen t s) t ≡ b.most
    all = owed_all b start (set seen t s) t (omega (arith, later, ap (λ (x : Seen). x.place) new)) (ap (λ (x : Seen). x.budget) new ∙ is_budget)

pub sum_raised : (b : Budget) (start : ℕ) (seen : List Seen) (needs : List Need) (t v k : ℕ) (d n : Need) (s : Seen)
    → t < length seen → start ≤ k → k < length needs → (get_or needs k d).unit ≡ t → ((seen_at seen t).budget ≡ b.number → ⊥)
    → n.unit ≡ t → n.records ≡ (get_or needs k d).records + b.most → start < s.place → s.budget ≡ b.number
    → need_in (drop start (set needs k n)) v + owed b start seen v ≡ need_in (drop start needs) v + owed b start (set seen t s) v
sum_raised b start seen needs t v k d n s within from h was fresh is_unit is_most later is_budget =
    elim (eqb_tells v t) [
      | inl same ↦ rw same.1 (omega (arith, split t, hit, owed_other b start seen t fresh, all))
      | inr other ↦ omega (arith, split v, miss v other.1, ap (λ (x : Seen). if nat_lt start x.place && (x.budget == b.number) then b.most else 0) (get_or-set_other seen t v s (record { place = 0; budget = 0 }) other.1))
    ]
  where
    j : ℕ
    j = k - start

    at : start + j ≡ k
    at = omega (arith, from)

    there : get_or (drop start needs) j d ≡ get_or needs k d
    there = get_or-drop start needs j d ∙ ap (λ (i : ℕ). get_or needs i d) at

    split : (w : ℕ) → need_in (drop start (set needs k n)) w ≡ need_in (drop start needs) w + (if n.unit == w then b.most else 0)
    split w =
        ap (λ (i : ℕ). need_in (drop start (set needs i n)) w) (sym at)
        ∙ ap (λ (xs : List Need). need_in xs w) (drop-set-add start needs j n)
        ∙ need_in-set (drop start needs) j w b.most d n (omega (arith, length-drop start needs, h, from)) (is_unit ∙ sym was ∙ ap (λ (x : Need). x.unit) (sym there)) (is_most ∙ ap (λ (x : Need). x.records + b.most) (sym there))

    hit : (if n.unit == t then b.most else 0) ≡ b.most
    hit = elim (eqb_tells n.unit t) [ inl same ↦ rw same.0 refl | inr other ↦ absurd (other.1 is_unit) ]

    miss : (w : ℕ) → (w ≡ t → ⊥) → (if n.unit == w then b.most else 0) ≡ 0
    miss w apart = elim (eqb_tells n.unit w) [ inl same ↦ absurd (apart (sym same.1 ∙ is_unit)) | inr other ↦ rw other.0 refl ]

    new : seen_at (set seen t s) t ≡ s
    new = get_or-set_same seen t s (record { place = 0; budget = 0 }) within

    all : owed b start (set seen t s) t ≡ b.most
    all = owed_all b start (set seen t s) t (omega (arith, later, ap (λ (x : Seen). x.place) new)) (ap (λ (x : Seen). x.budget) new ∙ is_budget)

-- an open row is sound
pub sound_row : (start limit : ℕ) (seen : List Seen) (needs : List Need) → IsOpenRow start limit seen needs → IsSoundRow (length seen) (drop start needs)
sound_row start limit seen needs row k d h =
    let less : start + k < length needs = omega (arith, h, length-drop start needs) in
    let here : get_or (drop start needs) k d ≡ get_or needs (start + k) d = get_or-drop start needs k d in
    let e = row.each (start + k) d (omega arith) less in
    rw here (record {
      within = e.within;
      some = e.some;
      whole =
          one_in (drop start needs) k (get_or needs (start + k) d).unit d h (ap (λ (x : Need). x.unit) here) (λ j f below u.
          let g = row.each (start + j) f (omega arith) (omega (arith, below, length-drop start needs)) in
          let same : (get_or needs (start + j) f).unit ≡ (get_or needs (start + k) d).unit = ap (λ (x : Need). x.unit) (sym (get_or-drop start needs j f)) ∙ u in
          omega (arith, e.place, g.place, ap (λ (x : ℕ). (seen_at seen x).place) same))
          ∙ ap (λ (x : Need). x.records) here;
    })
