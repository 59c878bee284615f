-- The slots in use are those of the records in slots.
use Rattle.std.proofs.Common.{◌≡◌, ◌⊎◌, inl, inr, ℕ, zero, suc, ◌+◌, ◌<◌, ◌≤◌, Bool, true, false, List, [], ◌∷◌, ◌++◌, length, refl, ap, sym, ◌∙◌, arith}
use Rattle.std.specs.Prelude.{◌==◌, ◌&&◌, nat_le, nat_lt, slice_index, count_by}
use Rattle.std.proofs.lemmas.Bool.Decides.{nat_tests}
use Rattle.std.proofs.lemmas.Grind.{flat_map-append}
use Rattle.wg_words.specs.Each.{Each}
use Rattle.wg_machine.specs.declared.launch.Live.{Live}
use Rattle.wg_machine.specs.State.{kept}
use Rattle.wg_standing.specs.declared.pending.Pending.{Pending}
use Rattle.wg_standing.specs.Standing.{counts, in_slot}
use Rattle.wg_store.specs.declared.item.Item.{Item}
use Rattle.wg_store.specs.Items.{AreAtPlaces, LeftIsCounted, groups_left, has_left, live_item, lives}
use Rattle.wg_store.specs.Keep.{IsKept, Kept, view_of}
use Rattle.wg_hold.specs.Held.{count_of}
use Rattle.wg_kept.proofs.Finding.{each_parts, rise_behind}
use Rattle.wg_kept.proofs.Putting.{count_append, count_cons, counted_as}

pub below_or_past : (a b : ℕ) → (a < b) ⊎ (b ≤ a)
below_or_past a b = choice (nat_lt a b) refl
  where
    choice : (t : Bool) → nat_lt a b ≡ t → (a < b) ⊎ (b ≤ a)
    choice true e = inl (grind (arith, nat_tests))
    choice false e = inr (grind (arith, nat_tests))

counts_at : (handed w n k : ℕ) (bag : List Live) → k < n → slice_index (counts handed w n bag) k ≡ count_by (in_slot handed (w + k)) bag
counts_at handed w zero k bag h = absurd (omega (arith, h))
counts_at handed w (suc n) zero bag h = let e : w ≡ w + 0 = omega arith in ap (λ (v : ℕ). count_by (in_slot handed v) bag) e
counts_at handed w (suc n) (suc k) bag h = let e : w + 1 + k ≡ w + suc k = omega arith in counts_at handed (w + 1) n k bag (omega (arith, h)) ∙ ap (λ (v : ℕ). count_by (in_slot handed v) bag) e

counts_past : (handed w n k : ℕ) (bag : List Live) → n ≤ k → slice_index (counts handed w n bag) k ≡ 0
counts_past handed w zero k bag h = refl
counts_past handed w (suc n) zero bag h = absurd (omega (arith, h))
counts_past handed w (suc n) (suc k) bag h = counts_past handed (w + 1) n k bag (omega (arith, h))

long_counts : (handed w n : ℕ) (bag : List Live) → length (counts handed w n bag) ≡ n
long_counts handed w zero bag = refl
long_counts handed w (suc n) bag = ap suc (long_counts handed (w + 1) n bag)

-- records that have a group left are live
pub slots_count : (handed v : ℕ) (outs : List Pending) (xs : List Item) → Each (λ (x : Item). handed ≤ x.number) xs → Each (λ (x : Item). has_left x ≡ true) xs → Each (LeftIsCounted outs) xs → count_by (in_slot handed v) (lives outs xs) ≡ count_of v xs
slots_count handed v outs [] behind left counted = refl
slots_count handed v outs (x ∷ xs) behind left counted = go (groups_left outs x) refl (slots_count handed v outs xs behind.1 left.1 counted.1)
  where
    both : (a b : Bool) → b ≡ true → (a && b) ≡ a
    both true b e = e
    both false b e = refl

    go : (gs : List (List ℕ)) → groups_left outs x ≡ gs → count_by (in_slot handed v) (lives outs xs) ≡ count_of v xs → count_by (in_slot handed v) (kept (let y : Live = record (live_item outs x) { groups = gs } in y) ++ lives outs xs) ≡ count_of v (x ∷ xs)
    go [] e rest =
        let none : x.opening.left ≡ 0 = counted.0 ∙ ap (λ (gs : List (List ℕ)). length gs) e in
        let some = left.0 in
        absurd (grind (arith, nat_tests))
    go (g ∷ gs) e rest =
        let low = behind.0 in
        let y : Live = record (live_item outs x) { groups = g ∷ gs } in
        let q : nat_le handed x.number ≡ true = grind (arith, nat_tests) in
        let here : in_slot handed v y ≡ (x.unit == v) = both (x.unit == v) (nat_le handed x.number) q in
        let a = count_cons (in_slot handed v) y (lives outs xs) in
        let b = count_cons (λ (z : Item). z.unit == v) x xs in
        let c = counted_as (in_slot handed v y) (x.unit == v) here in
        omega (arith, a, b, c, rest)

-- and entries are in no slot
pub entries_count : (from handed v : ℕ) (outs : List Pending) (xs : List Item) → AreAtPlaces from xs → from + length xs ≤ handed → count_by (in_slot handed v) (lives outs xs) ≡ 0
entries_count from handed v outs [] places h = refl
entries_count from handed v outs (x ∷ xs) places h = go (groups_left outs x) (entries_count (from + 1) handed v outs xs places.1 (omega (arith, h)))
  where
    neither : (a b : Bool) → b ≡ false → (a && b) ≡ false
    neither true b e = e
    neither false b e = refl

    go : (gs : List (List ℕ)) → count_by (in_slot handed v) (lives outs xs) ≡ 0 → count_by (in_slot handed v) (kept (let y : Live = record (live_item outs x) { groups = gs } in y) ++ lives outs xs) ≡ 0
    go [] rest = rest
    go (g ∷ gs) rest =
        let here = places.0 in
        let y : Live = record (live_item outs x) { groups = g ∷ gs } in
        let q : nat_le handed x.number ≡ false = grind (arith, nat_tests) in
        let out : in_slot handed v y ≡ false = neither (x.unit == v) (nat_le handed x.number) q in
        let a = count_cons (in_slot handed v) y (lives outs xs) in
        let c = counted_as (in_slot handed v y) false out in
        omega (arith, a, c, rest)

none_of : (v n : ℕ) (xs : List Item) → Each (λ (x : Item). x.unit < n) xs → n ≤ v → count_of v xs ≡ 0
none_of v n [] each h = refl
none_of v n (x ∷ xs) each h =
    let unit = each.0 in
    let q : (x.unit == v) ≡ false = grind (arith, nat_tests) in
    let a = count_cons (λ (z : Item). z.unit == v) x xs in
    let c = counted_as (x.unit == v) false q in
    let rest = none_of v n xs each.1 h in
    omega (arith, a, c, rest)

pub slots_past : (k : Kept) (v : ℕ) → IsKept k → length k.shape.units ≤ v → count_of v k.slots ≡ 0
slots_past k v s h = none_of v (length k.shape.units) k.slots (each_parts (λ (x : Item). x.unit < length k.shape.units) k.entries k.slots s.units).1 h

-- at each unit as many slots are in use as records are in slots
pub used_is : (k : Kept) → IsKept k → Each (λ (x : Item). has_left x ≡ true) k.slots → (v : ℕ) → slice_index (view_of k).used v ≡ count_of v k.slots
used_is k s left v = elim (below_or_past v n) [
  | inl h ↦ (
      let z : 0 + v ≡ v = omega arith in
      let whole = counts_at handed 0 n v (lives k.outs (k.entries ++ k.slots)) h ∙ ap (λ (w : ℕ). count_by (in_slot handed w) (lives k.outs (k.entries ++ k.slots))) z in
      let parts = ap (count_by (in_slot handed v)) (flat_map-append (λ (x : Item). kept (live_item k.outs x)) k.entries k.slots) ∙ count_append (in_slot handed v) (lives k.outs k.entries) (lives k.outs k.slots) in
      let es = entries_count 0 handed v k.outs k.entries s.places (omega arith) in
      let ss = slots_count handed v k.outs k.slots (rise_behind handed k.next k.slots s.rises) left (each_parts (LeftIsCounted k.outs) k.entries k.slots s.counted).1 in
      omega (arith, whole, parts, es, ss)
      )
  | inr h ↦ counts_past handed 0 n v (lives k.outs (k.entries ++ k.slots)) h ∙ sym (slots_past k v s h)
]
  where
    n : ℕ
    n = length k.shape.units

    handed : ℕ
    handed = length k.entries

-- equal lists of numbers
same_list : (xs ys : List ℕ) → length xs ≡ length ys → ((v : ℕ) → slice_index xs v ≡ slice_index ys v) → xs ≡ ys
same_list [] [] long same = refl
same_list [] (y ∷ ys) long same = absurd (omega (arith, long))
same_list (x ∷ xs) [] long same = absurd (omega (arith, long))
same_list (x ∷ xs) (y ∷ ys) long same = ap (λ (a : ℕ). a ∷ xs) (same 0) ∙ ap (λ (rest : List ℕ). y ∷ rest) (same_list xs ys (omega (arith, long)) (λ v. same (suc v)))

pub used_list : (k : Kept) (used : List ℕ) → length used ≡ length k.shape.units → ((v : ℕ) → slice_index used v ≡ slice_index (view_of k).used v) → used ≡ (view_of k).used
used_list k used long same = same_list used (view_of k).used (long ∙ sym (long_counts (length k.entries) 0 (length k.shape.units) (lives k.outs (k.entries ++ k.slots)))) same
