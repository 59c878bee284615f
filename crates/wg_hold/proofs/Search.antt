-- What a search by halves finds among records in rising order of number.
use Rattle.std.proofs.Common.{◌≡◌, ◌≢◌, ℕ, zero, suc, ◌+◌, ◌<◌, ◌≤◌, true, false, List, [], ◌∷◌, length, refl, ap, sym, ◌∙◌, subst, arith, Some, None, Result, Ok, Err, IfOk, IfErr}
use Rattle.std.specs.Prelude.{◌==◌, slice_get, slice_index_or}
use Rattle.std.specs.List.Sorted.{IsSearchInRange, IsBinarySearchResult, IsNonDecreasingBy}
use Rattle.std.specs.Ordering.{nat_cmp, ordering_index}
use Rattle.std.proofs.lemmas.Bool.Decides.{nat_tests}
use Rattle.std.proofs.lemmas.Cmp.{ranked}
use Rattle.std.proofs.lemmas.List.Sorted.{IsNonDecreasingBy-from_default}
use Rattle.wg_store.specs.declared.item.Item.{Item}
use Rattle.wg_store.specs.Items.{item_in}
use Rattle.wg_hold.specs.RowsOf.{AreRising}

pub same_item : (y x : Item) → Some y ≡ Some x → y ≡ x
same_item y x e = cc

pub rise_from : (n m : ℕ) (xs : List Item) → m ≤ n → AreRising n xs → AreRising m xs
rise_from n m [] h r = tt
rise_from n m (x ∷ xs) h r = (let a = r.0 in omega (arith, h, a), r.1)

pub rise_at : (low : ℕ) (xs : List Item) (i : ℕ) (x : Item) → AreRising low xs → slice_get xs i ≡ Some x → low ≤ x.number
rise_at low [] i x r e = absurd (cc)
rise_at low (y ∷ xs) zero x r e = subst (λ (z : Item). low ≤ z.number) (same_item y x e) r.0
rise_at low (y ∷ xs) (suc i) x r e = let h = rise_at (y.number + 1) xs i x r.1 e in let a = r.0 in omega (arith, h, a)

-- the record at a place with the number is the one that is found
pub found_at : (low n : ℕ) (xs : List Item) (i : ℕ) (x : Item) → AreRising low xs → slice_get xs i ≡ Some x → x.number ≡ n → item_in n xs ≡ Some x
found_at low n [] i x r e named = absurd (cc)
found_at low n (y ∷ xs) zero x r e named =
    let s = ap (λ (z : Item). z.number) (same_item y x e) in
    let q : (y.number == n) ≡ true = grind (arith, nat_tests) in
    rw q e
found_at low n (y ∷ xs) (suc i) x r e named =
    let h = rise_at (y.number + 1) xs i x r.1 e in
    let q : (y.number == n) ≡ false = grind (arith, nat_tests) in
    rw q (found_at (y.number + 1) n xs i x r.1 e named)

pub missing : (n : ℕ) (xs : List Item) → ((i : ℕ) (x : Item) → slice_get xs i ≡ Some x → x.number ≢ n) → item_in n xs ≡ None
missing n [] h = refl
missing n (y ∷ xs) h =
    let d = h 0 y refl in
    let q : (y.number == n) ≡ false = grind (arith, nat_tests) in
    rw q (missing n xs (λ i x e. h (suc i) x e))

rise_within : (low : ℕ) (xs : List Item) (d : Item) (j : ℕ) → AreRising low xs → j < length xs → low ≤ (slice_index_or xs j d).number
rise_within low [] d j r h = absurd (omega (arith, h))
rise_within low (y ∷ xs) d zero r h = r.0
rise_within low (y ∷ xs) d (suc j) r h = let a = rise_within (y.number + 1) xs d j r.1 (omega (arith, h)) in let b = r.0 in omega (arith, a, b)

pub rise_two : (low : ℕ) (xs : List Item) (d : Item) (i j : ℕ) → AreRising low xs → i ≤ j → j < length xs → (slice_index_or xs i d).number ≤ (slice_index_or xs j d).number
rise_two low [] d i j r le h = absurd (omega (arith, h))
rise_two low (y ∷ xs) d zero zero r le h = omega arith
rise_two low (y ∷ xs) d zero (suc j) r le h = let a = rise_within (y.number + 1) xs d j r.1 (omega (arith, h)) in omega (arith, a)
rise_two low (y ∷ xs) d (suc i) zero r le h = absurd (omega (arith, le))
rise_two low (y ∷ xs) d (suc i) (suc j) r le h = rise_two (y.number + 1) xs d i j r.1 (omega (arith, le)) (omega (arith, h))

-- the comparisons with a number rise along the row
compare_rise : (xs : List Item) (d : Item) (n : ℕ) → AreRising 0 xs → IsNonDecreasingBy (λ (y : Item). ordering_index (nat_cmp y.number n)) xs
compare_rise xs d n r = IsNonDecreasingBy-from_default (λ (y : Item). ordering_index (nat_cmp y.number n)) xs d (λ i j le h.
    let a = rise_two 0 xs d i j r le h in grind (arith, nat_tests))

within_of : (xs : List Item) (i : ℕ) (x : Item) → slice_get xs i ≡ Some x → i < length xs
within_of [] i x e = absurd (cc)
within_of (y ∷ xs) zero x e = omega arith
within_of (y ∷ xs) (suc i) x e = let h = within_of xs i x e in omega (arith, h)

read_of : (xs : List Item) (i : ℕ) (x d : Item) → slice_get xs i ≡ Some x → slice_index_or xs i d ≡ x
read_of [] i x d e = absurd (cc)
read_of (y ∷ xs) zero x d e = same_item y x e
read_of (y ∷ xs) (suc i) x d e = read_of xs i x d e

get_of : (xs : List Item) (i : ℕ) → i < length xs → (x : Item) × (slice_get xs i ≡ Some x)
get_of [] i h = absurd (omega (arith, h))
get_of (y ∷ xs) zero h = (y, refl)
get_of (y ∷ xs) (suc i) h = get_of xs i (omega (arith, h))

pub record Finds (n : ℕ) (xs : List Item) (place : ℕ) : Type 0 where
  pub within : place < length xs
  pub found : slice_get xs place ≡ item_in n xs

pub searched : (xs : List Item) (n : ℕ) (r : Result ℕ ℕ) → AreRising 0 xs → IsSearchInRange r (length xs) → IsBinarySearchResult (λ (y : Item). nat_cmp y.number n) xs r → IfOk r (Finds n xs) × IfErr r (λ (_ : ℕ). item_in n xs ≡ None)
searched xs n (Ok p) rises within equal =
    let g = get_of xs p within in
    let x = g.0 in
    let e : slice_get xs p ≡ Some x = g.1 in
    let named : x.number ≡ n = subst (λ (z : Item). z.number ≡ n) (read_of xs p x x e) (ranked _ n _ (sym (equal x))) in
    (record { within = within; found = e ∙ sym (found_at 0 n xs p x rises e named) }, tt)
searched xs n (Err p) rises within parted = (
  tt,
  missing n xs (λ i x e named.
      let parts = parted (compare_rise xs x n rises) in
      let inside = within_of xs i x e in
      let read = read_of xs i x x e in
      side i x inside read named (λ lt. ranked _ n _ (sym (parts.0 i x (omega arith) lt))) (λ le. ranked _ n _ (sym (parts.1 i x le inside)))),
)
  where
    side : (i : ℕ) (x : Item) → i < length xs → slice_index_or xs i x ≡ x → x.number ≡ n → (i < p → (slice_index_or xs i x).number < n) → (p ≤ i → n < (slice_index_or xs i x).number) → ⊥
    side i x inside read named below above =
        let k = ap (λ (z : Item). z.number) read in
        grind (arith, below, above, k, named)
