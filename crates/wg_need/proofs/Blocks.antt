-- Rows in one block, and one more of them.
use Rattle.std.proofs.Common.{◌≡◌, ℕ, zero, suc, ◌-◌, ◌<◌, ◌≤◌, List, [], ◌∷◌, ◌++◌, length, slice_get, slice_index, unwrap_or, take, drop, refl, sym, ◌∙◌, ap, arith}
use Rattle.std.proofs.lemmas.List.{take_rest, take-append-drop, take-append-le}
use Rattle.std.proofs.lemmas.Slice.{between_is}
use Rattle.wg_need.specs.declared.table.Need.{Need}
use Rattle.wg_need.specs.Block.{rows_from, AreEnds}

pub count_rows : (start : ℕ) (ends : List ℕ) (needs : List Need) → length (rows_from start ends needs) ≡ length ends
count_rows start [] needs = refl
count_rows start (end ∷ ends) needs = omega (arith, count_rows end ends needs)

pub ends_within : (start : ℕ) (ends : List ℕ) (count : ℕ) → AreEnds start ends count → start ≤ count
ends_within start [] count are = omega (arith, are)
ends_within start (end ∷ ends) count are = omega (arith, are.0, ends_within end ends count are.1)

-- a row's begin, which is the end of the row before
pub record IsPart (begin end count : ℕ) : Type 0 where
  pub order : begin ≤ end
  pub within : end ≤ count

pub row_part : (start : ℕ) (ends : List ℕ) (count u : ℕ) → AreEnds start ends count → u < length ends → IsPart (slice_index (start ∷ ends) u) (slice_index ends u) count
row_part start [] count u are h = absurd (omega (arith, h))
row_part start (end ∷ ends) count zero are h = record { order = are.0; within = ends_within end ends count are.1 }
row_part start (end ∷ ends) count (suc u) are h = row_part end ends count u are.1 (omega (arith, h))

pub row_is : (start : ℕ) (ends : List ℕ) (needs : List Need) (u : ℕ) → u < length ends
    → unwrap_or (slice_get (rows_from start ends needs) u) [] ≡ take (slice_index ends u - slice_index (start ∷ ends) u) (drop (slice_index (start ∷ ends) u) needs)
row_is start [] needs u h = absurd (omega (arith, h))
row_is start (end ∷ ends) needs zero h = refl
row_is start (end ∷ ends) needs (suc u) h = row_is end ends needs u (omega (arith, h))

pub ends_closed : (start : ℕ) (ends : List ℕ) (old new : ℕ) → AreEnds start ends old → old ≤ new → AreEnds start (ends ++ new ∷ []) new
ends_closed start [] old new are more = (omega (arith, are, more), refl)
ends_closed start (end ∷ ends) old new are more = (are.0, ends_closed end ends old new are.1 more)

-- a part of what stays is the same
part_stays : (old new : List Need) (begin end : ℕ) → take (length old) new ≡ old → end ≤ length old → take (end - begin) (drop begin new) ≡ take (end - begin) (drop begin old)
part_stays old new begin end kept within =
    between_is new begin end ∙ ap (λ (xs : List Need). drop begin xs) cut ∙ sym (between_is old begin end)
  where
    cut : take end new ≡ take end old
    cut =
        ap (λ (xs : List Need). take end xs) (sym (take-append-drop (length old) new) ∙ ap (λ (xs : List Need). xs ++ drop (length old) new) kept)
        ∙ take-append-le end old (drop (length old) new) within

pub rows_closed : (start : ℕ) (ends : List ℕ) (old new : List Need) → AreEnds start ends (length old) → take (length old) new ≡ old
    → rows_from start (ends ++ length new ∷ []) new ≡ rows_from start ends old ++ drop (length old) new ∷ []
rows_closed start [] old new are kept = rw are (ap (λ (row : List Need). row ∷ []) (take_rest new (length old)))
rows_closed start (end ∷ ends) old new are kept =
    rw (part_stays old new start end kept (ends_within end ends (length old) are.1), rows_closed end ends old new are.1 kept) refl
