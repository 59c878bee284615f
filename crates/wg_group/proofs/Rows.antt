-- The registers of lanes, one lane's behind another's.
use Rattle.std.proofs.Common.{◌≡◌, ◌≢◌, ℕ, zero, suc, ◌+◌, ◌-◌, ◌*◌, ◌<◌, ◌≤◌, List, [], ◌∷◌, ◌++◌, length, take, drop, replicate, refl, sym, ap, ◌∙◌, subst, arith}
use Rattle.std.proofs.Common.{◌⊎◌, ⊎_elim}
use Rattle.std.proofs.lemmas.Nat.{row_fits}
use Rattle.std.proofs.lemmas.Slice.{between_is, between-put_mid, take-put_mid_below, drop-put_mid}
use borrow.Rule.Slice.PartMut.{put_mid}
use Rattle.wg_group.specs.Running.{row_at, rows_from}

-- one more row
pub rows_push : (at n w : ℕ) (xs : List ℕ) → rows_from at (suc n) w xs ≡ rows_from at n w xs ++ row_at w (at + n) xs ∷ []
rows_push at zero w xs = let e : at ≡ at + 0 = omega arith in ap (λ k. row_at w k xs ∷ []) e
rows_push at (suc n) w xs =
    let e : suc at + n ≡ at + suc n = omega arith in
    ap (λ l. row_at w at xs ∷ l) (rows_push (suc at) n w xs ∙ ap (λ k. rows_from (suc at) n w xs ++ row_at w k xs ∷ []) e)

-- rows that differ from others nowhere from a number on
pub rows_same : (at n w : ℕ) (xs ys : List ℕ) → ((k : ℕ) → at ≤ k → k < at + n → row_at w k xs ≡ row_at w k ys) → rows_from at n w xs ≡ rows_from at n w ys
rows_same at zero w xs ys f = refl
rows_same at (suc n) w xs ys f =
    ap (λ x. x ∷ rows_from (suc at) n w xs) (f at (omega arith) (omega arith))
    ∙ ap (λ l. row_at w at ys ∷ l) (rows_same (suc at) n w xs ys (λ k a b. f k (omega (arith, a)) (omega (arith, b))))

-- ---- a part of the registers that was written

module _ (xs ys : List ℕ) (lane w : ℕ) (inside : lane * w + w ≤ length xs) (size : length ys ≡ w) where
  -- the row that was written
  pub row_written : (k : ℕ) → k ≡ w → row_at w lane (put_mid (lane * w) k xs ys) ≡ ys
  row_written k same =
      let start : lane * w ≤ length xs = omega (arith, inside) in
      let whole : (lane * w + w) - lane * w ≡ w = omega arith in
      let mid = between-put_mid (lane * w) k xs ys (lane * w + w) start (size ∙ sym whole) in
      ap (λ n. take n (drop (lane * w) (put_mid (lane * w) k xs ys))) (sym whole) ∙ mid

  -- another row
  pub row_kept : (k at : ℕ) → k ≡ w → at ≢ lane → row_at w at (put_mid (lane * w) k xs ys) ≡ row_at w at xs
  row_kept k at same other = ⊎_elim below above (apart at lane other)
    where
      apart : (a b : ℕ) → a ≢ b → (a < b) ⊎ (b < a)
      apart a b n = grind arith

      whole : (at * w + w) - at * w ≡ w
      whole = omega arith

      below : at < lane → row_at w at (put_mid (lane * w) k xs ys) ≡ row_at w at xs
      below lt =
          let fits : at * w + w ≤ lane * w = row_fits at w lane w lt (omega arith) in
          let start : lane * w ≤ length xs = omega (arith, inside) in
          let e = take-put_mid_below (lane * w) k xs ys (at * w + w) fits start in
          ap (λ n. take n (drop (at * w) (put_mid (lane * w) k xs ys))) (sym whole)
          ∙ (between_is (put_mid (lane * w) k xs ys) (at * w) (at * w + w)
          ∙ (ap (drop (at * w)) e
          ∙ (sym (between_is xs (at * w) (at * w + w)) ∙ ap (λ n. take n (drop (at * w) xs)) whole)))

      above : lane < at → row_at w at (put_mid (lane * w) k xs ys) ≡ row_at w at xs
      above lt =
          let fits : lane * w + w ≤ at * w = row_fits lane w at w lt (omega arith) in
          let start : lane * w ≤ length xs = omega (arith, inside) in
          let past : lane * w + k ≤ at * w = omega (arith, fits, same) in
          ap (take w) (drop-put_mid (lane * w) k xs ys (at * w) past start (size ∙ sym same))

-- ---- registers before a launch

drop_zeros : (k m : ℕ) → drop {A = ℕ} k (replicate m 0) ≡ replicate (m - k) 0
drop_zeros zero m = let e : m ≡ m - 0 = omega arith in ap (λ (n : ℕ). replicate {A = ℕ} n 0) e
drop_zeros (suc k) zero = let e : 0 ≡ 0 - suc k = omega arith in ap (λ (n : ℕ). replicate {A = ℕ} n 0) e
drop_zeros (suc k) (suc m) = let e : m - k ≡ suc m - suc k = omega arith in drop_zeros k m ∙ ap (λ (n : ℕ). replicate {A = ℕ} n 0) e

take_zeros : (k m : ℕ) → k ≤ m → take {A = ℕ} k (replicate m 0) ≡ replicate k 0
take_zeros zero m le = refl
take_zeros (suc k) zero le = absurd (omega (arith, le))
take_zeros (suc k) (suc m) le = ap (λ (l : List ℕ). 0 ∷ l) (take_zeros k m (omega (arith, le)))

zeros_from : (at n w m : ℕ) → (at + n) * w ≤ m → rows_from at n w (replicate m 0) ≡ replicate n (replicate w 0)
zeros_from at zero w m le = refl
zeros_from at (suc n) w m le =
    let lt : at < at + suc n = omega arith in
    let fits : at * w + w ≤ (at + suc n) * w = row_fits at w (at + suc n) w lt (omega arith) in
    let inside : w ≤ m - at * w = omega (arith, fits, le) in
    let e : at + suc n ≡ suc at + n = omega arith in
    let rest : (suc at + n) * w ≤ m = subst (λ k. k * w ≤ m) e le in
    ap (λ x. x ∷ rows_from (suc at) n w (replicate m 0)) (ap (take w) (drop_zeros (at * w) m) ∙ take_zeros w (m - at * w) inside)
    ∙ ap (λ l. replicate w 0 ∷ l) (zeros_from (suc at) n w m rest)

-- so many lanes of zeros
pub rows_of_zeros : (n w : ℕ) → rows_from 0 n w (replicate (n * w) 0) ≡ replicate n (replicate w 0)
rows_of_zeros n w = let e : 0 + n ≡ n = omega arith in zeros_from 0 n w (n * w) (subst (λ k. k * w ≤ n * w) (sym e) (omega arith))
