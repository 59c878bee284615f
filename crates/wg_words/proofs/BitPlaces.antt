-- Counts of bits as sums and searches over the places of bits.
use Rattle.std.proofs.Common.{◌≡◌, ℕ, zero, suc, ◌+◌, ◌-◌, ◌*◌, ◌/◌, ◌%◌, ◌^◌, ◌<◌, ◌≤◌, Bool, true, false, Some, None, if◌then◌else◌, refl, sym, ◌∙◌, ap, subst, arith, inl, inr, ◌⊎◌}
use mir.Val.{bits}
use Rattle.std.specs.Int.{Width, bit_at, reverse_bits_onto, trailing_zeros}
use Rattle.std.specs.Int.Count.{ones_step, count_leading_zeros, count_trailing_zeros}
use Rattle.std.specs.Int.RustNames.{count_ones}
use Rattle.std.proofs.lemmas.Nat.{ones_le_self, leading_top, le-div, shr_below, pow_pos}
use Rattle.std.proofs.lemmas.Nat.Bits.{bit_at-suc, bit_at_lowest, bit_at_above, bit_at-trailing_zeros, bit_at-zero}
use Rattle.std.proofs.Math.Nat.{pow-suc}
use Rattle.wg_words.specs.Words.{sum_below, greatest_below, least_below, is_bit_set, set_bits, first_bit_high, first_bit_low, reversed, all_ones}

-- the first term apart
sum-front : (f : ℕ → ℕ) (n : ℕ) → sum_below f (suc n) ≡ f 0 + sum_below (λ k. f (suc k)) n
unfolding sum_below
sum-front f zero = omega arith
sum-front f (suc n) = let ih = sum-front f n in omega arith

sum-same : (f g : ℕ → ℕ) (n : ℕ) → ((k : ℕ) → f k ≡ g k) → sum_below f n ≡ sum_below g n
unfolding sum_below
sum-same f g zero h = refl
sum-same f g (suc n) h = let ih = sum-same f g n h in let e = h n in omega arith

pub count_ones_is : (w a : ℕ) → a < 2 ^ w → count_ones a ≡ set_bits w a
unfolding sum_below
count_ones_is zero a h = let e = ones_le_self a in omega arith
count_ones_is (suc w) a h =
    let half : a / 2 < 2 ^ w = omega (arith, pow-suc 2 w) in
    let ih = count_ones_is w (a / 2) half in
    let front = sum-front (λ k. bit_at a k) w in
    let same = sum-same (λ k. bit_at a (suc k)) (λ k. bit_at (a / 2) k) w (λ k. bit_at-suc a k) in
    let step = ones_step a in let lowest = bit_at_lowest a in
    omega arith

worth_same : (n k i : ℕ) → bit_at n (suc i) * 2 ^ (suc k - 1 - suc i) ≡ bit_at (n / 2) i * 2 ^ (k - 1 - i)
worth_same n k i = let e : suc k - 1 - suc i ≡ k - 1 - i = omega arith in rw (e, bit_at-suc n i) refl

regroup : (a r p s : ℕ) → (a * 2 + r) * p + s ≡ a * (p * 2) + (r * p + s)
regroup a r p s = grind arith

pub reverse_onto_is : (k n a : ℕ) → reverse_bits_onto k n a ≡ a * 2 ^ k + reversed k n
unfolding reverse_bits_onto sum_below
reverse_onto_is zero n a = omega arith
reverse_onto_is (suc k) n a =
    let ih : reverse_bits_onto k (n / 2) (a * 2 + n % 2) ≡ (a * 2 + n % 2) * 2 ^ k + reversed k (n / 2) = reverse_onto_is k (n / 2) (a * 2 + n % 2) in
    let front = sum-front (λ i. bit_at n i * 2 ^ (suc k - 1 - i)) k in
    let same = sum-same (λ i. bit_at n (suc i) * 2 ^ (suc k - 1 - suc i)) (λ i. bit_at (n / 2) i * 2 ^ (k - 1 - i)) k (worth_same n k) in
    let e : suc k - 1 - 0 ≡ k = omega arith in
    let first : bit_at n 0 * 2 ^ (suc k - 1 - 0) ≡ n % 2 * 2 ^ k = rw (e, bit_at_lowest n) refl in
    let all : reversed (suc k) n ≡ n % 2 * 2 ^ k + reversed k (n / 2) = omega arith in
    rw (all, pow-suc 2 k) (ih ∙ regroup a (n % 2) (2 ^ k) (reversed k (n / 2)))

order : (n m : ℕ) → (n < m) ⊎ ((m < n) ⊎ (n ≡ m))
order n m = grind arith

greatest-none : (p : ℕ → Bool) (n : ℕ) → ((k : ℕ) → p k ≡ false) → greatest_below p n ≡ None
unfolding greatest_below
greatest-none p zero h = refl
greatest-none p (suc n) h = let e = h n in rw e (greatest-none p n h)

pub greatest_is : (p : ℕ → Bool) (j n : ℕ) → j < n → p j ≡ true → ((k : ℕ) → j < k → p k ≡ false) → greatest_below p n ≡ Some j
unfolding greatest_below
greatest_is p j zero h at above = absurd (omega arith)
greatest_is p j (suc n) h at above = elim (order j n) [
  | inl lt ↦ let e = above n lt in rw e (greatest_is p j n lt at above)
  | inr (inl gt) ↦ absurd (omega arith)
  | inr (inr same) ↦ let P : ℕ → Type 0 = λ m. (if p m then Some m else greatest_below p m) ≡ Some j in subst P same (rw at refl)
]

least-none : (p : ℕ → Bool) (n : ℕ) → ((k : ℕ) → k < n → p k ≡ false) → least_below p n ≡ None
unfolding least_below
least-none p zero h = refl
least-none p (suc n) h = let e = h n (omega arith) in let ih = least-none p n (λ k l. h k (omega arith)) in rw (ih, e) refl

pub least_is : (p : ℕ → Bool) (j n : ℕ) → j < n → p j ≡ true → ((k : ℕ) → k < j → p k ≡ false) → least_below p n ≡ Some j
unfolding least_below
least_is p j zero h at below = absurd (omega arith)
least_is p j (suc n) h at below = elim (order j n) [
  | inl lt ↦ let ih = least_is p j n lt at below in rw ih refl
  | inr (inl gt) ↦ absurd (omega arith)
  | inr (inr same) ↦ let none = least-none p n (λ k l. below k (omega arith)) in
      let at' : p n ≡ true = ap p (sym same) ∙ at in rw (none, at') (ap Some (sym same))
]

not_set : (a k : ℕ) → bit_at a k ≡ 0 → is_bit_set a k ≡ false
not_set a k e = rw e refl

is_set : (a k : ℕ) → bit_at a k ≡ 1 → is_bit_set a k ≡ true
is_set a k e = rw e refl

pub high_of_zero : (w a : ℕ) → a ≡ 0 → first_bit_high w a ≡ all_ones w
high_of_zero w a e = let none = greatest-none (is_bit_set a) w (λ k. not_set a k (ap (λ z. bit_at z k) e ∙ bit_at-zero k)) in rw none refl

pub low_of_zero : (w a : ℕ) → a ≡ 0 → first_bit_low w a ≡ all_ones w
low_of_zero w a e = let none = least-none (is_bit_set a) w (λ k l. not_set a k (ap (λ z. bit_at z k) e ∙ bit_at-zero k)) in rw none refl

pub high_is : (w a : ℕ) → 0 < a → a < 2 ^ w → w - 1 - count_leading_zeros w a ≡ first_bit_high w a
high_is w a pos fits =
    let top = leading_top w a pos fits in
    let j : ℕ = top.0 in
    let whole : a / 2 ^ j ≡ 1 = (let low : 1 ≤ a / 2 ^ j = le-div 1 a (2 ^ j) (pow_pos j) (omega (arith, top.2)) in
    let h : a < 2 ^ (1 + j) = subst (λ x. a < 2 ^ x) (omega arith) top.3 in
    let high : a / 2 ^ j < 2 ^ 1 = shr_below a 1 j h in omega arith) in
    let one : bit_at a j ≡ 1 = rw whole refl in
    let is = greatest_is (is_bit_set a) j w (omega (arith, top.1)) (is_set a j one) (λ k above. not_set a k (bit_at_above a (suc j) k top.3 (omega arith))) in
    rw is (omega (arith, top.1))

pub low_is : (w : Width) (a : ℕ) → 0 < a → a < 2 ^ bits w → count_trailing_zeros (bits w) a ≡ first_bit_low (bits w) a
low_is w a pos fits =
    let t = bit_at-trailing_zeros w a pos fits in
    let is = least_is (is_bit_set a) (trailing_zeros w a) (bits w) t.0 (is_set a _ t.1) (λ k below. not_set a k (t.2 k below)) in
    rw is refl
