-- Runs of bytes at the front of a text.
use Rattle.std.proofs.Common.{◌≡◌, ℕ, zero, suc, ◌+◌, ◌-◌, ◌<◌, ◌≤◌, Bool, true, false, ◌&&◌, cond, List, [], ◌∷◌, length, take, drop, refl, sym, ◌∙◌, ap, arith}
use Rattle.std.specs.List.{list_all, prefix_len}

step_within : (v : Bool) (n m : ℕ) → n ≤ m → cond v (1 + n) 0 ≤ suc m
step_within true n m h = omega arith
step_within false n m h = omega arith

pub run_within : (p : ℕ → Bool) (text : List ℕ) → prefix_len p text ≤ length text
run_within p [] = omega arith
run_within p (b ∷ bs) = step_within (p b) (prefix_len p bs) (length bs) (run_within p bs)

-- each byte of the run passes
all_step : (p : ℕ → Bool) (b : ℕ) (bs : List ℕ) (v : Bool) → p b ≡ v → list_all p (take (prefix_len p bs) bs) ≡ true → list_all p (take (cond v (1 + prefix_len p bs) 0) (b ∷ bs)) ≡ true
all_step p b bs true e h = let s : 1 + prefix_len p bs ≡ suc (prefix_len p bs) = omega arith in rw s (rw (e, h) refl)
all_step p b bs false e h = refl

pub all_run : (p : ℕ → Bool) (text : List ℕ) → list_all p (take (prefix_len p text) text) ≡ true
all_run p [] = refl
all_run p (b ∷ bs) = all_step p b bs (p b) refl (all_run p bs)

-- and not each byte of a longer front does
past_step : (v : Bool) (n m : ℕ) (w : Bool) → cond v (1 + n) 0 < suc m → (n < m → w ≡ false) → (v && w) ≡ false
past_step true n m w h ih = ih (omega arith)
past_step false n m w h ih = refl

pub all_past : (p : ℕ → Bool) (text : List ℕ) (m : ℕ) → prefix_len p text < m → m ≤ length text → list_all p (take m text) ≡ false
all_past p [] m h k = absurd (omega arith)
all_past p (b ∷ bs) zero h k = absurd (omega arith)
all_past p (b ∷ bs) (suc m) h k = past_step (p b) (prefix_len p bs) m (list_all p (take m bs)) h (λ l. all_past p bs m l (omega arith))

-- the run of a front
cut_step : (v : Bool) (n n' m : ℕ) → (n ≤ m → n' ≡ n) → cond v (1 + n) 0 ≤ suc m → cond v (1 + n') 0 ≡ cond v (1 + n) 0
cut_step true n n' m ih h = let e = ih (omega arith) in omega arith
cut_step false n n' m ih h = refl

none_step : (v : Bool) (n : ℕ) → cond v (1 + n) 0 ≤ 0 → 0 ≡ cond v (1 + n) 0
none_step true n h = absurd (omega arith)
none_step false n h = refl

pub run_of_front : (p : ℕ → Bool) (text : List ℕ) (m : ℕ) → prefix_len p text ≤ m → prefix_len p (take m text) ≡ prefix_len p text
run_of_front p [] zero h = refl
run_of_front p [] (suc m) h = refl
run_of_front p (b ∷ bs) zero h = none_step (p b) (prefix_len p bs) h
run_of_front p (b ∷ bs) (suc m) h = cut_step (p b) (prefix_len p bs) (prefix_len p (take m bs)) m (λ l. run_of_front p bs m l) h

within_step : (v : Bool) (n n' m : ℕ) → (m < n → n' ≡ m) → suc m < cond v (1 + n) 0 → cond v (1 + n') 0 ≡ suc m
within_step true n n' m ih h = let e = ih (omega arith) in omega arith
within_step false n n' m ih h = absurd (omega arith)

pub run_of_run : (p : ℕ → Bool) (text : List ℕ) (m : ℕ) → m < prefix_len p text → prefix_len p (take m text) ≡ m
run_of_run p [] m h = absurd (omega arith)
run_of_run p (b ∷ bs) zero h = refl
run_of_run p (b ∷ bs) (suc m) h = within_step (p b) (prefix_len p bs) (prefix_len p (take m bs)) m (λ l. run_of_run p bs m l) h

-- a front of a front, and what stands after it
pub take_of_take : (text : List ℕ) (n m : ℕ) → n ≤ m → take n (take m text) ≡ take n text
take_of_take [] zero zero h = refl
take_of_take [] zero (suc m) h = refl
take_of_take [] (suc n) zero h = absurd (omega arith)
take_of_take [] (suc n) (suc m) h = refl
take_of_take (b ∷ bs) zero m h = refl
take_of_take (b ∷ bs) (suc n) zero h = absurd (omega arith)
take_of_take (b ∷ bs) (suc n) (suc m) h = ap (λ z. b ∷ z) (take_of_take bs n m (omega arith))

take_none : (k : ℕ) → take {A = ℕ} k [] ≡ []
take_none zero = refl
take_none (suc k) = refl

drop_none : (k : ℕ) → drop {A = ℕ} k [] ≡ []
drop_none zero = refl
drop_none (suc k) = refl

pub drop_of_take : (text : List ℕ) (n m : ℕ) → n ≤ m → drop n (take m text) ≡ take (m - n) (drop n text)
drop_of_take text zero m h = let e : m - 0 ≡ m = omega arith in rw e refl
drop_of_take [] (suc n) m h = ap (drop (suc n)) (take_none m) ∙ sym (take_none (m - suc n))
drop_of_take (b ∷ bs) (suc n) zero h = absurd (omega arith)
drop_of_take (b ∷ bs) (suc n) (suc m) h = let e : suc m - suc n ≡ m - n = omega arith in rw e (drop_of_take bs n m (omega arith))
