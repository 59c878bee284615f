-- Lists over a range that grows by one; writes out of range.
use Rattle.std.proofs.Common.{◌≡◌, ℕ, zero, suc, ◌+◌, ◌<◌, ◌≤◌, List, [], ◌∷◌, ◌++◌, length, map, refl, ap, sym, ◌∙◌, arith, append_assoc, append-nil}
use Rattle.std.specs.Prelude.{slice_set, slice_index_or}
use Rattle.std.specs.List.{flat_map, range_with_len}
use Rattle.wg_machine.specs.Buffers.{Buffers, buffer_at, with_word}

-- a range from a, one longer
range_more : (a n : ℕ) → range_with_len a (suc n) ≡ range_with_len a n ++ (a + n) ∷ []
range_more a zero = let e : a + 0 ≡ a = omega arith in rw e refl
range_more a (suc n) =
    let e : a + 1 + n ≡ a + suc n = omega arith in
    ap (λ (xs : List ℕ). a ∷ xs) (range_more (a + 1) n ∙ ap (λ (k : ℕ). range_with_len (a + 1) n ++ k ∷ []) e)

map_append : {A B : Type 0} (f : A → B) (xs ys : List A) → map f (xs ++ ys) ≡ map f xs ++ map f ys
map_append f [] ys = refl
map_append f (x ∷ xs) ys = ap (λ (l : List _). f x ∷ l) (map_append f xs ys)

flat_append : {A B : Type 0} (f : A → List B) (xs ys : List A) → flat_map f (xs ++ ys) ≡ flat_map f xs ++ flat_map f ys
flat_append f [] ys = refl
flat_append f (x ∷ xs) ys = ap (λ (l : List _). f x ++ l) (flat_append f xs ys) ∙ sym (append_assoc (f x) (flat_map f xs) (flat_map f ys))

set_past : {A : Type 0} (xs : List A) (i : ℕ) (y : A) → length xs ≤ i → slice_set xs i y ≡ xs
set_past [] i y h = refl
set_past (x ∷ xs) zero y h = absurd (omega arith)
set_past (x ∷ xs) (suc i) y h = ap (λ (l : List _). x ∷ l) (set_past xs i y (omega arith))

set_same : (m : Buffers) (b : ℕ) → slice_set m b (buffer_at m b) ≡ m
set_same [] b = refl
set_same (x ∷ m) zero = refl
set_same (x ∷ m) (suc b) = ap (λ (l : Buffers). x ∷ l) (set_same m b)

-- a write out of range does nothing
pub no_write : (m : Buffers) (b w v : ℕ) → length (buffer_at m b) ≤ w → with_word m b w v ≡ m
no_write m b w v h = ap (λ (l : List ℕ). slice_set m b l) (set_past (buffer_at m b) w v h) ∙ set_same m b

pub map_more : {B : Type 0} (f : ℕ → B) (old new : List B) (n : ℕ) → new ≡ (old ++ map f (range_with_len 0 n)) ++ f n ∷ [] → new ≡ old ++ map f (range_with_len 0 (n + 1))
map_more f old new n e =
    let z : 0 + n ≡ n = omega arith in
    let s : n + 1 ≡ suc n = omega arith in
    e ∙ (append_assoc old (map f (range_with_len 0 n)) (f n ∷ []) ∙ ap (λ (l : List _). old ++ l) (sym (ap (λ (k : ℕ). map f (range_with_len 0 k)) s ∙ ap (map f) (range_more 0 n ∙ ap (λ (k : ℕ). range_with_len 0 n ++ k ∷ []) z) ∙ map_append f (range_with_len 0 n) (n ∷ []))))

pub flat_more : {B : Type 0} (f : ℕ → List B) (old new : List B) (n : ℕ) → new ≡ (old ++ flat_map f (range_with_len 0 n)) ++ f n → new ≡ old ++ flat_map f (range_with_len 0 (n + 1))
flat_more f old new n e =
    let z : 0 + n ≡ n = omega arith in
    let s : n + 1 ≡ suc n = omega arith in
    e ∙ (append_assoc old (flat_map f (range_with_len 0 n)) (f n) ∙ ap (λ (l : List _). old ++ l) (sym (ap (λ (k : ℕ). flat_map f (range_with_len 0 k)) s ∙ ap (flat_map f) (range_more 0 n ∙ ap (λ (k : ℕ). range_with_len 0 n ++ k ∷ []) z) ∙ flat_append f (range_with_len 0 n) (n ∷ []) ∙ ap (λ (l : List _). flat_map f (range_with_len 0 n) ++ l) (append-nil (f n)))))

pub no_buffer : (m : Buffers) (b w v : ℕ) → length m ≤ b → with_word m b w v ≡ m
no_buffer m b w v h = set_past m b (slice_set (buffer_at m b) w v) h

pub at_buffer : (m : Buffers) (b : ℕ) (x : List ℕ) → b < length m → x ≡ slice_index_or m b x → x ≡ buffer_at m b
at_buffer [] b x h e = absurd (omega arith)
at_buffer (y ∷ m) zero x h e = e
at_buffer (y ∷ m) (suc b) x h e = at_buffer m b x (omega arith) e

pub set_twice : {A : Type 0} (xs : List A) (i : ℕ) (x y : A) → slice_set (slice_set xs i x) i y ≡ slice_set xs i y
set_twice [] i x y = refl
set_twice (z ∷ xs) zero x y = refl
set_twice (z ∷ xs) (suc i) x y = ap (λ (l : List _). z ∷ l) (set_twice xs i x y)
