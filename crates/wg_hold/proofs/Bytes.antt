-- The slots in use and their bytes, where one unit's number is set.
use Rattle.std.proofs.Common.{◌≡◌, ℕ, zero, suc, ◌+◌, ◌-◌, ◌*◌, ◌<◌, ◌≤◌, ◌^◌, List, [], ◌∷◌, get_or, length, take, refl, ap, arith}
use Rattle.std.specs.Prelude.{replicate, slice_set, slice_index}
use Rattle.wg_machine.specs.declared.shape.Shape.{Shape}
use Rattle.wg_machine.specs.Units.{stride_at}
use Rattle.wg_standing.specs.Moves.{slot_bytes}
use Rattle.wg_keep.proofs.Rows.{at_most, bytes_few, bytes_less}
use Rattle.wg_hold.specs.Parts.{slots_in}

pub index_none : (n v : ℕ) → slice_index (replicate n 0) v ≡ 0
index_none zero v = refl
index_none (suc n) zero = refl
index_none (suc n) (suc v) = index_none n v

pub length_none : (n x : ℕ) → length (replicate n x) ≡ n
length_none zero x = refl
length_none (suc n) x = ap suc (length_none n x)

pub no_bytes : (shape : Shape) (v n : ℕ) → slot_bytes shape v (replicate n 0) ≡ 0
no_bytes shape v zero = refl
no_bytes shape v (suc n) = let z : 0 * stride_at shape v ≡ 0 = omega arith in let k = no_bytes shape (v + 1) n in omega (arith, z, k)

-- ---- bytes

pub one_less : (shape : Shape) (u : ℕ) (used : List ℕ) → u < length used → 1 ≤ slice_index used u → slot_bytes shape 0 (slice_set used u (slice_index used u - 1)) + stride_at shape u ≡ slot_bytes shape 0 used
one_less shape u used h some = bytes_less shape u (slice_index used u - 1) used h (omega (arith, some))

pub bytes_small : (shape : Shape) (used : List ℕ) → length used ≤ 8192 → ((u : ℕ) → slice_index used u ≤ 2 ^ 32) → ((u : ℕ) → stride_at shape u ≤ 8192) → slot_bytes shape 0 used ≤ 2 ^ 58
bytes_small shape used few most small =
    let a = bytes_few shape 0 (2 ^ 32) 8192 used most small in
    let b = at_most (length used) 8192 (2 ^ 32 * 8192) (2 ^ 32 * 8192) few (omega arith) in
    omega (arith, a, b)

-- ---- slots

pub slots_next : (ns : List ℕ) (i d : ℕ) → i < length ns → slots_in (take (i + 1) ns) ≡ slots_in (take i ns) + get_or ns i d
slots_next [] i d h = absurd (omega (arith, h))
slots_next (m ∷ ns) zero d h = omega arith
slots_next (m ∷ ns) (suc i) d h =
    let k = slots_next ns i d (omega (arith, h)) in
    let z : suc i + 1 ≡ suc (i + 1) = omega arith in
    let e = ap (λ (j : ℕ). slots_in (take j (m ∷ ns))) z in
    omega (arith, k, e)

pub slots_all : (ns : List ℕ) (n : ℕ) → length ns ≤ n → slots_in (take n ns) ≡ slots_in ns
slots_all [] zero h = refl
slots_all [] (suc n) h = refl
slots_all (m ∷ ns) zero h = absurd (omega (arith, h))
slots_all (m ∷ ns) (suc n) h = let k = slots_all ns n (omega (arith, h)) in omega (arith, k)

slots_set : (ns : List ℕ) (u n : ℕ) → u < length ns → slots_in (slice_set ns u n) + slice_index ns u ≡ slots_in ns + n
slots_set [] u n h = absurd (omega (arith, h))
slots_set (m ∷ ns) zero n h = omega arith
slots_set (m ∷ ns) (suc u) n h = let k = slots_set ns u n (omega (arith, h)) in omega (arith, k)

pub slots_less : (ns : List ℕ) (u : ℕ) → u < length ns → 1 ≤ slice_index ns u → slots_in (slice_set ns u (slice_index ns u - 1)) + 1 ≡ slots_in ns
slots_less ns u h some = let k = slots_set ns u (slice_index ns u - 1) h in omega (arith, k, some)

pub slots_within : (used bounds : List ℕ) → length used ≡ length bounds → ((v : ℕ) → slice_index used v ≤ slice_index bounds v) → slots_in used ≤ slots_in bounds
slots_within [] bounds long h = omega arith
slots_within (n ∷ used) [] long h = absurd (cc)
slots_within (n ∷ used) (m ∷ bounds) long h =
    let a = h 0 in
    let k = slots_within used bounds (let l = long in omega (arith, l)) (λ v. h (suc v)) in
    omega (arith, a, k)

pub slots_below : (used bounds : List ℕ) (u : ℕ) → length used ≡ length bounds → ((v : ℕ) → slice_index used v ≤ slice_index bounds v) → slice_index used u < slice_index bounds u → slots_in used < slots_in bounds
slots_below [] [] u long h less = absurd (omega (arith, less))
slots_below [] (m ∷ bounds) u long h less = absurd (cc)
slots_below (n ∷ used) [] u long h less = absurd (cc)
slots_below (n ∷ used) (m ∷ bounds) zero long h less =
    let k = slots_within used bounds (let l = long in omega (arith, l)) (λ v. h (suc v)) in
    omega (arith, less, k)
slots_below (n ∷ used) (m ∷ bounds) (suc u) long h less =
    let a = h 0 in
    let k = slots_below used bounds u (let l = long in omega (arith, l)) (λ v. h (suc v)) less in
    omega (arith, a, k)
