-- Lists of which one item is set.
use Rattle.std.proofs.Common.{◌≡◌, ◌≢◌, ℕ, zero, suc, ◌+◌, ◌*◌, ◌<◌, ◌≤◌, List, [], ◌∷◌, length, refl, ap, ◌∙◌, subst, arith, Option, Some, unwrap_or}
use Rattle.std.specs.Prelude.{slice_get, slice_set, slice_index}
use Rattle.wg_machine.specs.declared.shape.Shape.{Shape}
use Rattle.wg_machine.specs.Units.{stride_at}
use Rattle.wg_slots.specs.SlotsOf.{SlotsOf, slots_at}
use Rattle.wg_standing.specs.Moves.{slot_bytes}

pub get_set : {X : Type 0} (xs : List X) (u : ℕ) (x : X) → u < length xs → slice_get (slice_set xs u x) u ≡ Some x
get_set [] u x h = absurd (omega arith)
get_set (y ∷ xs) zero x h = refl
get_set (y ∷ xs) (suc u) x h = get_set xs u x (omega arith)

pub get_other : {X : Type 0} (xs : List X) (u v : ℕ) (x : X) → v ≢ u → slice_get (slice_set xs u x) v ≡ slice_get xs v
get_other [] u v x d = refl
get_other (y ∷ xs) zero zero x d = absurd (d refl)
get_other (y ∷ xs) zero (suc v) x d = refl
get_other (y ∷ xs) (suc u) zero x d = refl
get_other (y ∷ xs) (suc u) (suc v) x d = get_other xs u v x (λ (e : v ≡ u). d (ap suc e))

pub length_set : {X : Type 0} (xs : List X) (u : ℕ) (x : X) → length (slice_set xs u x) ≡ length xs
length_set [] u x = refl
length_set (y ∷ xs) zero x = refl
length_set (y ∷ xs) (suc u) x = ap suc (length_set xs u x)

pub index_set : (xs : List ℕ) (u n : ℕ) → u < length xs → slice_index (slice_set xs u n) u ≡ n
index_set [] u n h = absurd (omega arith)
index_set (y ∷ xs) zero n h = refl
index_set (y ∷ xs) (suc u) n h = index_set xs u n (omega arith)

pub index_other : (xs : List ℕ) (u v n : ℕ) → v ≢ u → slice_index (slice_set xs u n) v ≡ slice_index xs v
index_other [] u v n d = refl
index_other (y ∷ xs) zero zero n d = absurd (d refl)
index_other (y ∷ xs) zero (suc v) n d = refl
index_other (y ∷ xs) (suc u) zero n d = refl
index_other (y ∷ xs) (suc u) (suc v) n d = index_other xs u v n (λ (e : v ≡ u). d (ap suc e))

-- the slots of other units stay
pub slots_other : (old new : List SlotsOf) (u v : ℕ) → new ≡ slice_set old u (slots_at new u) → v ≢ u → slots_at new v ≡ slots_at old v
slots_other old new u v e d =
    let others = get_other old u v (slots_at new u) d in
    slots_ap (slots_at new u) others
  where
    slots_ap : (k : SlotsOf) → slice_get (slice_set old u (slots_at new u)) v ≡ slice_get old v → slots_at new v ≡ slots_at old v
    slots_ap k f = ap (λ (l : List SlotsOf). slots_at l v) e ∙ ap (λ (o : Option SlotsOf). unwrap_or o (record { slots = 0; words = 0; places = []; records = [] })) f

pub slots_length : (old new : List SlotsOf) (u : ℕ) → new ≡ slice_set old u (slots_at new u) → length new ≡ length old
slots_length old new u e = ap (λ (l : List SlotsOf). length l) e ∙ length_set old u (slots_at new u)

-- the bytes of slots where the number at one unit is set
pub bytes_set : (shape : Shape) (v u n : ℕ) (used : List ℕ) → u < length used → slot_bytes shape v (slice_set used u n) + slice_index used u * stride_at shape (v + u) ≡ slot_bytes shape v used + n * stride_at shape (v + u)
bytes_set shape v u n [] h = absurd (omega arith)
bytes_set shape v zero n (m ∷ used) h =
    let z : v + 0 ≡ v = omega arith in
    let a = ap (λ (w : ℕ). m * stride_at shape w) z in
    let b = ap (λ (w : ℕ). n * stride_at shape w) z in
    omega (arith, a, b)
bytes_set shape v (suc u) n (m ∷ used) h =
    let z : v + 1 + u ≡ v + suc u = omega arith in
    let ih = bytes_set shape (v + 1) u n used (omega arith) in
    let a = ap (λ (w : ℕ). slice_index used u * stride_at shape w) z in
    let b = ap (λ (w : ℕ). n * stride_at shape w) z in
    omega (arith, ih, a, b)

one_more : (n w : ℕ) → (n + 1) * w ≡ n * w + w
one_more n w = grind arith

pub bytes_more : (shape : Shape) (u : ℕ) (used : List ℕ) → u < length used → slot_bytes shape 0 (slice_set used u (slice_index used u + 1)) ≡ slot_bytes shape 0 used + stride_at shape u
bytes_more shape u used h =
    let z : 0 + u ≡ u = omega arith in
    let a = bytes_set shape 0 u (slice_index used u + 1) used h in
    let a' = subst (λ (w : ℕ). slot_bytes shape 0 (slice_set used u (slice_index used u + 1)) + slice_index used u * stride_at shape w ≡ slot_bytes shape 0 used + (slice_index used u + 1) * stride_at shape w) z a in
    let b = one_more (slice_index used u) (stride_at shape u) in
    omega (arith, a', b)

pub bytes_less : (shape : Shape) (u n : ℕ) (used : List ℕ) → u < length used → slice_index used u ≡ n + 1 → slot_bytes shape 0 (slice_set used u n) + stride_at shape u ≡ slot_bytes shape 0 used
bytes_less shape u n used h e =
    let z : 0 + u ≡ u = omega arith in
    let a = bytes_set shape 0 u n used h in
    let a' = subst (λ (w : ℕ). slot_bytes shape 0 (slice_set used u n) + slice_index used u * stride_at shape w ≡ slot_bytes shape 0 used + n * stride_at shape w) z a in
    let b = one_more n (stride_at shape u) in
    let c = ap (λ (m : ℕ). m * stride_at shape u) e in
    omega (arith, a', b, c)

pub at_most : (m n w s : ℕ) → m ≤ n → w ≤ s → m * w ≤ n * s
at_most m n w s h k = grind arith

-- few slots of few bytes at each unit
pub bytes_few : (shape : Shape) (v bound most : ℕ) (used : List ℕ) → ((u : ℕ) → slice_index used u ≤ bound) → ((u : ℕ) → stride_at shape u ≤ most) → slot_bytes shape v used ≤ length used * (bound * most)
bytes_few shape v bound most [] few small = omega arith
bytes_few shape v bound most (n ∷ used) few small =
    let a = at_most n bound (stride_at shape v) most (few 0) (small v) in
    let ih = bytes_few shape (v + 1) bound most used (λ u. few (suc u)) small in
    let b = more (length used) (bound * most) in
    omega (arith, a, ih, b)
  where
    more : (n w : ℕ) → suc n * w ≡ w + n * w
    more n w = grind arith
