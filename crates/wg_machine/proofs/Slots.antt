-- Records that fit the slots of a plan have bytes within the plan's.
use Rattle.std.proofs.Common.{◌≡◌, ℕ, zero, suc, ◌+◌, ◌*◌, ◌≤◌, Bool, true, false, List, [], ◌∷◌, length, refl, ap, sym, arith}
use Rattle.std.specs.Prelude.{if◌then◌else◌, ◌==◌, ◌&&◌, ◌||◌, nat_le, nat_lt, count_by, sum_by, slice_get, unwrap_or}
use Rattle.std.specs.Option.{option_map}
use Rattle.std.specs.List.{range_with_len}
use Rattle.std.proofs.Math.Nat.{add-mul}
use Rattle.std.proofs.lemmas.Bool.Decides.{nat_tests, Decides-eqb}
use Rattle.std.proofs.lemmas.List.Sums.{sum_by-cons}
use Rattle.wg_machine.specs.declared.shape.Shape.{Shape}
use Rattle.wg_machine.specs.declared.shape.Unit.{Unit}
use Rattle.wg_machine.specs.declared.launch.Live.{Live}
use Rattle.wg_machine.specs.Bytes.{live_bytes, plan_bytes, KeepsSlots}
use Rattle.wg_machine.specs.Need.{most}
use Rattle.wg_machine.specs.State.{State}
use Rattle.wg_machine.specs.Units.{stride_at}
use Rattle.wg_machine.proofs.Counts.{pay, count_cons}

-- in a slot of the unit, and no entry
abbrev is_in_slot : ℕ → ℕ → Live → Bool
is_in_slot entries v x = (x.unit == v) && nat_le entries x.number

-- the bytes of the slots in use at the units from v on
abbrev bytes_from : Shape → ℕ → ℕ → ℕ → List Live → ℕ
bytes_from shape entries v zero bag = 0
bytes_from shape entries v (suc n) bag = count_by (is_in_slot entries v) bag * stride_at shape v + bytes_from shape entries (v + 1) n bag

abbrev bytes_of_one : Shape → ℕ → Live → ℕ
bytes_of_one shape entries x = if nat_lt x.number entries then 0 else stride_at shape x.unit

no_stride : (units : List Unit) (u : ℕ) → length units ≤ u → unwrap_or (option_map (λ (n : Unit). n.stride) (slice_get units u)) 0 ≡ 0
no_stride [] u h = refl
no_stride (n ∷ units) zero h = absurd (omega arith)
no_stride (n ∷ units) (suc u) h = no_stride units u (omega arith)

-- one record more at a unit
one_slot : (a b : Bool) (k s t : ℕ) → (a ≡ true → t ≡ s) → (pay (a && b) 1 + k) * t ≡ pay (a && b) s + k * t
one_slot true true k s t h = let e = h refl in let m = add-mul 1 k t in omega (arith, e, m)
one_slot true false k s t h = let z : 0 + k ≡ k = omega arith in rw z (omega arith)
one_slot false b k s t h = let z : 0 + k ≡ k = omega arith in rw z (omega arith)

-- A record more adds its stride at its unit, if that is among the units from v on.
bytes_cons : (shape : Shape) (entries v n : ℕ) (x : Live) (bag : List Live) → bytes_from shape entries v n (x ∷ bag) ≡ pay (nat_le v x.unit && nat_lt x.unit (v + n) && nat_le entries x.number) (stride_at shape x.unit) + bytes_from shape entries v n bag
bytes_cons shape entries v zero x bag =
    let e : (nat_le v x.unit && nat_lt x.unit (v + 0) && nat_le entries x.number) ≡ false = grind (arith, nat_tests) in
    rw e (omega arith)
bytes_cons shape entries v (suc n) x bag =
    let ih = bytes_cons shape entries (v + 1) n x bag in
    let c = ap (λ k. k * stride_at shape v) (count_cons (is_in_slot entries v) x bag) in
    let t = one_slot (x.unit == v) (nat_le entries x.number) (count_by (is_in_slot entries v) bag) (stride_at shape x.unit) (stride_at shape v) (λ e. ap (stride_at shape) (sym ((Decides-eqb x.unit v).0 e))) in
    let s = split (x.unit == v) (nat_le v x.unit && nat_lt x.unit (v + suc n)) (nat_le (v + 1) x.unit && nat_lt x.unit (v + 1 + n)) (nat_le entries x.number) (stride_at shape x.unit) (grind (arith, nat_tests)) (λ e. grind (arith, nat_tests)) in
    omega (arith, ih, c, t, s)
  where
    split : (a r q b : Bool) (s : ℕ) → r ≡ (a || q) → (a ≡ true → q ≡ false) → pay (a && b) s + pay (q && b) s ≡ pay (r && b) s
    split true r true b s e h = absurd (let f = h refl in cc)
    split true r false true s e h = rw e (omega arith)
    split true r false false s e h = rw e (omega arith)
    split false r q b s e h = rw e (omega arith)

bytes_none : (shape : Shape) (entries v n : ℕ) → bytes_from shape entries v n [] ≡ 0
bytes_none shape entries v zero = refl
bytes_none shape entries v (suc n) = let z : 0 * stride_at shape v ≡ 0 = omega arith in let k = bytes_none shape entries (v + 1) n in omega (arith, z, k)

-- the bytes of live records are at most those of the slots that they use
bytes_used : (shape : Shape) (entries : ℕ) (bag : List Live) → sum_by (bytes_of_one shape entries) bag ≤ bytes_from shape entries 0 (length shape.units) bag
bytes_used shape entries [] = omega arith
bytes_used shape entries (x ∷ bag) =
    let n = length shape.units in
    let c = bytes_cons shape entries 0 n x bag in
    let d = sum_by-cons (bytes_of_one shape entries) x bag in
    let ih = bytes_used shape entries bag in
    let one = choice (nat_lt x.unit n) refl in
    omega (arith, c, d, ih, one)
  where
    choice : (b : Bool) → nat_lt x.unit (length shape.units) ≡ b → bytes_of_one shape entries x ≤ pay (nat_le 0 x.unit && nat_lt x.unit (0 + length shape.units) && nat_le entries x.number) (stride_at shape x.unit)
    choice true e =
        let f : (nat_le 0 x.unit && nat_lt x.unit (0 + length shape.units) && nat_le entries x.number) ≡ nat_le entries x.number = grind (arith, nat_tests) in
        rw f (grind (arith, nat_tests))
    choice false e =
        let z : stride_at shape x.unit ≡ 0 = no_stride shape.units x.unit (grind (arith, nat_tests)) in
        rw z (grind (arith, nat_tests))

times_le : (a b c : ℕ) → a ≤ b → a * c ≤ b * c
times_le a b c h = grind arith

spread : (w m s r : ℕ) → w * (m * s + r) ≡ w * m * s + w * r
spread w m s r = grind arith

bytes_fit : (shape : Shape) (width entries v n : ℕ) (bag : List Live) → ((w : ℕ) → count_by (is_in_slot entries w) bag ≤ width * most shape w) → bytes_from shape entries v n bag ≤ width * sum_by (λ w. most shape w * stride_at shape w) (range_with_len v n)
bytes_fit shape width entries v zero bag h = omega arith
bytes_fit shape width entries v (suc n) bag h =
    let rest = sum_by (λ w. most shape w * stride_at shape w) (range_with_len (v + 1) n) in
    let m = times_le (count_by (is_in_slot entries v) bag) (width * most shape v) (stride_at shape v) (h v) in
    let ih = bytes_fit shape width entries (v + 1) n bag h in
    let c = ap (λ k. width * k) (sum_by-cons (λ w. most shape w * stride_at shape w) v (range_with_len (v + 1) n)) in
    let d = spread width (most shape v) (stride_at shape v) rest in
    omega (arith, m, ih, c, d)

pub bytes_held : (shape : Shape) (width entries : ℕ) (s : State) → KeepsSlots shape width entries s → live_bytes shape entries s ≤ plan_bytes shape width
bytes_held shape width entries s keeps =
    let a = bytes_used shape entries s.bag in
    let b = bytes_fit shape width entries 0 (length shape.units) s.bag keeps in
    omega (arith, a, b)
