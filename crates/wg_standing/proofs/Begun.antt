-- A core that begins stands for its script.
use Rattle.std.proofs.Common.{◌≡◌, ℕ, zero, suc, ◌+◌, ◌*◌, ◌≤◌, Bool, true, false, List, [], ◌∷◌, length, refl, ap, sym, ◌∙◌, subst, arith}
use Rattle.std.specs.Prelude.{if◌then◌else◌, ◌==◌, ◌&&◌, filter, count_by, nat_le, replicate, slice_index}
use Rattle.std.specs.List.{flat_map}
use Rattle.std.proofs.lemmas.Bool.Decides.{nat_tests}
use Rattle.wg_machine.specs.declared.launch.Limits.{Limits}
use Rattle.wg_machine.specs.declared.launch.Live.{Live}
use Rattle.wg_machine.specs.declared.launch.Sent.{Sent}
use Rattle.wg_machine.specs.declared.shape.Shape.{Shape}
use Rattle.wg_machine.specs.Buffers.{Buffers}
use Rattle.wg_machine.specs.LaunchMeaning.{Meaning, Arrives}
use Rattle.wg_machine.specs.State.{kept, born, start as start_of}
use Rattle.wg_machine.specs.Bytes.{live_bytes}
use Rattle.wg_machine.specs.Units.{stride_at}
use Rattle.wg_standing.specs.Standing.{Rises, IsPlaced, StandsFor, by_unit, counts, in_slot, is_entry_record, opened_of}
use Rattle.wg_standing.specs.Core.{core_begun}
use Rattle.wg_standing.specs.Moves.{slot_bytes}
use Rattle.wg_words.specs.Each.{Each}
use Rattle.wg_standing.proofs.Lefts.{all_left}
use Rattle.wg_standing.proofs.Rising.{rises_kept, rises_born}
use Rattle.wg_standing.proofs.Slots.{slots_kept}
use Rattle.wg_standing.proofs.Grids.{distinct_born}
use Rattle.wg_standing.proofs.Counting.{count_cons}
use Rattle.wg_standing.proofs.Held.{all_among, none_opened, nothing_there}
use Rattle.wg_standing.proofs.Bytes.{full_born, known_born, words_born, bytes_are}

and_false : (a b : Bool) → b ≡ false → (a && b) ≡ false
and_false true b e = e
and_false false b e = refl

-- entries are in no slot
pub below : (lo end : ℕ) (xs : List Live) → Rises lo xs end → lo ≤ end
below lo end [] r = r
below lo end (x ∷ xs) r = let a = r.0 in let b = below (x.number + 1) end xs r.1 in omega (arith, a, b)

not_in_slot : (handed w lo : ℕ) (x : Live) (xs : List Live) → Rises lo (x ∷ xs) handed → in_slot handed w x ≡ false
not_in_slot handed w lo x xs r =
    let b = below (x.number + 1) handed xs r.1 in
    and_false (x.unit == w) (nat_le handed x.number) (let e : nat_le handed x.number ≡ false = grind (arith, nat_tests) in e)

none_in : (handed w lo : ℕ) (xs : List Live) → Rises lo xs handed → filter (in_slot handed w) xs ≡ []
none_in handed w lo [] r = refl
none_in handed w lo (x ∷ xs) r = rw (not_in_slot handed w lo x xs r) (none_in handed w (x.number + 1) xs r.1)

none_counted : (handed w lo : ℕ) (xs : List Live) → Rises lo xs handed → count_by (in_slot handed w) xs ≡ 0
none_counted handed w lo [] r = refl
none_counted handed w lo (x ∷ xs) r =
    let c = count_cons (in_slot handed w) x xs in
    let c' = subst (λ (b : Bool). count_by (in_slot handed w) (x ∷ xs) ≡ (if b then 1 else 0) + count_by (in_slot handed w) xs) (not_in_slot handed w lo x xs r) c in
    omega (arith, c', none_counted handed w (x.number + 1) xs r.1)

all_entries : (handed lo : ℕ) (xs : List Live) → Rises lo xs handed → filter (is_entry_record handed) xs ≡ xs
all_entries handed lo [] r = refl
all_entries handed lo (x ∷ xs) r =
    let b = below (x.number + 1) handed xs r.1 in
    let e : nat_le (x.number + 1) handed ≡ true = grind (arith, nat_tests) in
    rw e (ap (λ (rest : List Live). x ∷ rest) (all_entries handed (x.number + 1) xs r.1))

nothing_waits : (handed v n : ℕ) (xs : List Live) → Rises 0 xs handed → replicate n [] ≡ by_unit handed v n xs
nothing_waits handed v zero xs r = refl
nothing_waits handed v (suc n) xs r =
    ap (λ (first : List Live). first ∷ replicate n []) (sym (none_in handed v 0 xs r)) ∙ ap (λ (rest : List (List Live)). filter (in_slot handed v) xs ∷ rest) (nothing_waits handed (v + 1) n xs r)

nothing_used : (handed v n : ℕ) (xs : List Live) → Rises 0 xs handed → replicate n 0 ≡ counts handed v n xs
nothing_used handed v zero xs r = refl
nothing_used handed v (suc n) xs r =
    ap (λ (first : ℕ). first ∷ replicate n 0) (sym (none_counted handed v 0 xs r)) ∙ ap (λ (rest : List ℕ). count_by (in_slot handed v) xs ∷ rest) (nothing_used handed (v + 1) n xs r)

no_bytes : (shape : Shape) (v n : ℕ) → slot_bytes shape v (replicate n 0) ≡ 0
no_bytes shape v zero = refl
no_bytes shape v (suc n) = let z : 0 * stride_at shape v ≡ 0 = omega arith in let k = no_bytes shape (v + 1) n in omega (arith, z, k)

pub zero_at : (n v : ℕ) → slice_index (replicate n 0) v ≡ 0
zero_at zero v = refl
zero_at (suc n) zero = refl
zero_at (suc n) (suc v) = zero_at n v

begun_rises : (shape : Shape) (script : List Sent) → Rises 0 (flat_map kept (born shape 0 script)) (length script)
begun_rises shape script =
    let e : 0 + length script ≡ length script = omega arith in
    subst (Rises 0 (flat_map kept (born shape 0 script))) e (rises_kept 0 (0 + length script) (born shape 0 script) (rises_born shape 0 script))

pub begun_placed : (shape : Shape) (width : ℕ) (limits : Limits) (script : List Sent) (start : Buffers) → Each (Arrives shape) script → IsPlaced (core_begun shape width limits script start) (flat_map kept (born shape 0 script))
begun_placed shape width limits script start arrive =
    let n = length shape.units in
    let bag = flat_map kept (born shape 0 script) in
    let rises = begun_rises shape script in
    let nothing : opened_of bag bag ≡ [] = none_opened bag bag (all_among bag) in
    record {
      waits = nothing_waits (length script) 0 n bag rises;
      entries = sym (all_entries (length script) 0 bag rises);
      held = nothing_there (length script) 0 n ∙ ap (by_unit (length script) 0 n) (sym nothing);
      taken = ap (filter (is_entry_record (length script))) (sym nothing);
      spare = refl;
      allowed = tt;
      apart = tt;
      tickets_differ = tt;
      tickets_below = tt;
      tickets = refl;
      launches = omega arith;
      rises = rises;
      handed = omega arith;
      distinct = distinct_born shape 0 script;
      full = full_born shape 0 script;
      known = known_born shape 0 script arrive;
      words = words_born shape 0 script arrive;
      used = nothing_used (length script) 0 n bag rises;
      room = λ v. let z = zero_at n v in omega (arith, z);
    }

pub begun_stands : (made : Meaning) (shape : Shape) (width : ℕ) (limits : Limits) (script : List Sent) (start : Buffers) → Each (Arrives shape) script → StandsFor made script start (core_begun shape width limits script start)
begun_stands made shape width limits script start arrive =
    let n = length shape.units in
    let bag = flat_map kept (born shape 0 script) in
    let placed = begun_placed shape width limits script start arrive in
    let bytes : live_bytes shape (length script) (start_of shape script start) ≡ 0 = bytes_are shape (length script) (start_of shape script start) (known_born shape 0 script arrive) ∙ ap (slot_bytes shape 0) (sym (nothing_used (length script) 0 n bag (begun_rises shape script))) ∙ no_bytes shape 0 n in
    record {
      state = start_of shape script start;
      trail = [];
      run = refl;
      handed = refl;
      bag = refl;
      placed = placed;
      left = all_left bag;
      ticketed = record { settled = []; one_each = refl; below = tt; none_out = tt; all = λ t h none. absurd (omega arith) };
      kept = omega arith;
      next = refl;
      buffers = refl;
      denied = refl;
      peak = sym bytes;
      slots = slots_kept (core_begun shape width limits script start) bag placed;
      spent = tt;
    }
