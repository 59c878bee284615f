-- With no launch out, something can be opened.
use Rattle.std.proofs.Common.{◌≡◌, ◌≢◌, ℕ, zero, suc, ◌+◌, ◌*◌, ◌<◌, ◌≤◌, Bool, true, false, List, [], ◌∷◌, length, refl, ap, sym, ◌∙◌, arith, inl, inr, ◌⊎◌, unwrap_or}
use Rattle.std.specs.Prelude.{if◌then◌else◌, ◌==◌, filter, slice_get, slice_index, nat_le, count_by}
use Rattle.std.proofs.lemmas.Bool.Decides.{nat_tests}
use Rattle.wg_standing.specs.declared.pending.Pending.{Pending}
use Rattle.wg_machine.specs.declared.launch.Live.{Live}
use Rattle.wg_machine.specs.Need.{need, most}
use Rattle.wg_standing.specs.Outs.{unopened}
use Rattle.wg_standing.specs.Core.{CoreView}
use Rattle.wg_standing.specs.Standing.{IsPlaced, by_unit, counts, in_slot, is_entry_record, reserved, EachKnown}
use Rattle.wg_standing.specs.Choice.{UnitHasRoom, NoPick, waiting_at, first_unit, CanEnter}
use Rattle.wg_machine.specs.Units.{depth_at}
use Rattle.wg_standing.proofs.Shapes.{needs_deeper, needed_within, needs_no_more}
use Rattle.wg_machine.specs.GoodShape.{IsGoodShape}
use Rattle.wg_machine.specs.Units.{depth_at}
use Rattle.wg_standing.proofs.Counting.{count_cons}

count_filter : (p : Live → Bool) (xs : List Live) → count_by p xs ≡ length (filter p xs)
count_filter p [] = refl
count_filter p (x ∷ xs) = choice (p x) (count_cons p x xs) (count_filter p xs)
  where
    choice : (b : Bool) → count_by p (x ∷ xs) ≡ (if b then 1 else 0) + count_by p xs → count_by p xs ≡ length (filter p xs) → count_by p (x ∷ xs) ≡ length (if b then x ∷ filter p xs else filter p xs)
    choice true e ih = omega (arith, e, ih)
    choice false e ih = omega (arith, e, ih)

counts_at : (handed w n k : ℕ) (bag : List Live) → slice_index (counts handed w n bag) k ≡ length (unwrap_or (slice_get (by_unit handed w n bag) k) [])
counts_at handed w zero k bag = refl
counts_at handed w (suc n) zero bag = count_filter (in_slot handed w) bag
counts_at handed w (suc n) (suc k) bag = counts_at handed (w + 1) n k bag

used_at : (core : CoreView) (bag : List Live) → IsPlaced core bag → core.outs ≡ [] → (v : ℕ) → slice_index core.used v ≡ length (waiting_at core v)
used_at core bag p none v =
    let n = length core.shape.units in
    ap (λ (us : List ℕ). slice_index us v) p.used
    ∙ counts_at core.handed 0 n v bag
    ∙ ap (λ (ws : List (List Live)). length (unwrap_or (slice_get ws v) [])) (sym (p.waits ∙ ap (λ (os : List Pending). by_unit core.handed 0 n (unopened os bag)) none))

zero_or : (n : ℕ) → (n ≡ 0) ⊎ (0 < n)
zero_or zero = inl refl
zero_or (suc n) = inr (omega arith)

pub le_or : (a b : ℕ) → (a ≤ b) ⊎ (b < a)
le_or a b = choice (nat_le a b) refl
  where
    choice : (t : Bool) → nat_le a b ≡ t → (a ≤ b) ⊎ (b < a)
    choice true e = inl (let k : a ≤ b = grind (arith, nat_tests) in k)
    choice false e = inr (let k : b < a = grind (arith, nat_tests) in k)

times_one : (w m : ℕ) → 1 ≤ w → m ≤ w * m
times_one zero m h = absurd (omega arith)
times_one (suc w) m h = grind arith

-- a unit with nothing deeper that waits has room
pub deepest_has_room : (core : CoreView) (bag : List Live) (u : ℕ) → IsGoodShape core.shape → 1 ≤ core.width → IsPlaced core bag → core.outs ≡ [] → ((v : ℕ) → v < length core.shape.units → 0 < length (waiting_at core v) → depth_at core.shape v ≤ depth_at core.shape u) → UnitHasRoom core u
deepest_has_room core bag u good wide p none most_deep v =
    let r = p.room v in
    let reserves = ap (λ (os : List Pending). reserved core.shape os v) none in
    elim (zero_or (need core.shape u v)) [
      | inl z ↦ omega (arith, r, z)
      | inr some ↦ (
          let below = needs_deeper core.shape u v good some in
          let used = used_at core bag p none v in
          let least = needs_no_more core.shape u v in
          let wider = times_one core.width (most core.shape v) wide in
          elim (zero_or (length (waiting_at core v))) [
            | inl e ↦ omega (arith, used, e, least, wider, reserves)
            | inr w ↦ (let d = most_deep v (needed_within core.shape u v good some) w in absurd (omega (arith, d, below)))
          ]
          )
    ]

-- of the units below n, one that waits and is deepest, or none waits
record IsDeepest (core : CoreView) (n u : ℕ) : Type 0 where
  within : u < n
  waits : 0 < length (waiting_at core u)
  deep : (v : ℕ) → v < n → 0 < length (waiting_at core v) → depth_at core.shape v ≤ depth_at core.shape u

abbrev NoneWaits : CoreView → ℕ → Type 0
NoneWaits core n = (v : ℕ) → v < n → length (waiting_at core v) ≡ 0

below_or : (v n : ℕ) → v < suc n → (v < n) ⊎ (v ≡ n)
below_or v n h = elim (le_or n v) [ inl a ↦ inr (omega arith) | inr b ↦ inl b ]

deepest : (core : CoreView) (n : ℕ) → ((u : ℕ) × IsDeepest core n u) ⊎ NoneWaits core n
deepest core zero = inr (λ v h. absurd (omega arith))
deepest core (suc n) =
    elim (zero_or (length (waiting_at core n))) [
      | inl e ↦ elim (deepest core n) [
        | inl d ↦ inl (d.0, record { within = let w = d.1.within in omega arith; waits = d.1.waits; deep = λ v h w. elim (below_or v n h) [ inl a ↦ d.1.deep v a w | inr q ↦ (let z = ap (λ (k : ℕ). length (waiting_at core k)) q in absurd (omega (arith, z, e, w))) ] })
        | inr nowhere ↦ inr (λ v h. elim (below_or v n h) [ inl a ↦ nowhere v a | inr q ↦ ap (λ (k : ℕ). length (waiting_at core k)) q ∙ e ])
      ]
      | inr w ↦ elim (deepest core n) [
        | inl d ↦ elim (le_or (depth_at core.shape n) (depth_at core.shape d.0)) [
          | inl less ↦ inl (d.0, record { within = let w = d.1.within in omega arith; waits = d.1.waits; deep = λ v h x. elim (below_or v n h) [ inl a ↦ d.1.deep v a x | inr q ↦ (let z = ap (depth_at core.shape) q in omega (arith, z, less)) ] })
          | inr more ↦ inl (n, record { within = omega arith; waits = w; deep = λ v h x. elim (below_or v n h) [ inl a ↦ (let z = d.1.deep v a x in omega (arith, z, more)) | inr q ↦ (let z = ap (depth_at core.shape) q in omega (arith, z)) ] })
        ]
        | inr nowhere ↦ inl (n, record { within = omega arith; waits = w; deep = λ v h x. elim (below_or v n h) [ inl a ↦ (let z = nowhere v a in absurd (omega (arith, z, x))) | inr q ↦ (let z = ap (depth_at core.shape) q in omega (arith, z)) ] })
      ]
    ]

slot_or_entry : (handed n : ℕ) → nat_le (n + 1) handed ≡ false → nat_le handed n ≡ true
slot_or_entry handed n e = grind (arith, nat_tests)

self_eq : (n : ℕ) → (n == n) ≡ true
self_eq n = grind (arith, nat_tests)

pub by_unit_at : (handed w n k : ℕ) (bag : List Live) → k < n → unwrap_or (slice_get (by_unit handed w n bag) k) [] ≡ filter (in_slot handed (w + k)) bag
by_unit_at handed w zero k bag h = absurd (omega arith)
by_unit_at handed w (suc n) zero bag h = let e : w ≡ w + 0 = omega arith in ap (λ (v : ℕ). filter (in_slot handed v) bag) e
by_unit_at handed w (suc n) (suc k) bag h = let e : w + 1 + k ≡ w + suc k = omega arith in by_unit_at handed (w + 1) n k bag (omega arith) ∙ ap (λ (v : ℕ). filter (in_slot handed v) bag) e

-- with no launch out and a bag that is not empty, some unit that waits has room, or else the next entry has
pub never_blocks : (core : CoreView) (bag : List Live) → IsGoodShape core.shape → 1 ≤ core.width → IsPlaced core bag → core.outs ≡ [] → bag ≢ [] → NoPick core → CanEnter core
never_blocks core bag good wide p none some unpicked =
    elim (deepest core (length core.shape.units)) [
      | inl d ↦ absurd (unpicked d.0 d.1.waits (deepest_has_room core bag d.0 good wide p none d.1.deep))
      | inr quiet ↦ record {
        some = first (ap (λ (os : List Pending). filter (is_entry_record core.handed) (unopened os bag)) none) p.known quiet some;
        room = deepest_has_room core bag (first_unit core.entries) good wide p none (λ v h w. let z = quiet v h in absurd (omega (arith, z, w)));
      }
    ]
  where
    first : filter (is_entry_record core.handed) (unopened core.outs bag) ≡ filter (is_entry_record core.handed) bag → EachKnown (length core.shape.units) bag → NoneWaits core (length core.shape.units) → bag ≢ [] → 0 < length core.entries
    first same known quiet some = go bag refl known
      where
        go : (xs : List Live) → bag ≡ xs → EachKnown (length core.shape.units) xs → 0 < length core.entries
        go [] e k = absurd (some e)
        go (x ∷ xs) e k = choice (nat_le (x.number + 1) core.handed) refl
          where
            entries : core.entries ≡ filter (is_entry_record core.handed) (x ∷ xs)
            entries = p.entries ∙ same ∙ ap (filter (is_entry_record core.handed)) e

            waits : waiting_at core x.unit ≡ filter (in_slot core.handed x.unit) (x ∷ xs)
            waits =
                ap (λ (ws : List (List Live)). unwrap_or (slice_get ws x.unit) []) (p.waits ∙ ap (λ (os : List Pending). by_unit core.handed 0 (length core.shape.units) (unopened os bag)) none)
                ∙ by_unit_at core.handed 0 (length core.shape.units) x.unit bag k.0
                ∙ (let z : 0 + x.unit ≡ x.unit = omega arith in ap (λ (v : ℕ). filter (in_slot core.handed v) bag) z)
                ∙ ap (filter (in_slot core.handed x.unit)) e

            choice : (t : Bool) → nat_le (x.number + 1) core.handed ≡ t → 0 < length core.entries
            choice true f = let l = ap (λ (ys : List Live). length ys) entries in let m : length (filter (is_entry_record core.handed) (x ∷ xs)) ≡ suc (length (filter (is_entry_record core.handed) xs)) = rw f refl in omega (arith, l, m)
            choice false f =
                let l = ap (λ (ys : List Live). length ys) waits in
                let g = slot_or_entry core.handed x.number f in
                let m : length (filter (in_slot core.handed x.unit) (x ∷ xs)) ≡ suc (length (filter (in_slot core.handed x.unit) xs)) = rw (self_eq x.unit, g) refl in
                let q = quiet x.unit k.0 in absurd (omega (arith, l, m, q))

-- nothing waits, nothing is left of the entries and nothing is out: the bag is empty
pub idle_empty : (core : CoreView) (bag : List Live) → IsPlaced core bag → core.outs ≡ [] → ((v : ℕ) → length (waiting_at core v) ≡ 0) → core.entries ≡ [] → bag ≡ []
idle_empty core bag p none quiet no_entries = go bag refl p.known
  where
    go : (xs : List Live) → bag ≡ xs → EachKnown (length core.shape.units) xs → xs ≡ []
    go [] e k = refl
    go (x ∷ xs) e k = choice (nat_le (x.number + 1) core.handed) refl
      where
        same : unopened core.outs bag ≡ x ∷ xs
        same = ap (λ (os : List Pending). unopened os bag) none ∙ e

        entries : filter (is_entry_record core.handed) (x ∷ xs) ≡ []
        entries = sym (p.entries ∙ ap (filter (is_entry_record core.handed)) same) ∙ no_entries

        waits : waiting_at core x.unit ≡ filter (in_slot core.handed x.unit) (x ∷ xs)
        waits =
            ap (λ (ws : List (List Live)). unwrap_or (slice_get ws x.unit) []) p.waits
            ∙ by_unit_at core.handed 0 (length core.shape.units) x.unit (unopened core.outs bag) k.0
            ∙ (let z : 0 + x.unit ≡ x.unit = omega arith in ap (λ (v : ℕ). filter (in_slot core.handed v) (unopened core.outs bag)) z)
            ∙ ap (filter (in_slot core.handed x.unit)) same

        choice : (t : Bool) → nat_le (x.number + 1) core.handed ≡ t → x ∷ xs ≡ []
        choice true f = let l = ap (λ (ys : List Live). length ys) entries in let m : length (filter (is_entry_record core.handed) (x ∷ xs)) ≡ suc (length (filter (is_entry_record core.handed) xs)) = rw f refl in absurd (omega (arith, l, m))
        choice false f =
            let l = ap (λ (ys : List Live). length ys) waits in
            let g = slot_or_entry core.handed x.number f in
            let m : length (filter (in_slot core.handed x.unit) (x ∷ xs)) ≡ suc (length (filter (in_slot core.handed x.unit) xs)) = rw (self_eq x.unit, g) refl in
            let q = quiet x.unit in absurd (omega (arith, l, m, q))
