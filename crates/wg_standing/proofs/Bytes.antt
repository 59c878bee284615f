-- Bytes in slots, and room.
use Rattle.std.proofs.Common.{None, ◌≡◌, ℕ, zero, suc, ◌+◌, ◌-◌, ◌*◌, ◌<◌, ◌≤◌, Bool, true, false, ◌||◌, List, [], ◌∷◌, ◌++◌, length, refl, ap, sym, ◌∙◌, subst, arith}
use Rattle.std.specs.Prelude.{if◌then◌else◌, ◌==◌, ◌&&◌, nat_le, nat_lt, count_by, sum_by, slice_index, max}
use Rattle.std.specs.List.{flat_map}
use Rattle.std.proofs.Math.Nat.{add-mul}
use Rattle.std.proofs.lemmas.Bool.Decides.{nat_tests, Decides-eqb}
use Rattle.std.proofs.lemmas.List.Sums.{sum_by-cons}
use Rattle.wg_machine.specs.declared.launch.Live.{Live}
use Rattle.wg_machine.specs.declared.launch.Sent.{Sent}
use Rattle.wg_machine.specs.declared.shape.Kind.TheVariants.{Thread, Coalescing, Grid, GridField}
use Rattle.wg_machine.specs.declared.shape.Kind.{Kind}
use Rattle.wg_machine.specs.declared.shape.Shape.{Shape}
use Rattle.wg_machine.specs.State.{State, kept, born}
use Rattle.wg_machine.specs.Step.{Passed, left_after, has_number}
use Rattle.wg_machine.specs.Units.{stride_at, kind_at, words_at}
use Rattle.wg_machine.specs.Bytes.{live_bytes, peak as peak_of}
use Rattle.wg_machine.specs.Grids.{grid_of, groups_of, without_group, same_group}
use Rattle.wg_standing.specs.Standing.{EachFull, IsGridAt, IsWithin, has_one_group, origin, counts, in_slot, EachKnown, EachHasWords}
use Rattle.wg_machine.specs.LaunchMeaning.{Arrives}
use Rattle.wg_standing.specs.Moves.{slot_bytes, used_more}
use Rattle.wg_words.specs.Each.{Each}
use Rattle.wg_standing.proofs.Grids.{within_grid}
use Rattle.wg_standing.proofs.Commute.{live_with, ran}
use Rattle.wg_standing.proofs.Counting.{count_cons, count_append, pay}
use Rattle.wg_standing.proofs.Still.{in_range, within_range}

-- the slots in use, after some are given back and new records come
pub used_are : (handed v n unit gone : ℕ) (bag after fresh : List Live) → ((w : ℕ) → count_by (in_slot handed w) bag ≡ count_by (in_slot handed w) after + pay (w == unit) gone) → used_more handed v unit gone fresh (counts handed v n bag) ≡ counts handed v n (after ++ fresh)
used_are handed v zero unit gone bag after fresh h = refl
used_are handed v (suc n) unit gone bag after fresh h =
    let a = h v in
    let c = count_append (in_slot handed v) after fresh in
    let e : (count_by (in_slot handed v) bag - pay (v == unit) gone) + count_by (in_slot handed v) fresh ≡ count_by (in_slot handed v) (after ++ fresh) = omega (arith, a, c) in
    ap (λ (m : ℕ). m ∷ used_more handed (v + 1) unit gone fresh (counts handed (v + 1) n bag)) e
    ∙ ap (λ (rest : List ℕ). count_by (in_slot handed v) (after ++ fresh) ∷ rest) (used_are handed (v + 1) n unit gone bag after fresh h)

-- at each unit there are at most so many more
pub counts_more : (handed v n k : ℕ) (m : ℕ → ℕ) (a b : List Live) → ((w : ℕ) → count_by (in_slot handed w) b ≤ count_by (in_slot handed w) a + m w) → slice_index (counts handed v n b) k ≤ slice_index (counts handed v n a) k + m (v + k)
counts_more handed v zero k m a b h = omega arith
counts_more handed v (suc n) zero m a b h = let e : v + 0 ≡ v = omega arith in let r = h v in rw e r
counts_more handed v (suc n) (suc k) m a b h =
    let e : v + suc k ≡ v + 1 + k = omega arith in rw e (counts_more handed (v + 1) n k m a b h)

count_kept : (handed w number unit : ℕ) (words grid : List ℕ) (gs : List (List ℕ)) (rest : List Live) → count_by (in_slot handed w) (kept (live_with number unit words grid gs) ++ rest) ≤ pay (unit == w) 1 + count_by (in_slot handed w) rest
count_kept handed w number unit words grid [] rest = omega arith
count_kept handed w number unit words grid (g ∷ gs) rest = choice (unit == w) (nat_le handed number) (count_cons (in_slot handed w) (live_with number unit words grid (g ∷ gs)) rest)
  where
    choice : (a b : Bool) → count_by (in_slot handed w) (live_with number unit words grid (g ∷ gs) ∷ rest) ≡ (if a && b then 1 else 0) + count_by (in_slot handed w) rest → count_by (in_slot handed w) (live_with number unit words grid (g ∷ gs) ∷ rest) ≤ pay a 1 + count_by (in_slot handed w) rest
    choice true true e = omega (arith, e)
    choice true false e = omega (arith, e)
    choice false b e = omega (arith, e)

-- new records in slots are at most those that were sent
pub count_born : (shape : Shape) (handed w n : ℕ) (ss : List Sent) → count_by (in_slot handed w) (flat_map kept (born shape n ss)) ≤ count_by (λ (s : Sent). s.unit == w) ss
count_born shape handed w n [] = omega arith
count_born shape handed w n (s ∷ ss) =
    let k = count_kept handed w n s.unit s.words (grid_of (kind_at shape s.unit) s.words) (groups_of (grid_of (kind_at shape s.unit) s.words)) (flat_map kept (born shape (n + 1) ss)) in
    let ih = count_born shape handed w (n + 1) ss in
    let c = count_cons (λ (t : Sent). t.unit == w) s ss in omega (arith, k, ih, c)

pub known_born : (shape : Shape) (n : ℕ) (ss : List Sent) → Each (Arrives shape) ss → EachKnown (length shape.units) (flat_map kept (born shape n ss))
known_born shape n [] all = tt
known_born shape n (s ∷ ss) all = go (groups_of (grid_of (kind_at shape s.unit) s.words)) (known_born shape (n + 1) ss all.1)
  where
    go : (gs : List (List ℕ)) → EachKnown (length shape.units) (flat_map kept (born shape (n + 1) ss)) → EachKnown (length shape.units) (kept (live_with n s.unit s.words (grid_of (kind_at shape s.unit) s.words) gs) ++ flat_map kept (born shape (n + 1) ss))
    go [] k = k
    go (g ∷ gs) k = (all.0.unit, k)

abbrev pub record_bytes : Shape → ℕ → Live → ℕ
record_bytes shape handed x = pay (nat_le handed x.number) (stride_at shape x.unit)

out_of_range : (v n u : ℕ) → u < v → in_range v n u ≡ false
out_of_range v zero u h = refl
out_of_range v (suc n) u h = let e : (u == v) ≡ false = grind (arith, nat_tests) in rw e (out_of_range (v + 1) n u (omega arith))

times_pay : (a b : Bool) (k s t : ℕ) → (a ≡ true → t ≡ s) → (pay (a && b) 1 + k) * t ≡ pay (a && b) s + k * t
times_pay true true k s t h = let e = h refl in let m = add-mul 1 k t in omega (arith, e, m)
times_pay true false k s t h = let z : 0 + k ≡ k = omega arith in rw z (omega arith)
times_pay false b k s t h = let z : 0 + k ≡ k = omega arith in rw z (omega arith)

bytes_cons : (shape : Shape) (handed v n : ℕ) (x : Live) (bag : List Live) → slot_bytes shape v (counts handed v n (x ∷ bag)) ≡ pay (in_range v n x.unit) (record_bytes shape handed x) + slot_bytes shape v (counts handed v n bag)
bytes_cons shape handed v zero x bag = refl
bytes_cons shape handed v (suc n) x bag =
    let ih = bytes_cons shape handed (v + 1) n x bag in
    let c = ap (λ (k : ℕ). k * stride_at shape v) (count_cons (in_slot handed v) x bag) in
    let t = times_pay (x.unit == v) (nat_le handed x.number) (count_by (in_slot handed v) bag) (stride_at shape x.unit) (stride_at shape v) (λ e. ap (stride_at shape) (sym ((Decides-eqb x.unit v).0 e))) in
    let s = split (x.unit == v) (nat_le handed x.number) (in_range (v + 1) n x.unit) (stride_at shape x.unit) (λ e. out_of_range (v + 1) n x.unit (let q = (Decides-eqb x.unit v).0 e in omega arith)) in
    omega (arith, ih, c, t, s)
  where
    split : (a b r : Bool) (s : ℕ) → (a ≡ true → r ≡ false) → pay (a && b) s + pay r (pay b s) ≡ pay (a || r) (pay b s)
    split true b true s h = let e = h refl in absurd (cc)
    split true true false s h = omega arith
    split true false false s h = omega arith
    split false b r s h = omega arith

bytes_none : (shape : Shape) (handed v n : ℕ) → slot_bytes shape v (counts handed v n []) ≡ 0
bytes_none shape handed v zero = refl
bytes_none shape handed v (suc n) = let z : 0 * stride_at shape v ≡ 0 = omega arith in let k = bytes_none shape handed (v + 1) n in omega (arith, z, k)

entry_pay : (handed n s : ℕ) → (if nat_lt n handed then 0 else s) ≡ pay (nat_le handed n) s
entry_pay handed n s = grind (arith, nat_tests)

-- the bytes that live are those of the slots in use
pub bytes_are : (shape : Shape) (handed : ℕ) (s : State) → EachKnown (length shape.units) s.bag → live_bytes shape handed s ≡ slot_bytes shape 0 (counts handed 0 (length shape.units) s.bag)
bytes_are shape handed s known = go s.bag known
  where
    go : (bag : List Live) → EachKnown (length shape.units) bag → sum_by (λ (r : Live). if nat_lt r.number handed then 0 else stride_at shape r.unit) bag ≡ slot_bytes shape 0 (counts handed 0 (length shape.units) bag)
    go [] k = sym (bytes_none shape handed 0 (length shape.units))
    go (x ∷ bag) k =
        let u = k.0 in
        let r : in_range 0 (length shape.units) x.unit ≡ true = within_range 0 (length shape.units) x.unit (omega arith) (omega arith) in
        let c = bytes_cons shape handed 0 (length shape.units) x bag in
        let c' = subst (λ (b : Bool). slot_bytes shape 0 (counts handed 0 (length shape.units) (x ∷ bag)) ≡ pay b (record_bytes shape handed x) + slot_bytes shape 0 (counts handed 0 (length shape.units) bag)) r c in
        let d = sum_by-cons (λ (r : Live). if nat_lt r.number handed then 0 else stride_at shape r.unit) x bag in
        let e = entry_pay handed x.number (stride_at shape x.unit) in
        omega (arith, c', d, e, go bag k.1)

-- the peak of a run with one more step
pub peak_more : (shape : Shape) (handed : ℕ) (s : State) (ps : List Passed) (p : Passed) → peak_of shape handed s (ps ++ p ∷ []) ≡ max (peak_of shape handed s ps) (live_bytes shape handed p.after)
peak_more shape handed s [] p = refl
peak_more shape handed s (q ∷ ps) p = let ih = peak_more shape handed q.after ps p in omega (arith, ih)

pub full_append : (shape : Shape) (xs ys : List Live) → EachFull shape xs → EachFull shape ys → EachFull shape (xs ++ ys)
full_append shape [] ys a b = b
full_append shape (x ∷ xs) ys a b = (a.0, full_append shape xs ys a.1 b)

full_one : (shape : Shape) (number unit : ℕ) (words grid : List ℕ) (gs : List (List ℕ)) (rest : List Live) → (has_one_group (kind_at shape unit) ≡ true → 0 < length gs → gs ≡ origin ∷ []) → Each (IsWithin grid) gs → IsGridAt shape unit grid → EachFull shape rest → EachFull shape (kept (live_with number unit words grid gs) ++ rest)
full_one shape number unit words grid [] rest h w b f = f
full_one shape number unit words grid (g ∷ gs) rest h w b f = (record { some = omega arith; whole = λ e. h e (omega arith); within = w; grid = b }, f)

within_without : (grid at : List ℕ) (gs : List (List ℕ)) → Each (IsWithin grid) gs → Each (IsWithin grid) (without_group at gs)
within_without grid at [] w = tt
within_without grid at (g ∷ gs) w = choice (within_without grid at gs w.1) (same_group g at)
  where
    choice : Each (IsWithin grid) (without_group at gs) → (b : Bool) → Each (IsWithin grid) (if b then gs else g ∷ without_group at gs)
    choice ih true = w.1
    choice ih false = (w.0, ih)

without_origin : (at : List ℕ) → 0 < length (without_group at (origin ∷ [])) → without_group at (origin ∷ []) ≡ origin ∷ []
without_origin at h = choice (same_group origin at) h
  where
    choice : (b : Bool) → 0 < length (if b then [] else origin ∷ []) → (if b then [] else origin ∷ []) ≡ origin ∷ []
    choice true h = absurd (omega arith)
    choice false h = refl

pub full_left : (shape : Shape) (nums at : List ℕ) (bag : List Live) → EachFull shape bag → EachFull shape (left_after nums at None bag)
full_left shape nums at [] f = tt
full_left shape nums at (x ∷ bag) f = choice (full_left shape nums at bag f.1) (has_number nums x.number)
  where
    choice : EachFull shape (left_after nums at None bag) → (b : Bool) → EachFull shape (ran b at x ++ left_after nums at None bag)
    choice ih true = full_one shape x.number x.unit x.words x.grid (without_group at x.groups) (left_after nums at None bag) (λ e h. (let q = f.0.whole e in let h' = subst (λ (gs : List (List ℕ)). 0 < length (without_group at gs)) q h in ap (without_group at) q ∙ without_origin at h')) (within_without x.grid at x.groups f.0.within) f.0.grid ih
    choice ih false = (f.0, ih)

one_grid : (k : Kind) (words : List ℕ) → has_one_group k ≡ true → groups_of (grid_of k words) ≡ origin ∷ []
one_grid Thread words e = refl
one_grid (Coalescing m) words e = refl
one_grid (Grid x y z) words e = absurd (cc)
one_grid (GridField f n x y z) words e = absurd (cc)

pub full_born : (shape : Shape) (n : ℕ) (ss : List Sent) → EachFull shape (flat_map kept (born shape n ss))
full_born shape n [] = tt
full_born shape n (s ∷ ss) = full_one shape n s.unit s.words (grid_of (kind_at shape s.unit) s.words) (groups_of (grid_of (kind_at shape s.unit) s.words)) (flat_map kept (born shape (n + 1) ss)) (λ e h. one_grid (kind_at shape s.unit) s.words e) (within_grid (grid_of (kind_at shape s.unit) s.words)) (s.words, refl) (full_born shape (n + 1) ss)

pub words_append : (shape : Shape) (xs ys : List Live) → EachHasWords shape xs → EachHasWords shape ys → EachHasWords shape (xs ++ ys)
words_append shape [] ys a b = b
words_append shape (x ∷ xs) ys a b = (a.0, words_append shape xs ys a.1 b)

words_one : (shape : Shape) (number unit : ℕ) (words grid : List ℕ) (gs : List (List ℕ)) (rest : List Live) → length words ≡ words_at shape unit → EachHasWords shape rest → EachHasWords shape (kept (live_with number unit words grid gs) ++ rest)
words_one shape number unit words grid [] rest h f = f
words_one shape number unit words grid (g ∷ gs) rest h f = (h, f)

pub words_left : (shape : Shape) (nums at : List ℕ) (bag : List Live) → EachHasWords shape bag → EachHasWords shape (left_after nums at None bag)
words_left shape nums at [] f = tt
words_left shape nums at (x ∷ bag) f = choice (words_left shape nums at bag f.1) (has_number nums x.number)
  where
    choice : EachHasWords shape (left_after nums at None bag) → (b : Bool) → EachHasWords shape (ran b at x ++ left_after nums at None bag)
    choice ih true = words_one shape x.number x.unit x.words x.grid (without_group at x.groups) (left_after nums at None bag) f.0 ih
    choice ih false = (f.0, ih)

pub words_born : (shape : Shape) (n : ℕ) (ss : List Sent) → Each (Arrives shape) ss → EachHasWords shape (flat_map kept (born shape n ss))
words_born shape n [] a = tt
words_born shape n (s ∷ ss) a = words_one shape n s.unit s.words (grid_of (kind_at shape s.unit) s.words) (groups_of (grid_of (kind_at shape s.unit) s.words)) (flat_map kept (born shape (n + 1) ss)) a.0.words (words_born shape (n + 1) ss a.1)
