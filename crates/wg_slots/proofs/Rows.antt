-- Units whose rows lie one after the other, and what a write to one leaves of the others.
use Rattle.std.proofs.Common.{◌≡◌, ◌≢◌, ℕ, zero, suc, ◌+◌, ◌*◌, ◌^◌, ◌<◌, ◌≤◌, Bool, true, false, List, [], ◌∷◌, ◌++◌, length, map, take, drop, get_or, Option, Some, refl, sym, ap, subst, ◌∙◌, ⊎_elim, inl, inr, arith}
use Rattle.std.specs.Prelude.{◌⊎◌, ◌==◌, if◌then◌else◌, IsSome, slice_get, slice_set, slice_index}
use Rattle.std.specs.List.{sum_by}
use Rattle.std.proofs.lemmas.List.{length-append, length-map, take_at}
use Rattle.std.proofs.lemmas.Option.{slice_get-get_or}
use Rattle.std.proofs.lemmas.List.Sums.{sum_by-cons}
use Rattle.std.proofs.Math.Nat.{mul-le-mul_right}
use Rattle.std.proofs.lemmas.Bool.{eqb-true}
use Rattle.wg_slots.specs.SlotsOf.{SlotsOf, all_free, slots_at, slot_words, row_words, waits_in}
use Rattle.wg_slots.specs.Kept.{Kept, IsSound, empty_kept, number_at, start_of, end_of, shown, part}
use Rattle.wg_slots.specs.Layout.{LiesFrom, IsLaid, IsWritten, AreEmpty}
use Rattle.wg_slots.proofs.Blocks.{part_same}
use Rattle.wg_slots.proofs.Records.{same_some, records_same}

-- ---- a slot lies in its unit's row

pub step : (s c w : ℕ) → s < c → s * w + w ≤ c * w
step s c w h = let m : suc s * w ≤ c * w = mul-le-mul_right w h in let e : suc s * w ≡ s * w + w = omega arith in omega arith

pub words_fit : (n : ℕ) → n ≤ slot_words n
words_fit n = choice (n == 0) refl
  where
    choice : (b : Bool) → (n == 0) ≡ b → n ≤ (if b then 1 else n)
    choice true e = let z = eqb-true n 0 e in omega arith
    choice false e = omega arith

pub slot_ends : (k : Kept) (slot : ℕ) → slot < k.count → start_of k slot + k.words ≤ end_of k
slot_ends k slot h = let a = step slot k.count (slot_words k.words) h in let b = words_fit k.words in omega arith

-- ---- the rows of a list of units

lies_end : (at : ℕ) (ks : List Kept) (end : ℕ) → LiesFrom at ks end → at ≤ end
lies_end at [] end l = let e : at ≡ end = l in omega arith
lies_end at (k ∷ ks) end l = let h = lies_end (at + k.count * slot_words k.words) ks end l.1 in omega arith

pub record LiesIn (at end : ℕ) (k : Kept) : Type 0 where
  pub low : at ≤ k.first
  pub high : end_of k ≤ end

pub lies_at : (at : ℕ) (ks : List Kept) (end u : ℕ) (k : Kept) → LiesFrom at ks end → slice_get ks u ≡ Some k → LiesIn at end k
lies_at at [] end u k l e = absurd cc
lies_at at (x ∷ ks) end zero k l e =
    let h = lies_end (at + x.count * slot_words x.words) ks end l.1 in
    let f : x.first ≡ at = l.0 in
    subst (LiesIn at end) (same_some x k e) (record { low = omega arith; high = omega arith })
lies_at at (x ∷ ks) end (suc u) k l e =
    let h = lies_at (at + x.count * slot_words x.words) ks end u k l.1 e in
    let low = h.low in
    record { low = omega arith; high = h.high }

pub lies_apart : (at : ℕ) (ks : List Kept) (end u j : ℕ) (k m : Kept) → LiesFrom at ks end → slice_get ks u ≡ Some k → slice_get ks j ≡ Some m → j ≢ u → (end_of m ≤ k.first) ⊎ (end_of k ≤ m.first)
lies_apart at [] end u j k m l a b ne = absurd cc
lies_apart at (x ∷ ks) end zero zero k m l a b ne = absurd (ne refl)
lies_apart at (x ∷ ks) end zero (suc j) k m l a b ne =
    let h = lies_at (at + x.count * slot_words x.words) ks end j m l.1 b in
    let low = h.low in
    let f : x.first ≡ at = l.0 in
    inr (subst (λ (y : Kept). end_of y ≤ m.first) (same_some x k a) (omega arith))
lies_apart at (x ∷ ks) end (suc u) zero k m l a b ne =
    let h = lies_at (at + x.count * slot_words x.words) ks end u k l.1 a in
    let low = h.low in
    let f : x.first ≡ at = l.0 in
    inl (subst (λ (y : Kept). end_of y ≤ k.first) (same_some x m b) (omega arith))
lies_apart at (x ∷ ks) end (suc u) (suc j) k m l a b ne = lies_apart (at + x.count * slot_words x.words) ks end u j k m l.1 a b (λ e. ne (ap suc e))

-- a unit with another queue and other numbers
abbrev pub with_queue : Kept → List ℕ → List (Option ℕ) → Kept
with_queue k ws ns = record k { waiting = ws; numbers = ns }

lies_set : (at : ℕ) (ks : List Kept) (end u : ℕ) (k : Kept) (ws : List ℕ) (ns : List (Option ℕ)) → LiesFrom at ks end → slice_get ks u ≡ Some k → LiesFrom at (slice_set ks u (with_queue k ws ns)) end
lies_set at [] end u k ws ns l e = absurd cc
lies_set at (x ∷ ks) end zero k ws ns l e = subst (λ (y : Kept). (y.first ≡ at) × LiesFrom (at + y.count * slot_words y.words) ks end) (same_some x k e) l
lies_set at (x ∷ ks) end (suc u) k ws ns l e = (l.0, lies_set (at + x.count * slot_words x.words) ks end u k ws ns l.1 e)

get_set : (ks : List Kept) (u j : ℕ) (k m : Kept) → slice_get (slice_set ks u k) j ≡ Some m → (m ≡ k) ⊎ (slice_get ks j ≡ Some m)
get_set [] u j k m e = absurd cc
get_set (x ∷ ks) zero zero k m e = inl (sym (same_some k m e))
get_set (x ∷ ks) zero (suc j) k m e = inr e
get_set (x ∷ ks) (suc u) zero k m e = inr e
get_set (x ∷ ks) (suc u) (suc j) k m e = get_set ks u j k m e

pub laid_set : (ks : List Kept) (words u : ℕ) (k : Kept) (ws : List ℕ) (ns : List (Option ℕ)) → IsLaid ks words → slice_get ks u ≡ Some k → IsSound (with_queue k ws ns) → IsLaid (slice_set ks u (with_queue k ws ns)) words
laid_set ks words u k ws ns laid e sound =
    record {
      sound = λ j m is. ⊎_elim (λ (same : m ≡ with_queue k ws ns). subst IsSound (sym same) sound) (λ (old : slice_get ks j ≡ Some m). laid.sound j m old) (get_set ks u j (with_queue k ws ns) m is);
      lies = lies_set 0 ks words u k ws ns laid.lies e;
      fits = laid.fits;
    }

get_append : (ks : List Kept) (k m : Kept) (u : ℕ) → slice_get (ks ++ k ∷ []) u ≡ Some m → (m ≡ k) ⊎ (slice_get ks u ≡ Some m)
get_append [] k m zero e = inl (sym (same_some k m e))
get_append [] k m (suc u) e = absurd cc
get_append (x ∷ ks) k m zero e = inr e
get_append (x ∷ ks) k m (suc u) e = get_append ks k m u e

lies_append : (at : ℕ) (ks : List Kept) (end : ℕ) (k : Kept) → LiesFrom at ks end → k.first ≡ end → LiesFrom at (ks ++ k ∷ []) (end_of k)
lies_append at [] end k l f = let e : at ≡ end = l in (f ∙ sym e, ap (λ (n : ℕ). n + k.count * slot_words k.words) (e ∙ sym f))
lies_append at (x ∷ ks) end k l f = (l.0, lies_append (at + x.count * slot_words x.words) ks end k l.1 f)

pub laid_append : (ks : List Kept) (words end : ℕ) (k : Kept) → IsLaid ks words → IsSound k → k.first ≡ words → end ≡ end_of k → end < 2 ^ 64 → IsLaid (ks ++ k ∷ []) end
laid_append ks words end k laid sound f is fits =
    record {
      sound = λ j m e. ⊎_elim (λ (same : m ≡ k). subst IsSound (sym same) sound) (λ (old : slice_get ks j ≡ Some m). laid.sound j m old) (get_append ks k m j e);
      lies = subst (LiesFrom 0 (ks ++ k ∷ [])) (sym is) (lies_append 0 ks words k laid.lies f);
      fits = fits;
    }

-- ---- all slots fill the block

lies_sum : (block : List ℕ) (at : ℕ) (ks : List Kept) (end : ℕ) → LiesFrom at ks end → at + sum_by row_words (map (shown block) ks) ≡ end
lies_sum block at [] end l = let e : at ≡ end = l in omega arith
lies_sum block at (k ∷ ks) end l =
    let h = lies_sum block (at + k.count * slot_words k.words) ks end l.1 in
    let c = sum_by-cons row_words (shown block k) (map (shown block) ks) in
    omega arith

pub laid_sum : (block : List ℕ) (ks : List Kept) (words : ℕ) → IsLaid ks words → words ≡ sum_by row_words (map (shown block) ks)
laid_sum block ks words laid = let h = lies_sum block 0 ks words laid.lies in omega arith

-- ---- what a write leaves

pub shown_kept : (a b words : List ℕ) (m : Kept) (at : ℕ) → IsSound m → IsWritten a b at words → (end_of m ≤ at) ⊎ (at + length words ≤ m.first) → shown b m ≡ shown a m
shown_kept a b words m at sound w apart =
    ap (λ rs. record { slots = m.count; words = m.words; places = m.waiting; records = rs })
    (records_same (λ slot. part b (start_of m slot) m.words) (λ slot. part a (start_of m slot) m.words) m.numbers
    (λ slot some. part_same b a (start_of m slot) m.words (λ i low high. w.others i (outside slot i (sound.within slot some) low high apart))))
  where
    outside : (slot i : ℕ) → slot < m.count → start_of m slot ≤ i → i < start_of m slot + m.words → (end_of m ≤ at) ⊎ (at + length words ≤ m.first) → (i < at) ⊎ (at + length words ≤ i)
    outside slot i h low high (inl e) = let ends = slot_ends m slot h in inl (omega arith)
    outside slot i h low high (inr e) = inr (omega arith)

-- ---- the view of all units

map_same : (a b : List ℕ) (ks : List Kept) → ((j : ℕ) (m : Kept) → slice_get ks j ≡ Some m → shown b m ≡ shown a m) → map (shown b) ks ≡ map (shown a) ks
map_same a b [] h = refl
map_same a b (k ∷ ks) h = ap (λ (s : SlotsOf). s ∷ map (shown b) ks) (h zero k refl) ∙ ap (λ (l : List SlotsOf). shown a k ∷ l) (map_same a b ks (λ j m e. h (suc j) m e))

changed : (a b : List ℕ) (ks : List Kept) (u : ℕ) (k : Kept) → ((j : ℕ) (m : Kept) → j ≢ u → slice_get ks j ≡ Some m → shown b m ≡ shown a m) → map (shown b) (slice_set ks u k) ≡ slice_set (map (shown a) ks) u (shown b k)
changed a b [] u k h = refl
changed a b (x ∷ ks) zero k h = ap (λ (l : List SlotsOf). shown b k ∷ l) (map_same a b ks (λ j m e. h (suc j) m (λ z. absurd (never j z)) e))
  where
    never : (j : ℕ) → suc j ≡ zero → ⊥
    never j z = omega arith
changed a b (x ∷ ks) (suc u) k h =
    ap (λ (s : SlotsOf). s ∷ map (shown b) (slice_set ks u k)) (h zero x (λ z. absurd (never z)) refl)
    ∙ ap (λ (l : List SlotsOf). shown a x ∷ l) (changed a b ks u k (λ j m ne e. h (suc j) m (λ z. ne (back j z)) e))
  where
    never : zero ≡ suc u → ⊥
    never z = omega arith

    back : (j : ℕ) → suc j ≡ suc u → j ≡ u
    back j z = omega arith

pub shown_at : (a : List ℕ) (ks : List Kept) (u : ℕ) (k : Kept) → slice_get ks u ≡ Some k → slots_at (map (shown a) ks) u ≡ shown a k
shown_at a [] u k e = absurd cc
shown_at a (x ∷ ks) zero k e = ap (shown a) (same_some x k e)
shown_at a (x ∷ ks) (suc u) k e = shown_at a ks u k e

set_there : (ks : List Kept) (u : ℕ) (k m : Kept) → slice_get ks u ≡ Some m → slice_get (slice_set ks u k) u ≡ Some k
set_there [] u k m e = absurd cc
set_there (x ∷ ks) zero k m e = refl
set_there (x ∷ ks) (suc u) k m e = set_there ks u k m e

pub set_same : (ks : List Kept) (u : ℕ) (k : Kept) → slice_get ks u ≡ Some k → slice_set ks u k ≡ ks
set_same [] u k e = refl
set_same (x ∷ ks) zero k e = ap (λ (y : Kept). y ∷ ks) (sym (same_some x k e))
set_same (x ∷ ks) (suc u) k e = ap (λ (l : List Kept). x ∷ l) (set_same ks u k e)

-- a unit's slots before and after
pub both_at : (P : SlotsOf → SlotsOf → Type 0) (old : List SlotsOf) (a b : List ℕ) (ks : List Kept) (u : ℕ) (k new : Kept) → map (shown a) ks ≡ old → slice_get ks u ≡ Some k → P (shown a k) (shown b new) → P (slots_at old u) (slots_at (map (shown b) (slice_set ks u new)) u)
both_at P old a b ks u k new view e h =
    subst (λ (s : SlotsOf). P s (slots_at (map (shown b) (slice_set ks u new)) u)) (sym (shown_at a ks u k e) ∙ ap (λ (l : List SlotsOf). slots_at l u) view)
    (subst (λ (s : SlotsOf). P (shown a k) s) (sym (shown_at b (slice_set ks u new) u new (set_there ks u new k e))) h)

-- and the others
pub others_stay : (old : List SlotsOf) (a b : List ℕ) (ks : List Kept) (u : ℕ) (k new : Kept) → map (shown a) ks ≡ old → slice_get ks u ≡ Some k → ((j : ℕ) (m : Kept) → j ≢ u → slice_get ks j ≡ Some m → shown b m ≡ shown a m)
    → map (shown b) (slice_set ks u new) ≡ slice_set old u (slots_at (map (shown b) (slice_set ks u new)) u)
others_stay old a b ks u k new view e h =
    changed a b ks u new h
    ∙ (ap (λ (s : SlotsOf). slice_set (map (shown a) ks) u s) (sym (shown_at b (slice_set ks u new) u new (set_there ks u new k e)))
    ∙ ap (λ (l : List SlotsOf). slice_set l u (slots_at (map (shown b) (slice_set ks u new)) u)) view)

-- a write to a slot of one unit leaves the other units
pub units_apart : (a b words : List ℕ) (ks : List Kept) (size u slot : ℕ) (k : Kept) → IsLaid ks size → slice_get ks u ≡ Some k → slot < k.count → length words ≡ k.words → IsWritten a b (start_of k slot) words → (j : ℕ) (m : Kept) → j ≢ u → slice_get ks j ≡ Some m → shown b m ≡ shown a m
units_apart a b words ks size u slot k laid e within long w j m ne is =
    shown_kept a b words m (start_of k slot) (laid.sound j m is) w (side (lies_apart 0 ks size u j k m laid.lies e is ne))
  where
    side : (end_of m ≤ k.first) ⊎ (end_of k ≤ m.first) → (end_of m ≤ start_of k slot) ⊎ (start_of k slot + length words ≤ m.first)
    side (inl h) = inl (omega arith)
    side (inr h) = let ends = slot_ends k slot within in inr (omega arith)

-- ---- the unit of a number

pub unit_there : (old : List SlotsOf) (a : List ℕ) (ks : List Kept) (u : ℕ) (k : Kept) → map (shown a) ks ≡ old → u < length old → k ≡ get_or ks u k → slice_get ks u ≡ Some k
unit_there old a ks u k view h e =
    let same = ap (λ (l : List SlotsOf). length l) view in
    slice_get-get_or ks u k (omega (arith, same, length-map ks (shown a))) ∙ ap (λ (m : Kept). Some m) (sym e)

pub unit_shown : (old : List SlotsOf) (a : List ℕ) (ks : List Kept) (u : ℕ) (k : Kept) → map (shown a) ks ≡ old → slice_get ks u ≡ Some k → slots_at old u ≡ shown a k
unit_shown old a ks u k view e = ap (λ (l : List SlotsOf). slots_at l u) (sym view) ∙ shown_at a ks u k e

some_unit : (ks : List Kept) (u : ℕ) → u < length ks → (k : Kept) × (slice_get ks u ≡ Some k)
some_unit [] u h = absurd (omega arith)
some_unit (k ∷ ks) zero h = (k, refl)
some_unit (k ∷ ks) (suc u) h = some_unit ks u (omega arith)

pub all_are_free : (block : List ℕ) (ks : List Kept) (counts words : List ℕ) (u : ℕ) → AreEmpty counts words ks → u < length (map (shown block) ks) → slots_at (map (shown block) ks) u ≡ all_free (slice_index counts u) (slice_index words u)
all_are_free block ks counts words u empty h =
    let k = some_unit ks u (omega (arith, length-map ks (shown block))) in
    shown_at block ks u k.0 k.1 ∙ ap (shown block) (empty u k.0 k.1)

pub length_shown : (block : List ℕ) (ks : List Kept) (n : ℕ) → length ks ≡ n → length (map (shown block) ks) ≡ n
length_shown block ks n e = length-map ks (shown block) ∙ e

-- ---- a unit more

pub sound_empty : (count words first : ℕ) → count < 2 ^ 32 → IsSound (empty_kept count words first)
sound_empty count words first small =
    record { small = small; used = omega arith; within = λ slot some. absurd (none_there slot some); there = λ slot wait. absurd (none_waits slot wait); apart = tt }
  where
    none_there : (slot : ℕ) → IsSome (number_at (empty_kept count words first) slot) → ⊥
    none_there slot e = absurd cc

    none_waits : (slot : ℕ) → waits_in [] slot ≡ true → ⊥
    none_waits slot e = absurd cc

pub record UnitsSoFar (counts words : List ℕ) (ks : List Kept) (unit first : ℕ) : Type 0 where
  pub laid : IsLaid ks first
  pub count : length ks ≡ unit
  pub empty : AreEmpty counts words ks

get_in : (ks : List Kept) (k m : Kept) (u : ℕ) → slice_get (ks ++ k ∷ []) u ≡ Some m → ((m ≡ k) × (u ≡ length ks)) ⊎ (slice_get ks u ≡ Some m)
get_in [] k m zero e = inl (sym (same_some k m e), refl)
get_in [] k m (suc u) e = absurd cc
get_in (x ∷ ks) k m zero e = inr e
get_in (x ∷ ks) k m (suc u) e = ⊎_elim (λ (t : (m ≡ k) × (u ≡ length ks)). inl (t.0, ap suc t.1)) (λ (o : slice_get ks u ≡ Some m). inr o) (get_in ks k m u e)

pub one_unit_more : (counts words : List ℕ) (ks : List Kept) (unit first end count width : ℕ) → UnitsSoFar counts words ks unit first → count ≡ slice_index counts unit → width ≡ slice_index words unit → count < 2 ^ 32 → end ≡ first + count * slot_words width → end < 2 ^ 64 → UnitsSoFar counts words (ks ++ empty_kept count width first ∷ []) (unit + 1) end
one_unit_more counts words ks unit first end count width so c w small is fits =
    let size = so.count in
    record {
      laid = laid_append ks first end (empty_kept count width first) so.laid (sound_empty count width first small) refl is fits;
      count = omega (arith, size, length-append ks (empty_kept count width first ∷ []));
      empty = λ u k e. ⊎_elim (λ (t : (k ≡ empty_kept count width first) × (u ≡ length ks)). last u k t.0 (t.1 ∙ size)) (λ (o : slice_get ks u ≡ Some k). so.empty u k o) (get_in ks (empty_kept count width first) k u e);
    }
  where
    last : (u : ℕ) (k : Kept) → k ≡ empty_kept count width first → u ≡ unit → k ≡ empty_kept (slice_index counts u) (slice_index words u) k.first
    last u k same at =
        same
        ∙ (ap (λ (n : ℕ). empty_kept n width first) (c ∙ ap (slice_index counts) (sym at))
        ∙ (ap (λ (n : ℕ). empty_kept (slice_index counts u) n first) (w ∙ ap (slice_index words) (sym at))
        ∙ ap (λ (n : ℕ). empty_kept (slice_index counts u) (slice_index words u) n) (sym (ap (λ (m : Kept). m.first) same))))

-- ---- a block that was lent whole

pub whole_again : (old new : List ℕ) (len : ℕ) → length new ≡ len → take len (new ++ drop (length new) old) ≡ new
whole_again old new len e = take_at new (drop (length new) old) len e
