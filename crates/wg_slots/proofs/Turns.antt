-- What a call does to a ring of slots and to the numbers by slot.
use Rattle.std.proofs.Common.{◌≡◌, ◌≢◌, ℕ, zero, suc, ◌+◌, ◌<◌, ◌≤◌, Bool, true, false, List, [], ◌∷◌, ◌++◌, length, Some, None, refl, sym, ap, subst, ◌∙◌, arith}
use Rattle.std.specs.Prelude.{◌==◌, ◌||◌, is_some, IsSome, count_by, slice_get, slice_set, slice_index_or}
use Rattle.std.proofs.lemmas.List.{length-append, length-set, append-nil, append_assoc}
use Rattle.std.proofs.lemmas.Bool.{eqb-true, eq-eqb}
use Rattle.wg_slots.specs.SlotsOf.{waits_in}
use Rattle.wg_slots.specs.Kept.{Kept, AreApart, KeepsNumber, DropsNumber}
use Rattle.wg_slots.specs.Places.{PlacesOf, IsRing, ring, in_use}
use Rattle.wg_slots.proofs.Records.{or_left, or_right}
use Rattle.wg_slots.proofs.Apart.{apart_more}
use Rattle.wg_slots.proofs.Rings.{free_none, used_some, same_use, is_used, used_are, few_apart, waits_or, waits_right, apart_right, other_waits}

-- a unit as its ring and its numbers show it
abbrev pub kept_by : ℕ → ℕ → ℕ → PlacesOf → List ℕ → Kept
kept_by count words first p ns = record { count = count; words = words; first = first; waiting = p.waiting; numbers = in_use p.free 0 ns }

pub free_within : (count most : ℕ) (p : PlacesOf) (ns : List ℕ) → IsRing count most p ns → (slot : ℕ) → waits_in p.free slot ≡ true → slot < length ns
free_within count most p ns r slot w = r.within slot (waits_right p.waiting p.free slot w)

-- the slots without a number were never used or are free again
pub free_counts : (count most : ℕ) (p : PlacesOf) (ns : List ℕ) → IsRing count most p ns → count_by is_some (in_use p.free 0 ns) + length p.free ≡ length ns
free_counts count most p ns r = used_are p.free ns (apart_right p.waiting p.free r.apart) (free_within count most p ns r)

pub ring_few : (count most : ℕ) (p : PlacesOf) (ns : List ℕ) → IsRing count most p ns → length p.waiting + length p.free ≤ length ns
ring_few count most p ns r = let h = few_apart (ring p) ns r.apart r.within in let l = length-append p.waiting p.free in omega arith

-- ---- hold

pub ring_hold : (count most : ℕ) (p : PlacesOf) (ns ws : List ℕ) (slot : ℕ) → IsRing count most p ns → p.waiting ≡ slot ∷ ws → IsRing count most (record p { waiting = ws }) ns
ring_hold count most p ns ws slot r e =
    record {
      small = r.small;
      room = r.room;
      numbers_room = r.numbers_room;
      few = r.few;
      apart = (subst (λ (l : List ℕ). AreApart (l ++ p.free)) e r.apart).1;
      within = λ s w. r.within s (ap (λ (l : List ℕ). waits_in (l ++ p.free) s) e ∙ or_right (slot == s) (waits_in (ws ++ p.free) s) w);
    }

-- ---- release

ring_none : (p : PlacesOf) (slot : ℕ) → waits_in p.waiting slot ≡ false → waits_in p.free slot ≡ false → waits_in (ring p) slot ≡ false
ring_none p slot a b = waits_or p.waiting p.free slot ∙ (ap (λ (c : Bool). c || waits_in p.free slot) a ∙ b)

-- a slot is among slots and one more
more_waits : (ps : List ℕ) (slot s : ℕ) → waits_in (ps ++ slot ∷ []) s ≡ (waits_in ps s || waits_in (slot ∷ []) s)
more_waits ps slot s = waits_or ps (slot ∷ []) s

more_within : (ps : List ℕ) (slot n : ℕ) → slot < n → ((s : ℕ) → waits_in ps s ≡ true → s < n) → (s : ℕ) → waits_in (ps ++ slot ∷ []) s ≡ true → s < n
more_within ps slot n h within s w = choice (waits_in ps s) (slot == s) refl refl (sym (more_waits ps slot s) ∙ w)
  where
    choice : (b c : Bool) → waits_in ps s ≡ b → (slot == s) ≡ c → (b || (c || false)) ≡ true → s < n
    choice true c e f t = within s e
    choice false true e f t = subst (λ (k : ℕ). k < n) (eqb-true slot s f) h
    choice false false e f t = absurd cc

-- the ring has room for a slot more that has a number and does not wait
pub release_room : (count most : ℕ) (p : PlacesOf) (ns : List ℕ) (slot : ℕ) → IsRing count most p ns → IsSome (slice_index_or (in_use p.free 0 ns) slot None) → waits_in p.waiting slot ≡ false → length p.waiting + length p.free < p.room
release_room count most p ns slot r some none =
    let used = is_used p.free ns slot some in
    let h = few_apart (ring p ++ slot ∷ []) ns (apart_more (ring p) slot r.apart (ring_none p slot none used.used)) (more_within (ring p) slot (length ns) used.within r.within) in
    let a = length-append (ring p) (slot ∷ []) in
    let b = length-append p.waiting p.free in
    let few = r.few in
    let room = r.room in
    omega arith

pub ring_release : (count most : ℕ) (p : PlacesOf) (ns : List ℕ) (slot : ℕ) → IsRing count most p ns → IsSome (slice_index_or (in_use p.free 0 ns) slot None) → waits_in p.waiting slot ≡ false → IsRing count most (record p { free = p.free ++ slot ∷ [] }) ns
ring_release count most p ns slot r some none =
    let used = is_used p.free ns slot some in
    record {
      small = r.small;
      room = r.room;
      numbers_room = r.numbers_room;
      few = r.few;
      apart = subst AreApart all (apart_more (ring p) slot r.apart (ring_none p slot none used.used));
      within = λ s w. more_within (ring p) slot (length ns) used.within r.within s (subst (λ (l : List ℕ). waits_in l s ≡ true) (sym all) w);
    }
  where
    all : ring p ++ slot ∷ [] ≡ p.waiting ++ (p.free ++ slot ∷ [])
    all = append_assoc p.waiting p.free (slot ∷ [])

pub drops : (count most words first : ℕ) (p : PlacesOf) (ns : List ℕ) (slot : ℕ) → IsRing count most p ns → IsSome (slice_index_or (in_use p.free 0 ns) slot None) → waits_in p.waiting slot ≡ false
    → DropsNumber (kept_by count words first p ns) (kept_by count words first (record p { free = p.free ++ slot ∷ [] }) ns) slot
drops count most words first p ns slot r some none =
    let after = free_counts count most (record p { free = p.free ++ slot ∷ [] }) ns (ring_release count most p ns slot r some none) in
    let before = free_counts count most p ns r in
    let long = length-append p.free (slot ∷ []) in
    record {
      is_free = free_none (p.free ++ slot ∷ []) ns slot (waits_right p.free (slot ∷ []) slot (or_left (slot == slot) false (eq-eqb slot slot refl)));
      others = λ other ne. same_use (p.free ++ slot ∷ []) p.free ns ns other (more_waits p.free slot other ∙ (ap (λ (b : Bool). waits_in p.free other || b) (other_waits slot other [] (λ e. ne (sym e))) ∙ or_false (waits_in p.free other))) refl;
      used = omega arith;
      same = refl;
    }
  where
    or_false : (b : Bool) → (b || false) ≡ b
    or_false true = refl
    or_false false = refl

-- ---- put

ring_again : (p : PlacesOf) (slot : ℕ) (free : List ℕ) → p.free ≡ slot ∷ free → ring p ≡ (p.waiting ++ slot ∷ []) ++ free
ring_again p slot free e = ap (λ (l : List ℕ). p.waiting ++ l) e ∙ sym (append_assoc p.waiting (slot ∷ []) free)

pub again_within : (count most : ℕ) (p : PlacesOf) (ns free : List ℕ) (slot : ℕ) → IsRing count most p ns → p.free ≡ slot ∷ free → slot < length ns
again_within count most p ns free slot r e = free_within count most p ns r slot (ap (λ (l : List ℕ). waits_in l slot) e ∙ or_left (slot == slot) (waits_in free slot) (eq-eqb slot slot refl))

pub ring_put_again : (count most : ℕ) (p : PlacesOf) (ns free : List ℕ) (slot number : ℕ) → IsRing count most p ns → p.free ≡ slot ∷ free
    → IsRing count most (record { waiting = p.waiting ++ slot ∷ []; free = free; room = p.room }) (slice_set ns slot number)
ring_put_again count most p ns free slot number r e =
    let long = length-set ns slot number in
    let few = r.few in
    record {
      small = r.small;
      room = r.room;
      numbers_room = r.numbers_room;
      few = omega arith;
      apart = subst AreApart (ring_again p slot free e) r.apart;
      within = λ s w. let h = r.within s (ap (λ (l : List ℕ). waits_in l s) (ring_again p slot free e) ∙ w) in omega arith;
    }

set_there : (ns : List ℕ) (i n : ℕ) → i < length ns → slice_get (slice_set ns i n) i ≡ Some n
set_there [] i n h = absurd (omega arith)
set_there (m ∷ ns) zero n h = refl
set_there (m ∷ ns) (suc i) n h = set_there ns i n (omega arith)

set_other : (ns : List ℕ) (i j n : ℕ) → j ≢ i → slice_get (slice_set ns i n) j ≡ slice_get ns j
set_other [] i j n ne = refl
set_other (m ∷ ns) zero zero n ne = absurd (ne refl)
set_other (m ∷ ns) zero (suc j) n ne = refl
set_other (m ∷ ns) (suc i) zero n ne = refl
set_other (m ∷ ns) (suc i) (suc j) n ne = set_other ns i j n (λ e. ne (ap suc e))

pub puts_again : (count most words first : ℕ) (p : PlacesOf) (ns free : List ℕ) (slot number : ℕ) → IsRing count most p ns → p.free ≡ slot ∷ free
    → KeepsNumber (kept_by count words first p ns) (kept_by count words first (record { waiting = p.waiting ++ slot ∷ []; free = free; room = p.room }) (slice_set ns slot number)) number slot
puts_again count most words first p ns free slot number r e =
    let inside = again_within count most p ns free slot r e in
    let few = r.few in
    let apart : AreApart (slot ∷ free) = subst AreApart e (apart_right p.waiting p.free r.apart) in
    let after = free_counts count most (record { waiting = p.waiting ++ slot ∷ []; free = free; room = p.room }) (slice_set ns slot number) (ring_put_again count most p ns free slot number r e) in
    let before = free_counts count most p ns r in
    let long = length-set ns slot number in
    let one = ap (λ (l : List ℕ). length l) e in
    record {
      within = omega arith;
      was_free = ap (λ (l : List ℕ). slice_index_or (in_use l 0 ns) slot None) e ∙ free_none (slot ∷ free) ns slot (or_left (slot == slot) (waits_in free slot) (eq-eqb slot slot refl));
      is_there = used_some free (slice_set ns slot number) slot apart.0 ∙ set_there ns slot number inside;
      others = λ other ne. same_use free p.free (slice_set ns slot number) ns other (sym (ap (λ (l : List ℕ). waits_in l other) e ∙ other_waits slot other free (λ f. ne (sym f)))) (set_other ns slot other number ne);
      used = omega arith;
      same = refl;
    }

-- a slot that had no record yet

past : (ns : List ℕ) → slice_get ns (length ns) ≡ None
past [] = refl
past (n ∷ ns) = past ns

last_there : (ns : List ℕ) (n : ℕ) → slice_get (ns ++ n ∷ []) (length ns) ≡ Some n
last_there [] n = refl
last_there (m ∷ ns) n = last_there ns n

last_other : (ns : List ℕ) (n j : ℕ) → j ≢ length ns → slice_get (ns ++ n ∷ []) j ≡ slice_get ns j
last_other [] n zero ne = absurd (ne refl)
last_other [] n (suc j) ne = refl
last_other (m ∷ ns) n zero ne = refl
last_other (m ∷ ns) n (suc j) ne = last_other ns n j (λ e. ne (ap suc e))

none_free : (free : List ℕ) → length free ≡ 0 → free ≡ []
none_free [] e = refl
none_free (f ∷ free) e = absurd (omega arith)

new_apart : (p : PlacesOf) (ns : List ℕ) → ((s : ℕ) → waits_in (ring p) s ≡ true → s < length ns) → waits_in (ring p) (length ns) ≡ false
new_apart p ns within = choice (waits_in (ring p) (length ns)) refl
  where
    choice : (b : Bool) → waits_in (ring p) (length ns) ≡ b → b ≡ false
    choice true e = let h = within (length ns) e in absurd (omega arith)
    choice false e = refl

pub ring_put_first : (count most : ℕ) (p : PlacesOf) (ns : List ℕ) (number : ℕ) → IsRing count most p ns → length p.free ≡ 0 → length ns < count
    → IsRing count most (record p { waiting = p.waiting ++ length ns ∷ [] }) (ns ++ number ∷ [])
ring_put_first count most p ns number r none room =
    let long = length-append ns (number ∷ []) in
    record {
      small = r.small;
      room = r.room;
      numbers_room = r.numbers_room;
      few = omega arith;
      apart = subst AreApart all (apart_more (ring p) (length ns) r.apart (new_apart p ns r.within));
      within = λ s w. let h = more_within (ring p) (length ns) (length ns + 1) (omega arith) (λ t v. let g = r.within t v in omega arith) s (subst (λ (l : List ℕ). waits_in l s ≡ true) (sym all) w) in omega arith;
    }
  where
    empty : p.free ≡ []
    empty = none_free p.free none

    all : ring p ++ length ns ∷ [] ≡ (p.waiting ++ length ns ∷ []) ++ p.free
    all = ap (λ (l : List ℕ). l ++ length ns ∷ []) (ap (λ (l : List ℕ). p.waiting ++ l) empty ∙ append-nil p.waiting)
        ∙ sym (ap (λ (l : List ℕ). (p.waiting ++ length ns ∷ []) ++ l) empty ∙ append-nil (p.waiting ++ length ns ∷ []))

pub first_room : (count most : ℕ) (p : PlacesOf) (ns : List ℕ) → IsRing count most p ns → length p.free ≡ 0 → count_by is_some (in_use p.free 0 ns) < count → length ns < count
first_room count most p ns r none free = let before = free_counts count most p ns r in omega arith

pub puts_first : (count most words first : ℕ) (p : PlacesOf) (ns : List ℕ) (number : ℕ) → IsRing count most p ns → length p.free ≡ 0 → length ns < count
    → KeepsNumber (kept_by count words first p ns) (kept_by count words first (record p { waiting = p.waiting ++ length ns ∷ [] }) (ns ++ number ∷ [])) number (length ns)
puts_first count most words first p ns number r none room =
    let after = free_counts count most (record p { waiting = p.waiting ++ length ns ∷ [] }) (ns ++ number ∷ []) (ring_put_first count most p ns number r none room) in
    let before = free_counts count most p ns r in
    let long = length-append ns (number ∷ []) in
    record {
      within = room;
      was_free = used_some p.free ns (length ns) unused ∙ past ns;
      is_there = used_some p.free (ns ++ number ∷ []) (length ns) unused ∙ last_there ns number;
      others = λ other ne. same_use p.free p.free (ns ++ number ∷ []) ns other refl (last_other ns number other ne);
      used = omega arith;
      same = refl;
    }
  where
    unused : waits_in p.free (length ns) ≡ false
    unused = ap (λ (l : List ℕ). waits_in l (length ns)) (none_free p.free none)
