-- One more number of those that a launch takes; no record lives.
use Rattle.std.proofs.Common.{◌≡◌, ℕ, zero, suc, ◌+◌, ◌<◌, ◌≤◌, Bool, true, false, List, [], ◌∷◌, ◌++◌, length, take, get_or, Some, None, Option, refl, ap, sym, ◌∙◌, subst, arith}
use Rattle.std.specs.Prelude.{if◌then◌else◌, ◌==◌, ◌||◌}
use Rattle.std.proofs.lemmas.Bool.Decides.{nat_tests}
use Rattle.wg_words.specs.Each.{Each}
use Rattle.wg_machine.specs.declared.launch.Live.{Live}
use Rattle.wg_machine.specs.declared.shape.Shape.{Shape}
use Rattle.wg_machine.specs.Step.{IsReady, has_number, left_after, taken}
use Rattle.wg_records.specs.declared.live.LiveRecords.{LiveRecords}
use Rattle.wg_records.specs.declared.slot.Slot.{Slot}
use Rattle.std.specs.Map.{lookup}
use Rattle.wg_records.specs.Bags.{live_at, slot_at, Keeps, Matches}
use Rattle.wg_records.specs.Named.{NumbersRise}
use Rattle.wg_records.specs.Taking.{TakesAt}
use Rattle.wg_records.proofs.Found.{numbers, each_there, each_taken}
use Rattle.wg_records.proofs.Keeping.{take_one}
use Rattle.wg_records.proofs.Lists.{left_more, live_others}

pub take_next : (xs : List ℕ) (i x : ℕ) → i < length xs → x ≡ get_or xs i x → take (i + 1) xs ≡ take i xs ++ x ∷ []
take_next [] i x less is = absurd (omega arith)
take_next (y ∷ xs) zero x less is = ap (λ (z : ℕ). z ∷ []) (sym is)
take_next (y ∷ xs) (suc i) x less is = let s : suc i + 1 ≡ suc (i + 1) = omega arith in rw s (ap (λ (l : List ℕ). y ∷ l) (take_next xs i x (omega arith) is))

-- a number that rises is none of those before it

least : (m : ℕ) (ns : List ℕ) (i n : ℕ) → NumbersRise m ns → i < length ns → n ≡ get_or ns i n → m ≤ n
least m [] i n rise less is = absurd (omega arith)
least m (k ∷ ns) zero n rise less is = let f = rise.0 in omega (arith, f, is)
least m (k ∷ ns) (suc i) n rise less is = let f = rise.0 in let g = least (k + 1) ns i n rise.1 (omega arith) is in omega (arith, f, g)

pub not_before : (m : ℕ) (ns : List ℕ) (i n : ℕ) → NumbersRise m ns → i < length ns → n ≡ get_or ns i n → has_number (take i ns) n ≡ false
not_before m [] i n rise less is = absurd (omega arith)
not_before m (k ∷ ns) zero n rise less is = refl
not_before m (k ∷ ns) (suc i) n rise less is =
    let g = least (k + 1) ns i n rise.1 (omega arith) is in
    let e : (k == n) ≡ false = grind (arith, nat_tests) in
    ap (λ (b : Bool). b || has_number (take i ns) n) e ∙ not_before (k + 1) ns i n rise.1 (omega arith) is

-- the record of a number, which has a group to run
pub record Waits (bag : List Live) (unit : ℕ) (at : List ℕ) (n : ℕ) : Type 0 where
  pub live : Live
  pub there : live_at n bag ≡ Some live
  pub ready : IsReady unit at live

waits : (bag : List Live) (unit : ℕ) (at : List ℕ) (xs : List Live) (ns : List ℕ) (i n : ℕ) → numbers xs ≡ ns → Each (λ (r : Live). live_at r.number bag ≡ Some r) xs → Each (IsReady unit at) xs → i < length ns → n ≡ get_or ns i n → Waits bag unit at n
waits bag unit at [] [] i n e there ready less is = absurd (omega arith)
waits bag unit at [] (k ∷ ns) i n e there ready less is = absurd (cc)
waits bag unit at (x ∷ xs) [] i n e there ready less is = absurd (omega arith)
waits bag unit at (x ∷ xs) (k ∷ ns) zero n e there ready less is =
    let same : x.number ≡ n = (let a : x.number ≡ k = cc in a ∙ sym is) in
    record { live = x; there = ap (λ (m : ℕ). live_at m bag) (sym same) ∙ there.0; ready = ready.0 }
waits bag unit at (x ∷ xs) (k ∷ ns) (suc i) n e there ready less is =
    let rest : numbers xs ≡ ns = cc in
    waits bag unit at xs ns i n rest there.1 ready.1 (omega arith) is

pub left_nothing : (at : List ℕ) (new : Option (List ℕ)) (bag : List Live) → left_after [] at new bag ≡ bag
left_nothing at new [] = refl
left_nothing at new (x ∷ bag) = ap (λ (l : List Live). x ∷ l) (left_nothing at new bag)

pub take_more : (shape : Shape) (first k after : LiveRecords) (bag : List Live) (ns at : List ℕ) (new : Option (List ℕ)) (unit i n : ℕ)
    → length at ≡ 3 → NumbersRise 0 ns → i < length ns → n ≡ get_or ns i n → Keeps shape first bag → numbers (taken ns bag) ≡ ns → Each (IsReady unit at) (taken ns bag)
    → Keeps shape k (left_after (take i ns) at new bag) → TakesAt shape n at new k after
    → Keeps shape after (left_after (take (i + 1) ns) at new bag)
take_more shape first k after bag ns at new unit i n three rise less is start are ready keeps takes =
    let w = waits bag unit at (taken ns bag) ns i n are (each_taken (λ (r : Live). live_at r.number bag ≡ Some r) ns bag (each_there 0 first.next bag start.rises)) ready less is in
    let apart = not_before 0 ns i n rise less is in
    let there : live_at n (left_after (take i ns) at new bag) ≡ Some w.live = live_others (take i ns) at n new bag apart ∙ w.there in
    subst (Keeps shape after) (left_more (take i ns) at n new bag apart ∙ ap (λ (ms : List ℕ). left_after ms at new bag) (sym (take_next ns i n less is)))
    (take_one shape n at new k after (left_after (take i ns) at new bag) w.live three keeps there w.ready.group_is takes)

pub length_none : {X : Type 0} (xs : List X) → length xs ≡ 0 → xs ≡ []
length_none [] e = refl
length_none (x ∷ xs) e = absurd (omega (arith, e))

-- no slot stands exactly where no record lives
pub empty_from : (shape : Shape) (k : LiveRecords) (bag : List Live) → Keeps shape k bag → k.slots.entries ≡ [] → bag ≡ []
empty_from shape k [] keeps e = refl
empty_from shape k (x ∷ bag) keeps e =
    let here : (x.number == x.number) ≡ true = grind (arith, nat_tests) in
    let none : slot_at k x.number ≡ None = ap (λ (l : List (ℕ × Slot)). lookup (λ m. x.number == m) l) e in
    absurd (subst (λ (p : Option Live). Matches None p) (ap (λ (b : Bool). if b then Some x else live_at x.number bag) here) (subst (λ (o : Option Slot). Matches o (live_at x.number (x ∷ bag))) none (keeps.slots x.number)))

pub empty_to : (shape : Shape) (k : LiveRecords) → Keeps shape k [] → length k.slots.entries ≡ 0
empty_to shape k keeps = go k.slots.entries refl
  where
    go : (es : List (ℕ × Slot)) → k.slots.entries ≡ es → length k.slots.entries ≡ 0
    go [] e = ap (λ (l : List (ℕ × Slot)). length l) e
    go (x ∷ es) e =
        let here : (x.0 == x.0) ≡ true = grind (arith, nat_tests) in
        let list : slot_at k x.0 ≡ lookup (λ m. x.0 == m) (x ∷ es) = ap (λ (l : List (ℕ × Slot)). lookup (λ m. x.0 == m) l) e in
        let first : lookup (λ m. x.0 == m) (x ∷ es) ≡ Some x.1 = ap (λ (b : Bool). if b then Some x.1 else lookup (λ m. x.0 == m) es) here in
        absurd (subst (λ (o : Option Slot). Matches o None) (list ∙ first) (keeps.slots x.0))

pub none_left : (shape : Shape) (k : LiveRecords) → k.slots.entries ≡ [] → k.next ≡ 0 → k.bytes ≡ 0 → Keeps shape k []
none_left shape k none next bytes = record {
  rises = omega arith;
  slots = λ n. subst (λ (o : Option Slot). Matches o None) (sym (ap (λ (l : List (ℕ × Slot)). lookup (λ m. n == m) l) none)) tt;
  bytes = bytes;
}

pub positive : (n : ℕ) → (n ≡ 0 → ⊥) → 1 ≤ n
positive zero h = absurd (h refl)
positive (suc n) h = omega arith

-- within a list the value for places past it does not matter
pub same_at : (ns : List ℕ) (i d : ℕ) → i < length ns → get_or ns i 0 ≡ get_or ns i d
same_at [] i d less = absurd (omega arith)
same_at (n ∷ ns) zero d less = refl
same_at (n ∷ ns) (suc i) d less = same_at ns i d (omega arith)
