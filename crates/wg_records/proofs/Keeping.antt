-- What is kept stays that of the bag: where a record comes to be, and where one has run a group.
use Rattle.std.proofs.Common.{◌≡◌, ℕ, ◌+◌, ◌≤◌, Bool, true, false, List, [], ◌∷◌, ◌++◌, length, Some, None, Option, unwrap_or, refl, ap, sym, ◌∙◌, subst, arith, append-nil}
use Rattle.std.specs.Prelude.{if◌then◌else◌, ◌==◌, nat_le}
use Rattle.std.proofs.lemmas.Bool.Decides.{nat_tests, Decides-eqb}
use Rattle.std.proofs.lemmas.List.Sums.{sum_by-cons, sum_by-append}
use Rattle.wg_machine.specs.declared.launch.Live.{Live}
use Rattle.wg_machine.specs.declared.launch.Sent.{Sent}
use Rattle.wg_machine.specs.declared.shape.Shape.{Shape}
use Rattle.wg_machine.specs.Grids.{groups_of, grid_of, has_group, without_group}
use Rattle.wg_machine.specs.State.{kept, live_of}
use Rattle.wg_machine.specs.Step.{after_group, left_after}
use Rattle.wg_machine.specs.Units.{kind_at}
use Rattle.wg_records.specs.declared.live.LiveRecords.{LiveRecords}
use Rattle.wg_records.specs.declared.slot.Slot.{Slot}
use Rattle.wg_records.specs.Bags.{bytes_of, bytes_of_bag, live_at, slot_at, IsSlotOf, Keeps, Matches, Rises}
use Rattle.wg_records.specs.Slots.{IsBorn}
use Rattle.wg_records.specs.Taking.{bytes_gone, IsLeft, TakesAt}
use Rattle.wg_records.proofs.Groups.{length_without}
use Rattle.wg_records.proofs.Lists.{first_live, live_after, live_append, live_left, live_with, none_above, none_below, or_live, rises_append, rises_left, untouched, has_one}
use Rattle.wg_records.proofs.Slots.{born_slot, ran_slot}

bytes_cons : (shape : Shape) (handed : ℕ) (x : Live) (xs : List Live) → bytes_of_bag shape handed (x ∷ xs) ≡ bytes_of shape handed x.number x.unit + bytes_of_bag shape handed xs
bytes_cons shape handed x xs = sum_by-cons (λ (r : Live). bytes_of shape handed r.number r.unit) x xs

bytes_append : (shape : Shape) (handed : ℕ) (xs ys : List Live) → bytes_of_bag shape handed (xs ++ ys) ≡ bytes_of_bag shape handed xs + bytes_of_bag shape handed ys
bytes_append shape handed xs ys = sum_by-append (λ (r : Live). bytes_of shape handed r.number r.unit) xs ys

-- a record comes to be

none_kept : (o : Option Slot) (p : Option Live) → p ≡ None → Matches o p → o ≡ None
none_kept None None e m = refl
none_kept (Some s) None e m = absurd m
none_kept o (Some r) e m = absurd (cc)

put_none : (shape : Shape) (k new : LiveRecords) (bag : List Live) (unit : ℕ) (words grid : List ℕ) (gs : List (List ℕ)) (s : Slot)
    → IsSlotOf s (live_with k.next unit words grid gs) → s.left ≡ 0 → Keeps shape k bag
    → new.next ≡ k.next + 1 → new.handed ≡ k.handed → ((q : ℕ) → slot_at new q ≡ slot_at k q) → new.bytes ≡ k.bytes
    → Keeps shape new (bag ++ kept (live_with k.next unit words grid gs))
put_none shape k new bag unit words grid [] s is none keeps next handed slots bytes = record {
  rises = subst (λ (n : ℕ). Rises 0 (bag ++ []) n) (sym next) (rises_append 0 k.next (k.next + 1) bag [] keeps.rises (omega arith));
  slots = λ q.
      subst (λ (o : Option Slot). Matches o (live_at q (bag ++ []))) (sym (slots q))
      (subst (λ (l : List Live). Matches (slot_at k q) (live_at q l)) (sym (append-nil bag)) (keeps.slots q));
  bytes = bytes ∙ keeps.bytes ∙ ap (bytes_of_bag shape k.handed) (sym (append-nil bag)) ∙ ap (λ (h : ℕ). bytes_of_bag shape h (bag ++ [])) (sym handed);
}
put_none shape k new bag unit words grid (g ∷ gs) s is none keeps next handed slots bytes = let a = is.left in absurd (omega (arith, a, none))

pub empty_put : (shape : Shape) (k new : LiveRecords) (bag : List Live) (sent : Sent) (s : Slot)
    → IsBorn shape sent s → s.left ≡ 0 → Keeps shape k bag
    → new.next ≡ k.next + 1 → new.handed ≡ k.handed → ((q : ℕ) → slot_at new q ≡ slot_at k q) → new.bytes ≡ k.bytes
    → Keeps shape new (bag ++ kept (live_of shape k.next sent))
empty_put shape k new bag sent s born none keeps next handed slots bytes =
    put_none shape k new bag sent.unit sent.words (grid_of (kind_at shape sent.unit) sent.words) (groups_of (grid_of (kind_at shape sent.unit) sent.words)) s (born_slot shape k.next sent s born) none keeps next handed slots bytes

put_some : (shape : Shape) (k new : LiveRecords) (bag : List Live) (unit : ℕ) (words grid : List ℕ) (gs : List (List ℕ)) (s : Slot)
    → IsSlotOf s (live_with k.next unit words grid gs) → 1 ≤ s.left → Keeps shape k bag
    → new.next ≡ k.next + 1 → new.handed ≡ k.handed → ((q : ℕ) → slot_at new q ≡ (if k.next == q then Some s else slot_at k q))
    → new.bytes ≡ k.bytes + bytes_of shape k.handed k.next unit
    → Keeps shape new (bag ++ kept (live_with k.next unit words grid gs))
put_some shape k new bag unit words grid [] s is some keeps next handed slots bytes = let a = is.left in absurd (omega (arith, a, some))
put_some shape k new bag unit words grid (g ∷ gs) s is some keeps next handed slots bytes = record {
  rises = subst (λ (n : ℕ). Rises 0 (bag ++ x ∷ []) n) (sym next) (rises_append 0 k.next (k.next + 1) bag (x ∷ []) keeps.rises (omega arith, omega arith));
  slots = λ q. choice q (k.next == q) refl;
  bytes = (let a = bytes_append shape k.handed bag (x ∷ []) in let b = bytes_cons shape k.handed x [] in let c = keeps.bytes in
      let d : new.bytes ≡ bytes_of_bag shape k.handed (bag ++ x ∷ []) = omega (arith, a, b, c, bytes) in
      d ∙ ap (λ (h : ℕ). bytes_of_bag shape h (bag ++ x ∷ [])) (sym handed));
}
  where
    x : Live
    x = live_with k.next unit words grid (g ∷ gs)

    choice : (q : ℕ) (b : Bool) → (k.next == q) ≡ b → Matches (slot_at new q) (live_at q (bag ++ x ∷ []))
    choice q true e =
        let same : k.next ≡ q = (Decides-eqb k.next q).0 e in
        let none : live_at q bag ≡ None = none_above q 0 k.next bag keeps.rises (omega (arith, same)) in
        let there : live_at q (bag ++ x ∷ []) ≡ Some x = live_append q bag (x ∷ []) ∙ ap (λ (o : Option Live). or_live o (live_at q (x ∷ []))) none ∙ ap (λ (b : Bool). if b then Some x else None) e in
        let here : slot_at new q ≡ Some s = slots q ∙ ap (λ (b : Bool). if b then Some s else slot_at k q) e in
        subst (λ (o : Option Slot). Matches o (live_at q (bag ++ x ∷ []))) (sym here) (subst (λ (p : Option Live). Matches (Some s) p) (sym there) is)
    choice q false e =
        let there : live_at q (bag ++ x ∷ []) ≡ live_at q bag = live_append q bag (x ∷ []) ∙ ap (λ (b : Bool). or_live (live_at q bag) (if b then Some x else None)) e ∙ back (live_at q bag) in
        let here : slot_at new q ≡ slot_at k q = slots q ∙ ap (λ (b : Bool). if b then Some s else slot_at k q) e in
        subst (λ (o : Option Slot). Matches o (live_at q (bag ++ x ∷ []))) (sym here) (subst (λ (p : Option Live). Matches (slot_at k q) p) (sym there) (keeps.slots q))
      where
        back : (o : Option Live) → or_live o None ≡ o
        back None = refl
        back (Some r) = refl

pub full_put : (shape : Shape) (k new : LiveRecords) (bag : List Live) (sent : Sent) (s : Slot)
    → IsBorn shape sent s → 1 ≤ s.left → Keeps shape k bag
    → new.next ≡ k.next + 1 → new.handed ≡ k.handed → ((q : ℕ) → slot_at new q ≡ (if k.next == q then Some s else slot_at k q))
    → new.bytes ≡ k.bytes + bytes_of shape k.handed k.next sent.unit
    → Keeps shape new (bag ++ kept (live_of shape k.next sent))
full_put shape k new bag sent s born some keeps next handed slots bytes =
    put_some shape k new bag sent.unit sent.words (grid_of (kind_at shape sent.unit) sent.words) (groups_of (grid_of (kind_at shape sent.unit) sent.words)) s (born_slot shape k.next sent s born) some keeps next handed slots bytes

-- a group of one record has run

-- the bytes that go with a record
gone_with : Shape → ℕ → List ℕ → Option Live → ℕ
gone_with shape handed at None = 0
gone_with shape handed at (Some r) = elim (without_group at r.groups) [ [] ↦ bytes_of shape handed r.number r.unit | (g ∷ gs) ↦ 0 ]

kept_bytes : (shape : Shape) (handed number unit : ℕ) (words grid : List ℕ) (gs : List (List ℕ))
    → bytes_of_bag shape handed (kept (live_with number unit words grid gs)) + elim gs [ [] ↦ bytes_of shape handed number unit | (h ∷ hs) ↦ 0 ] ≡ bytes_of shape handed number unit
kept_bytes shape handed number unit words grid [] = omega arith
kept_bytes shape handed number unit words grid (g ∷ gs) = let a = bytes_cons shape handed (live_with number unit words grid (g ∷ gs)) [] in omega (arith, a)

left_bytes : (shape : Shape) (handed n low end : ℕ) (at : List ℕ) (new : Option (List ℕ)) (bag : List Live) → Rises low bag end
    → bytes_of_bag shape handed (left_after (n ∷ []) at new bag) + gone_with shape handed at (live_at n bag) ≡ bytes_of_bag shape handed bag
unfolding gone_with
left_bytes shape handed n low end at new [] r = omega arith
left_bytes shape handed n low end at new (x ∷ bag) r = choice (x.number == n) refl (left_bytes shape handed n (x.number + 1) end at new bag r.1)
  where
    first : List Live
    first = kept (after_group at new x)

    flip : (a b : ℕ) (t : Bool) → (a == b) ≡ t → (b == a) ≡ t
    flip a b t e = let f : (b == a) ≡ (a == b) = grind (arith, nat_tests) in f ∙ e

    choice : (b : Bool) → (x.number == n) ≡ b → bytes_of_bag shape handed (left_after (n ∷ []) at new bag) + gone_with shape handed at (live_at n bag) ≡ bytes_of_bag shape handed bag
        → bytes_of_bag shape handed (left_after (n ∷ []) at new (x ∷ bag)) + gone_with shape handed at (if x.number == n then Some x else live_at n bag) ≡ bytes_of_bag shape handed (x ∷ bag)
    choice true e ih =
        let same : x.number ≡ n = (Decides-eqb x.number n).0 e in
        let list : left_after (n ∷ []) at new (x ∷ bag) ≡ first ++ bag =
        ap (λ (b : Bool). (if b then first else x ∷ []) ++ left_after (n ∷ []) at new bag) (has_one n x.number ∙ flip x.number n true e)
        ∙ ap (λ (l : List Live). first ++ l) (untouched n at new bag (none_below n (x.number + 1) end bag r.1 (omega (arith, same)))) in
        let a = ap (bytes_of_bag shape handed) list in
        let b = bytes_append shape handed first bag in
        let c = kept_bytes shape handed x.number x.unit (unwrap_or new x.words) x.grid (without_group at x.groups) in
        let d = bytes_cons shape handed x bag in
        let f = ap (λ (b : Bool). gone_with shape handed at (if b then Some x else live_at n bag)) e in
        omega (arith, a, b, c, d, f)
    choice false e ih =
        let list : left_after (n ∷ []) at new (x ∷ bag) ≡ x ∷ left_after (n ∷ []) at new bag =
        ap (λ (b : Bool). (if b then first else x ∷ []) ++ left_after (n ∷ []) at new bag) (has_one n x.number ∙ flip x.number n false e) in
        let a = ap (bytes_of_bag shape handed) list in
        let b = bytes_cons shape handed x (left_after (n ∷ []) at new bag) in
        let d = bytes_cons shape handed x bag in
        let f = ap (λ (b : Bool). gone_with shape handed at (if b then Some x else live_at n bag)) e in
        omega (arith, a, b, d, f, ih)

number_of : (n : ℕ) (bag : List Live) (r : Live) → live_at n bag ≡ Some r → r.number ≡ n
number_of n [] r h = absurd (cc)
number_of n (x ∷ bag) r h = choice (x.number == n) refl (λ k. number_of n bag r k) h
  where
    got : (a b : Live) → Some a ≡ Some b → a ≡ b
    got a b e = cc

    choice : (b : Bool) → (x.number == n) ≡ b → (live_at n bag ≡ Some r → r.number ≡ n) → (if b then Some x else live_at n bag) ≡ Some r → r.number ≡ n
    choice true e ih h = ap (λ (y : Live). y.number) (sym (got x r h)) ∙ (Decides-eqb x.number n).0 e
    choice false e ih h = ih h

-- a record's slot after a group, by the groups that are left
left_matches : (at : List ℕ) (new : Option (List ℕ)) (s : Slot) (r : Live) (o : Option Slot) → length at ≡ 3 → has_group r.groups at ≡ true → IsSlotOf s r → IsLeft at new (Some s) o
    → Matches o (first_live (kept (after_group at new r)))
left_matches at new s r None three has is left =
    let a = is.left in
    let b = length_without at r.groups has in
    go (without_group at r.groups) (omega (arith, a, b, left))
  where
    go : (gs : List (List ℕ)) → length gs ≡ 0 → Matches None (first_live (kept (live_with r.number r.unit (unwrap_or new r.words) r.grid gs)))
    go [] e = tt
    go (g ∷ gs) e = absurd (omega (arith, e))
left_matches at new s r (Some t) three has is left =
    let a = is.left in
    let b = length_without at r.groups has in
    let c = left.0 in
    go (without_group at r.groups) (omega (arith, a, b, c)) (ran_slot at new s t r three is left.1 has)
  where
    go : (gs : List (List ℕ)) → 1 ≤ length gs → IsSlotOf t (live_with r.number r.unit (unwrap_or new r.words) r.grid gs) → Matches (Some t) (first_live (kept (live_with r.number r.unit (unwrap_or new r.words) r.grid gs)))
    go [] e is = absurd (omega (arith, e))
    go (g ∷ gs) e is = is

gone_is : (shape : Shape) (handed n : ℕ) (at : List ℕ) (s : Slot) (r : Live) → has_group r.groups at ≡ true → IsSlotOf s r → r.number ≡ n
    → bytes_gone shape handed n (Some s) ≡ gone_with shape handed at (Some r)
unfolding gone_with
gone_is shape handed n at s r has is number =
    let a = is.left in
    let b = length_without at r.groups has in
    go (without_group at r.groups) (omega (arith, a, b))
  where
    go : (gs : List (List ℕ)) → s.left ≡ length gs + 1 → (if nat_le s.left 1 then bytes_of shape handed n s.unit else 0) ≡ elim gs [ [] ↦ bytes_of shape handed r.number r.unit | (h ∷ hs) ↦ 0 ]
    go [] e =
        let t : nat_le s.left 1 ≡ true = grind (arith, nat_tests) in
        ap (λ (b : Bool). if b then bytes_of shape handed n s.unit else 0) t
        ∙ ap (λ (m : ℕ). bytes_of shape handed m s.unit) (sym number) ∙ ap (bytes_of shape handed r.number) is.unit
    go (g ∷ gs) e =
        let t : nat_le s.left 1 ≡ false = grind (arith, nat_tests) in
        ap (λ (b : Bool). if b then bytes_of shape handed n s.unit else 0) t

-- a slot of a live record
pub record Slotted (k : LiveRecords) (n : ℕ) (r : Live) : Type 0 where
  pub slot : Slot
  pub there : slot_at k n ≡ Some slot
  pub is : IsSlotOf slot r

pub slotted : (k : LiveRecords) (n : ℕ) (o : Option Slot) (p : Option Live) (r : Live) → slot_at k n ≡ o → p ≡ Some r → Matches o p → Slotted k n r
slotted k n None None r e f m = absurd (cc)
slotted k n None (Some x) r e f m = absurd m
slotted k n (Some s) None r e f m = absurd m
slotted k n (Some s) (Some x) r e f m = let same : x ≡ r = cc in record { slot = s; there = e; is = subst (IsSlotOf s) same m }

pub take_one : (shape : Shape) (n : ℕ) (at : List ℕ) (new : Option (List ℕ)) (k after : LiveRecords) (bag : List Live) (r : Live)
    → length at ≡ 3 → Keeps shape k bag → live_at n bag ≡ Some r → has_group r.groups at ≡ true → TakesAt shape n at new k after
    → Keeps shape after (left_after (n ∷ []) at new bag)
take_one shape n at new k after bag r three keeps there has takes =
    let here = slotted k n (slot_at k n) (live_at n bag) r refl there (keeps.slots n) in
    let s = here.slot in
    let left : IsLeft at new (Some s) (slot_at after n) = subst (λ (o : Option Slot). IsLeft at new o (slot_at after n)) here.there takes.here in
    let number = number_of n bag r there in
    record {
      rises = subst (λ (m : ℕ). Rises 0 (left_after (n ∷ []) at new bag) m) (sym takes.next) (rises_left 0 k.next (n ∷ []) at new bag keeps.rises);
      slots = λ q. choice s left here.is q (n == q) refl;
      bytes = (let a = left_bytes shape k.handed n 0 k.next at new bag keeps.rises in
          let b = ap (gone_with shape k.handed at) there in
          let c = gone_is shape k.handed n at s r has here.is number in
          let d = ap (bytes_gone shape k.handed n) here.there in
          let e = takes.bytes in
          let f = keeps.bytes in
          let g : after.bytes ≡ bytes_of_bag shape k.handed (left_after (n ∷ []) at new bag) = omega (arith, a, b, c, d, e, f) in
          g ∙ ap (λ (h : ℕ). bytes_of_bag shape h (left_after (n ∷ []) at new bag)) (sym takes.handed));
    }
  where
    choice : (s : Slot) → IsLeft at new (Some s) (slot_at after n) → IsSlotOf s r → (q : ℕ) (b : Bool) → (n == q) ≡ b → Matches (slot_at after q) (live_at q (left_after (n ∷ []) at new bag))
    choice s left is q true e =
        let same : n ≡ q = (Decides-eqb n q).0 e in
        let list : live_at q (left_after (n ∷ []) at new bag) ≡ first_live (kept (after_group at new r)) =
        live_after q n 0 k.next at new bag keeps.rises ∙ ap (λ (b : Bool). if b then live_left at new (live_at n bag) else live_at q bag) e ∙ ap (live_left at new) there in
        let slot : slot_at after q ≡ slot_at after n = ap (slot_at after) (sym same) in
        subst (λ (o : Option Slot). Matches o (live_at q (left_after (n ∷ []) at new bag))) (sym slot)
        (subst (λ (p : Option Live). Matches (slot_at after n) p) (sym list) (left_matches at new s r (slot_at after n) three has is left))
    choice s left is q false e =
        let list : live_at q (left_after (n ∷ []) at new bag) ≡ live_at q bag =
        live_after q n 0 k.next at new bag keeps.rises ∙ ap (λ (b : Bool). if b then live_left at new (live_at n bag) else live_at q bag) e in
        subst (λ (o : Option Slot). Matches o (live_at q (left_after (n ∷ []) at new bag))) (sym (takes.others q e))
        (subst (λ (p : Option Live). Matches (slot_at k q) p) (sym list) (keeps.slots q))
