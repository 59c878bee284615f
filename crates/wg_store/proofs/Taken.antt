-- The records that a launch takes have its group next.
use Rattle.std.proofs.Common.{◌≡◌, ℕ, zero, suc, ◌+◌, ◌<◌, ◌≤◌, Bool, true, false, List, [], ◌∷◌, ◌++◌, length, map, refl, ap, sym, ◌∙◌, subst, arith, Option, Some, unwrap_or, drop, take}
use Rattle.std.specs.Prelude.{if◌then◌else◌, ◌==◌, ◌&&◌, ◌||◌, filter, slice_get}
use Rattle.std.specs.List.{prefix_len}
use Rattle.std.proofs.lemmas.Bool.Decides.{nat_tests}
use Rattle.wg_words.specs.Each.{Each}
use Rattle.wg_machine.specs.declared.shape.Kind.{Kind}
use Rattle.wg_machine.specs.declared.shape.Kind.TheVariants.{Thread, Coalescing, Grid, GridField}
use Rattle.wg_machine.specs.declared.shape.Shape.{Shape}
use Rattle.wg_machine.specs.Grids.{groups_in, groups_of}
use Rattle.wg_machine.specs.Step.{has_number}
use Rattle.wg_machine.specs.Units.{kind_at, most_inputs}
use Rattle.wg_keep.specs.Opening.{unopened_groups}
use Rattle.wg_standing.specs.Standing.{EachFull, IsFull, has_one_group, origin}
use Rattle.wg_store.specs.declared.item.Item.{Item}
use Rattle.wg_store.specs.Items.{AreAtPlaces, ItemsRise, OpensNext, first_at, fits_next, fits_unit, item_in, live_item, lives, numbers_in, pending_of, waits_item}
use Rattle.wg_store.proofs.Choices.{GroupsAreCounted, all_fit, each_map, lives_wait}
use Rattle.wg_store.proofs.Found.{drop_cons, each_filter}

pub rises_places : (from end : ℕ) (entries slots : List Item) → AreAtPlaces from entries → ItemsRise (from + length entries) slots end → ItemsRise from (entries ++ slots) end
rises_places from end [] slots places rises = let z : from + 0 ≡ from = omega arith in subst (λ (n : ℕ). ItemsRise n slots end) z rises
rises_places from end (x ∷ entries) slots places rises =
    let p = places.0 in
    let z : from + suc (length entries) ≡ (from + 1) + length entries = omega arith in
    (omega (arith, p), subst (λ (n : ℕ). ItemsRise n (entries ++ slots) end) (let q : from + 1 ≡ x.number + 1 = omega (arith, p) in q) (rises_places (from + 1) end entries slots places.1 (subst (λ (n : ℕ). ItemsRise n slots end) z rises)))

-- a record is the one with its number
abbrev pub IsFound : List Item → Item → Type 0
IsFound items x = item_in x.number items ≡ Some x

later_found : (x : Item) (items : List Item) (lo : ℕ) (ys : List Item) → Each (λ (y : Item). (x.number + 1 ≤ y.number) × IsFound items y) ys → Each (IsFound (x ∷ items)) ys
later_found x items lo [] each = tt
later_found x items lo (y ∷ ys) each =
    let low = each.0.0 in
    let q : (x.number == y.number) ≡ false = grind (arith, nat_tests) in
    (rw q each.0.1, later_found x items lo ys each.1)

low_found : (lo end : ℕ) (items : List Item) → ItemsRise lo items end → Each (λ (y : Item). (lo ≤ y.number) × IsFound items y) items
low_found lo end [] rises = tt
low_found lo end (x ∷ items) rises =
    let q : (x.number == x.number) ≡ true = grind (arith, nat_tests) in
    ((rises.0, rw q refl), join items (low_found (x.number + 1) end items rises.1) (later_found x items lo items (low_found (x.number + 1) end items rises.1)))
  where
    join : (ys : List Item) → Each (λ (y : Item). (x.number + 1 ≤ y.number) × IsFound items y) ys → Each (IsFound (x ∷ items)) ys → Each (λ (y : Item). (lo ≤ y.number) × IsFound (x ∷ items) y) ys
    join [] a b = tt
    join (y ∷ ys) a b = let low = a.0.0 in let first = rises.0 in ((omega (arith, low, first), b.0), join ys a.1 b.1)

pub all_found : (lo end : ℕ) (items : List Item) → ItemsRise lo items end → Each (IsFound items) items
all_found lo end items rises = each_map (λ (y : Item). (lo ≤ y.number) × IsFound items y) (IsFound items) items (λ y p. p.1) (low_found lo end items rises)

-- one of the records is that with its number
of_number : (P : Item → Type 0) (items ys : List Item) (x : Item) → IsFound items x → Each (IsFound items) ys → Each P ys → has_number (numbers_in ys) x.number ≡ true → P x
of_number P items [] x found each holds has = absurd (cc)
of_number P items (y ∷ ys) x found each holds has = go (y.number == x.number) refl has (of_number P items ys x found each.1 holds.1)
  where
    inner : (a b : Item) → Some a ≡ Some b → a ≡ b
    inner a b e = cc

    go : (b : Bool) → (y.number == x.number) ≡ b → (b || has_number (numbers_in ys) x.number) ≡ true → (has_number (numbers_in ys) x.number ≡ true → P x) → P x
    go true e f rest =
        let n : y.number ≡ x.number = grind (arith, nat_tests) in
        subst P (inner y x (sym each.0 ∙ ap (λ (m : ℕ). item_in m items) n ∙ found)) holds.0
    go false e f rest = rest f

-- the record's next group
abbrev pub HasNext : List ℕ → Item → Type 0
HasNext at x = slice_get (groups_of x.opening.grid) x.opening.opened ≡ Some at

get_drop : (gs : List (List ℕ)) (i : ℕ) → slice_get (drop i gs) 0 ≡ slice_get gs i
get_drop [] zero = refl
get_drop [] (suc i) = refl
get_drop (g ∷ gs) zero = refl
get_drop (g ∷ gs) (suc i) = get_drop gs i

each_take : (P : Item → Type 0) (k : ℕ) (xs : List Item) → Each P xs → Each P (take k xs)
each_take P zero xs each = tt
each_take P (suc k) [] each = tt
each_take P (suc k) (x ∷ xs) each = (each.0, each_take P k xs each.1)

some_group : (gs : List (List ℕ)) (i : ℕ) → i < length gs → slice_get gs i ≡ Some (unwrap_or (slice_get gs i) [])
some_group [] i h = absurd (omega arith)
some_group (g ∷ gs) zero h = refl
some_group (g ∷ gs) (suc i) h = some_group gs i (omega arith)

-- what the records that are taken have in common
pub record AreTaken (shape : Shape) (u : ℕ) (items xs : List Item) : Type 0 where
  pub found : Each (IsFound items) xs
  pub full : Each (λ (x : Item). IsFull shape (live_item [] x)) xs
  pub unit : Each (λ (x : Item). x.unit ≡ u) xs
  pub wait : Each (λ (x : Item). waits_item x ≡ true) xs

have_next : GroupsAreCounted → (shape : Shape) (u : ℕ) (xs : List Item) → Each (λ (x : Item). IsFull shape (live_item [] x)) xs → Each (λ (x : Item). x.unit ≡ u) xs → Each (λ (x : Item). waits_item x ≡ true) xs → Each (HasNext (first_at xs)) (take (most_inputs (kind_at shape u)) xs)
have_next law shape u [] full unit wait = each_take (HasNext []) (most_inputs (kind_at shape u)) [] tt
have_next law shape u (x ∷ xs) full unit wait = go (kind_at shape u) refl
  where
    first : HasNext (first_at (x ∷ xs)) x
    first =
        let many = law x.opening.grid in
        let w = wait.0 in
        let less : x.opening.opened < groups_in x.opening.grid = grind (arith, nat_tests) in
        some_group (groups_of x.opening.grid) x.opening.opened (omega (arith, many, less))

    alone : (y : Item) → has_one_group (kind_at shape u) ≡ true → y.unit ≡ u → IsFull shape (live_item [] y) → HasNext origin y
    alone y one e f = sym (get_drop (groups_of y.opening.grid) y.opening.opened) ∙ ap (λ (gs : List (List ℕ)). slice_get gs 0) (f.whole (ap (λ (v : ℕ). has_one_group (kind_at shape v)) e ∙ one))

    all_alone : (ys : List Item) → has_one_group (kind_at shape u) ≡ true → Each (λ (y : Item). y.unit ≡ u) ys → Each (λ (y : Item). IsFull shape (live_item [] y)) ys → Each (HasNext origin) ys
    all_alone [] one e f = tt
    all_alone (y ∷ ys) one e f = (alone y one e.0 f.0, all_alone ys one e.1 f.1)

    at_origin : has_one_group (kind_at shape u) ≡ true → first_at (x ∷ xs) ≡ origin
    at_origin one = ap (λ (o : Option (List ℕ)). unwrap_or o []) (alone x one unit.0 full.0)

    whole : (k : ℕ) → has_one_group (kind_at shape u) ≡ true → Each (HasNext (first_at (x ∷ xs))) (take k (x ∷ xs))
    whole k one = subst (λ (at : List ℕ). Each (HasNext at) (take k (x ∷ xs))) (sym (at_origin one)) (each_take (HasNext origin) k (x ∷ xs) (all_alone (x ∷ xs) one unit full))

    go : (kind : Kind) → kind_at shape u ≡ kind → Each (HasNext (first_at (x ∷ xs))) (take (most_inputs kind) (x ∷ xs))
    go Thread e = (first, tt)
    go (Coalescing most) e = whole most (ap has_one_group e)
    go (Grid a b c) e = (first, tt)
    go (GridField f p a b c) e = (first, tt)

-- each record that a launch takes has the launch's group next
pub taken_open : GroupsAreCounted → (ticket : ℕ) (shape : Shape) (u : ℕ) (items xs : List Item) → Each (IsFound items) items → AreTaken shape u items xs → Each (OpensNext (pending_of ticket shape u xs)) items
taken_open law ticket shape u items xs found taken = all items found
  where
    k : ℕ
    k = most_inputs (kind_at shape u)

    next : (x : Item) → HasNext (first_at xs) x → unopened_groups x.opening ≡ first_at xs ∷ drop (x.opening.opened + 1) (groups_of x.opening.grid)
    next x e = drop_cons (groups_of x.opening.grid) x.opening.opened (first_at xs) e

    all : (ys : List Item) → Each (IsFound items) ys → Each (OpensNext (pending_of ticket shape u xs)) ys
    all [] each = tt
    all (y ∷ ys) each = ((λ has. next y (of_number (HasNext (first_at xs)) items (take k xs) y each.0 (each_take (IsFound items) k xs taken.found) (have_next law shape u xs taken.full taken.unit taken.wait) has)), all ys each.1)

-- what is live with nothing out is full, so each record that waits is
full_wait : (shape : Shape) (xs : List Item) → EachFull shape (map (live_item []) xs) → Each (λ (x : Item). IsFull shape (live_item [] x)) xs
full_wait shape [] each = tt
full_wait shape (x ∷ xs) each = (each.0, full_wait shape xs each.1)

each_right : {X : Type 0} (P : X → Type 0) (xs ys : List X) → Each P (xs ++ ys) → Each P ys
each_right P [] ys each = each
each_right P (x ∷ xs) ys each = each_right P xs ys each.1

each_left : {X : Type 0} (P : X → Type 0) (xs ys : List X) → Each P (xs ++ ys) → Each P xs
each_left P [] ys each = tt
each_left P (x ∷ xs) ys each = (each.0, each_left P xs ys each.1)

tests_hold : (p : Item → Bool) (xs : List Item) → Each (λ (x : Item). p x ≡ true) (filter p xs)
tests_hold p [] = tt
tests_hold p (x ∷ xs) = go (p x) refl (tests_hold p xs)
  where
    go : (b : Bool) → p x ≡ b → Each (λ (y : Item). p y ≡ true) (filter p xs) → Each (λ (y : Item). p y ≡ true) (if b then x ∷ filter p xs else filter p xs)
    go true e rest = (e, rest)
    go false e rest = rest

filter_split : (xs ys : List Item) → filter waits_item (xs ++ ys) ≡ filter waits_item xs ++ filter waits_item ys
filter_split [] ys = refl
filter_split (x ∷ xs) ys = go (waits_item x) (filter_split xs ys)
  where
    go : (b : Bool) → filter waits_item (xs ++ ys) ≡ filter waits_item xs ++ filter waits_item ys → (if b then x ∷ filter waits_item (xs ++ ys) else filter waits_item (xs ++ ys)) ≡ (if b then x ∷ filter waits_item xs else filter waits_item xs) ++ filter waits_item ys
    go true rest = ap (λ (zs : List Item). x ∷ zs) rest
    go false rest = rest

-- the records that wait are full
full_items : GroupsAreCounted → (shape : Shape) (entries slots : List Item) → EachFull shape (lives [] (entries ++ slots)) → Each (λ (x : Item). IsFull shape (live_item [] x)) (filter waits_item entries) × Each (λ (x : Item). IsFull shape (live_item [] x)) (filter waits_item slots)
full_items law shape entries slots each =
    let all = full_wait shape (filter waits_item (entries ++ slots)) (subst (EachFull shape) (lives_wait law (entries ++ slots)) each) in
    let parts = subst (Each (λ (x : Item). IsFull shape (live_item [] x))) (filter_split entries slots) all in
    (each_left (λ (x : Item). IsFull shape (live_item [] x)) (filter waits_item entries) (filter waits_item slots) parts, each_right (λ (x : Item). IsFull shape (live_item [] x)) (filter waits_item entries) (filter waits_item slots) parts)

unit_first : (u : ℕ) (xs : List Item) → fits_unit u xs ≡ filter (λ (x : Item). x.unit == u) (filter waits_item xs)
unit_first u xs = sym (all_fit (λ (x : Item). x.unit == u) (λ (x : Item). (x.unit == u) && waits_item x) xs (each_any xs))
  where
    swap : (a b : Bool) → (a && b) ≡ (b && a)
    swap true true = refl
    swap true false = refl
    swap false true = refl
    swap false false = refl

    each_any : (ys : List Item) → Each (λ (x : Item). (waits_item x && (x.unit == u)) ≡ ((x.unit == u) && waits_item x)) ys
    each_any [] = tt
    each_any (y ∷ ys) = (swap (waits_item y) (y.unit == u), each_any ys)

both_are : (a b : Bool) → (a && b) ≡ true → (a ≡ true) × (b ≡ true)
both_are true true e = (refl, refl)
both_are true false e = absurd (cc)
both_are false b e = absurd (cc)

-- the records in slots that a launch of a unit takes
pub slots_taken : GroupsAreCounted → (shape : Shape) (u end : ℕ) (entries slots : List Item) → AreAtPlaces 0 entries → ItemsRise (length entries) slots end → EachFull shape (lives [] (entries ++ slots)) → AreTaken shape u (entries ++ slots) (fits_unit u slots)
slots_taken law shape u end entries slots places rises each =
    let z : 0 + length entries ≡ length entries = omega arith in
    let found = all_found 0 end (entries ++ slots) (rises_places 0 end entries slots places (subst (λ (n : ℕ). ItemsRise n slots end) (sym z) rises)) in
    let holds = tests_hold (λ (x : Item). (x.unit == u) && waits_item x) slots in
    record {
      found = each_filter (IsFound (entries ++ slots)) (λ (x : Item). (x.unit == u) && waits_item x) slots (each_right (IsFound (entries ++ slots)) entries slots found);
      full = subst (Each (λ (x : Item). IsFull shape (live_item [] x))) (sym (unit_first u slots)) (each_filter (λ (x : Item). IsFull shape (live_item [] x)) (λ (x : Item). x.unit == u) (filter waits_item slots) (full_items law shape entries slots each).1);
      unit = each_map (λ (x : Item). ((x.unit == u) && waits_item x) ≡ true) (λ (x : Item). x.unit ≡ u) (fits_unit u slots) (λ x e. (let t = (both_are (x.unit == u) (waits_item x) e).0 in grind (arith, nat_tests))) holds;
      wait = each_map (λ (x : Item). ((x.unit == u) && waits_item x) ≡ true) (λ (x : Item). waits_item x ≡ true) (fits_unit u slots) (λ x e. (both_are (x.unit == u) (waits_item x) e).1) holds;
    }

while_hold : (u : ℕ) (xs : List Item) → Each (λ (x : Item). x.unit ≡ u) (take (prefix_len (λ (x : Item). x.unit == u) xs) xs)
while_hold u [] = tt
while_hold u (x ∷ xs) = go (x.unit == u) refl (while_hold u xs)
  where
    go : (b : Bool) → (x.unit == u) ≡ b → Each (λ (y : Item). y.unit ≡ u) (take (prefix_len (λ (y : Item). y.unit == u) xs) xs) → Each (λ (y : Item). y.unit ≡ u) (take (if b then 1 + prefix_len (λ (y : Item). y.unit == u) xs else 0) (x ∷ xs))
    go true e rest =
        let z : 1 + prefix_len (λ (y : Item). y.unit == u) xs ≡ suc (prefix_len (λ (y : Item). y.unit == u) xs) = omega arith in
        subst (λ (k : ℕ). Each (λ (y : Item). y.unit ≡ u) (take k (x ∷ xs))) (sym z) (grind (arith, nat_tests), rest)
    go false e rest = tt

-- the entries that a launch of a unit takes
pub entries_taken : GroupsAreCounted → (shape : Shape) (u end : ℕ) (entries slots : List Item) → AreAtPlaces 0 entries → ItemsRise (length entries) slots end → EachFull shape (lives [] (entries ++ slots)) → AreTaken shape u (entries ++ slots) (fits_next u entries)
entries_taken law shape u end entries slots places rises each =
    let z : 0 + length entries ≡ length entries = omega arith in
    let found = all_found 0 end (entries ++ slots) (rises_places 0 end entries slots places (subst (λ (n : ℕ). ItemsRise n slots end) (sym z) rises)) in
    let k = prefix_len (λ (x : Item). x.unit == u) (filter waits_item entries) in
    record {
      found = each_take (IsFound (entries ++ slots)) k (filter waits_item entries) (each_filter (IsFound (entries ++ slots)) waits_item entries (each_left (IsFound (entries ++ slots)) entries slots found));
      full = each_take (λ (x : Item). IsFull shape (live_item [] x)) k (filter waits_item entries) (full_items law shape entries slots each).0;
      unit = while_hold u (filter waits_item entries);
      wait = each_take (λ (x : Item). waits_item x ≡ true) k (filter waits_item entries) (tests_hold waits_item entries);
    }
