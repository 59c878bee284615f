-- Rows of which one record changes, with those that are gone among them.
use Rattle.std.proofs.Common.{◌≡◌, ℕ, zero, suc, ◌+◌, ◌<◌, ◌≤◌, ◌^◌, Bool, true, false, List, [], ◌∷◌, ◌++◌, length, map, refl, ap, sym, ◌∙◌, subst, arith, Option, Some, None, ◌⊎◌, inl, inr}
use Rattle.std.specs.Prelude.{IsTrue, if◌then◌else◌, ◌==◌, ◌||◌, cond, count_by, filter, nat_lt, slice_get, slice_set}
use Rattle.std.proofs.lemmas.Bool.Decides.{nat_tests}
use Rattle.std.proofs.lemmas.List.Elements.{filter-append}
use Rattle.std.proofs.lemmas.List.Sums.{sum_by-cons}
use Rattle.wg_words.specs.Each.{Each}
use Rattle.wg_machine.specs.Step.{has_number}
use Rattle.wg_store.specs.declared.item.Item.{Item}
use Rattle.wg_store.specs.Items.{CanOpen, all_counted, all_opened, has_left, item_in, waits_item, with_counted, with_opened, with_words}
use Rattle.wg_store.proofs.Found.{each_filter}
use Rattle.wg_hold.specs.Held.{count_of}
use Rattle.wg_hold.specs.RowsOf.{AreRising, AreRows, Ends, EndsWith, changed, changed_words, gone_at, gone_size, if_left, unit_gone, unit_of_last, worded}
use Rattle.wg_hold.proofs.Search.{rise_at, rise_from, same_item}

-- ---- steps of lists

pub left_yes : (x : Item) (xs : List Item) → has_left x ≡ true → filter has_left (x ∷ xs) ≡ x ∷ filter has_left xs
left_yes x xs l = rw l refl

pub left_no : (x : Item) (xs : List Item) → has_left x ≡ false → filter has_left (x ∷ xs) ≡ filter has_left xs
left_no x xs l = rw l refl

pub cons_left : (x : Item) (xs ys : List Item) → filter has_left xs ≡ filter has_left ys → filter has_left (x ∷ xs) ≡ filter has_left (x ∷ ys)
cons_left x xs ys e = go (has_left x)
  where
    go : (b : Bool) → (if b then x ∷ filter has_left xs else filter has_left xs) ≡ (if b then x ∷ filter has_left ys else filter has_left ys)
    go true = ap (λ (zs : List Item). x ∷ zs) e
    go false = e

-- a change of the records with the number
abbrev pub named : ℕ → (Item → Item) → List Item → List Item
named n f xs = map (λ (x : Item). if has_number (n ∷ []) x.number then f x else x) xs

pub one_is : (n m : ℕ) → has_number (n ∷ []) m ≡ (n == m)
one_is n m = go (n == m)
  where
    go : (b : Bool) → (b || false) ≡ b
    go true = refl
    go false = refl

pub named_yes : (n : ℕ) (f : Item → Item) (x : Item) (xs : List Item) → (n == x.number) ≡ true → named n f (x ∷ xs) ≡ f x ∷ named n f xs
named_yes n f x xs q = ap (λ (b : Bool). (if b then f x else x) ∷ named n f xs) (one_is n x.number ∙ q)

pub named_no : (n : ℕ) (f : Item → Item) (x : Item) (xs : List Item) → (n == x.number) ≡ false → named n f (x ∷ xs) ≡ x ∷ named n f xs
named_no n f x xs q = ap (λ (b : Bool). (if b then f x else x) ∷ named n f xs) (one_is n x.number ∙ q)

-- ---- one record changes

named_none : (n low : ℕ) (f : Item → Item) (xs : List Item) → n < low → AreRising low xs → named n f xs ≡ xs
named_none n low f [] h r = refl
named_none n low f (x ∷ xs) h r =
    let a = r.0 in
    let q : (n == x.number) ≡ false = grind (arith, nat_tests) in
    named_no n f x xs q ∙ ap (λ (l : List Item). x ∷ l) (named_none n (x.number + 1) f xs (omega (arith, a, h)) r.1)

pub changes_missing : (n : ℕ) (f : Item → Item) (xs : List Item) → item_in n xs ≡ None → xs ≡ changed n f xs
changes_missing n f [] e = refl
changes_missing n f (x ∷ xs) e = go (x.number == n) refl e (λ g. changes_missing n f xs g)
  where
    go : (b : Bool) → (x.number == n) ≡ b → (if b then Some x else item_in n xs) ≡ None → (item_in n xs ≡ None → xs ≡ changed n f xs) → x ∷ xs ≡ changed n f (x ∷ xs)
    go true q g rest = absurd (cc)
    go false q g rest =
        let d : (n == x.number) ≡ false = grind (arith, nat_tests) in
        ap (λ (l : List Item). x ∷ l) (rest g) ∙ sym (named_no n (if_left f) x xs d)

-- the record at the place changes
pub changes_at : (n low : ℕ) (f : Item → Item) (xs : List Item) (i : ℕ) (x : Item) → AreRising low xs → slice_get xs i ≡ Some x → x.number ≡ n → slice_set xs i (if_left f x) ≡ changed n f xs
changes_at n low f [] i x r e k = absurd (cc)
changes_at n low f (y ∷ xs) zero x r e k =
    let s = same_item y x e in
    let m = ap (λ (z : Item). z.number) s in
    let q : (n == y.number) ≡ true = grind (arith, nat_tests) in
    ap (λ (z : Item). if_left f z ∷ xs) (sym s)
    ∙ ap (λ (ys : List Item). if_left f y ∷ ys) (sym (named_none n (y.number + 1) (if_left f) xs (omega (arith, k, m)) r.1))
    ∙ sym (named_yes n (if_left f) y xs q)
changes_at n low f (y ∷ xs) (suc i) x r e k =
    let h = rise_at (y.number + 1) xs i x r.1 e in
    let q : (n == y.number) ≡ false = grind (arith, nat_tests) in
    ap (λ (ys : List Item). y ∷ ys) (changes_at n (y.number + 1) f xs i x r.1 e k) ∙ sym (named_no n (if_left f) y xs q)

pub named_at : (n : ℕ) (xs : List Item) (x : Item) → item_in n xs ≡ Some x → x.number ≡ n
named_at n [] x e = absurd (cc)
named_at n (y ∷ xs) x e = go (y.number == n) refl e (λ f. named_at n xs x f)
  where
    go : (b : Bool) → (y.number == n) ≡ b → (if b then Some y else item_in n xs) ≡ Some x → (item_in n xs ≡ Some x → x.number ≡ n) → x.number ≡ n
    go true q f rest = let s = ap (λ (z : Item). z.number) (same_item y x f) in let k : y.number ≡ n = grind (arith, nat_tests) in omega (arith, s, k)
    go false q f rest = rest f

-- ---- what is found of those that are not gone

found_yes : (n : ℕ) (x : Item) (xs : List Item) → (x.number == n) ≡ true → item_in n (x ∷ xs) ≡ Some x
found_yes n x xs q = ap (λ (b : Bool). if b then Some x else item_in n xs) q

found_no : (n : ℕ) (x : Item) (xs : List Item) → (x.number == n) ≡ false → item_in n (x ∷ xs) ≡ item_in n xs
found_no n x xs q = ap (λ (b : Bool). if b then Some x else item_in n xs) q

missing_above : (n low : ℕ) (xs : List Item) → n < low → AreRising low xs → item_in n xs ≡ None
missing_above n low [] h r = refl
missing_above n low (x ∷ xs) h r =
    let a = r.0 in
    let q : (x.number == n) ≡ false = grind (arith, nat_tests) in
    found_no n x xs q ∙ missing_above n (x.number + 1) xs (omega (arith, a, h)) r.1

pub rise_filter : (low : ℕ) (p : Item → Bool) (xs : List Item) → AreRising low xs → AreRising low (filter p xs)
rise_filter low p [] r = tt
rise_filter low p (x ∷ xs) r = go (p x) (rise_filter (x.number + 1) p xs r.1)
  where
    go : (b : Bool) → AreRising (x.number + 1) (filter p xs) → AreRising low (if b then x ∷ filter p xs else filter p xs)
    go true rest = (r.0, rest)
    go false rest = rise_from (x.number + 1) low (filter p xs) (let a = r.0 in omega (arith, a)) rest

-- one that is found, where it is not gone
abbrev pub if_not_gone : Option Item → Option Item
if_not_gone None = None
if_not_gone (Some x) = if has_left x then Some x else None

pub found_left : (n low : ℕ) (xs : List Item) → AreRising low xs → item_in n (filter has_left xs) ≡ if_not_gone (item_in n xs)
found_left n low [] r = refl
found_left n low (y ∷ xs) r = go (y.number == n) refl (has_left y) refl (found_left n (y.number + 1) xs r.1)
  where
    go : (b : Bool) → (y.number == n) ≡ b → (l : Bool) → has_left y ≡ l → item_in n (filter has_left xs) ≡ if_not_gone (item_in n xs) → item_in n (filter has_left (y ∷ xs)) ≡ if_not_gone (item_in n (y ∷ xs))
    go true q true l ih = ap (item_in n) (left_yes y xs l) ∙ found_yes n y (filter has_left xs) q ∙ sym (ap (λ (b : Bool). if b then Some y else None) l) ∙ sym (ap if_not_gone (found_yes n y xs q))
    go true q false l ih =
        ap (item_in n) (left_no y xs l)
        ∙ missing_above n (y.number + 1) (filter has_left xs) (let k : y.number ≡ n = grind (arith, nat_tests) in omega (arith, k)) (rise_filter (y.number + 1) has_left xs r.1)
        ∙ sym (ap (λ (b : Bool). if b then Some y else None) l)
        ∙ sym (ap if_not_gone (found_yes n y xs q))
    go false q true l ih = ap (item_in n) (left_yes y xs l) ∙ found_no n y (filter has_left xs) q ∙ ih ∙ sym (ap if_not_gone (found_no n y xs q))
    go false q false l ih = ap (item_in n) (left_no y xs l) ∙ ih ∙ sym (ap if_not_gone (found_no n y xs q))

-- the unit of a record that goes next
pub last_left : (n : ℕ) (xs : List Item) (x : Item) → AreRising 0 xs → item_in n xs ≡ Some x → unit_of_last (Some x) ≡ unit_gone n (filter has_left xs)
last_left n xs x r e = go (has_left x) refl ∙ sym (ap unit_of_last (found_left n 0 xs r ∙ ap if_not_gone e))
  where
    go : (b : Bool) → has_left x ≡ b → unit_of_last (Some x) ≡ unit_of_last (if_not_gone (Some x))
    go true l = sym (ap (λ (b : Bool). unit_of_last (if b then Some x else None)) l)
    go false l =
        let z : (x.opening.left == 1) ≡ false = grind (arith, nat_tests) in
        ap (λ (b : Bool). if b then Some x.unit else None) z ∙ sym (ap (λ (b : Bool). unit_of_last (if b then Some x else None)) l)

pub last_missing : (n : ℕ) (xs : List Item) → AreRising 0 xs → item_in n xs ≡ None → None ≡ unit_gone n (filter has_left xs)
last_missing n xs r e = sym (ap unit_of_last (found_left n 0 xs r ∙ ap if_not_gone e))

pub seen_missing : (n : ℕ) (xs : List Item) → AreRising 0 xs → item_in n xs ≡ None → None ≡ item_in n (filter has_left xs)
seen_missing n xs r e = sym (found_left n 0 xs r ∙ ap if_not_gone e)

pub seen_here : (n : ℕ) (xs : List Item) (x : Item) (b : Bool) → AreRising 0 xs → item_in n xs ≡ Some x → has_left x ≡ b → (if b then Some x else None) ≡ item_in n (filter has_left xs)
seen_here n xs x b r e l = sym (found_left n 0 xs r ∙ ap if_not_gone e ∙ ap (λ (t : Bool). if t then Some x else None) l)

pub each_empty : {A : Type 0} (P : A → Type 0) (xs : List A) → length xs ≡ 0 → Each P xs
each_empty P [] e = tt
each_empty P (x ∷ xs) e = absurd (cc)

-- one that is not gone can be opened
pub can_at : (n : ℕ) (xs : List Item) (i : ℕ) (x : Item) → slice_get xs i ≡ Some x → x.number ≡ n → Each (CanOpen (n ∷ [])) (filter has_left xs) → has_left x ≡ true → x.opening.opened + 1 < 2 ^ 32
can_at n [] i x e k can l = absurd (cc)
can_at n (y ∷ xs) zero x e k can l =
    let s = same_item y x e in
    let here : Each (CanOpen (n ∷ [])) (y ∷ filter has_left xs) = subst (Each (CanOpen (n ∷ []))) (left_yes y xs (ap has_left s ∙ l)) can in
    let m = ap (λ (z : Item). z.number) s in
    let q : (n == y.number) ≡ true = grind (arith, nat_tests) in
    subst (λ (z : Item). z.opening.opened + 1 < 2 ^ 32) s (here.0 (one_is n y.number ∙ q))
can_at n (y ∷ xs) (suc i) x e k can l = can_at n xs i x e k (rest (has_left y) can) l
  where
    rest : (b : Bool) → Each (CanOpen (n ∷ [])) (if b then y ∷ filter has_left xs else filter has_left xs) → Each (CanOpen (n ∷ [])) (filter has_left xs)
    rest true t = t.1
    rest false t = t

-- ---- what is left after a change

left_changes : (n : ℕ) (f : Item → Item) (xs : List Item) → ((x : Item) → has_left (f x) ≡ has_left x) → filter has_left (changed n f xs) ≡ named n f (filter has_left xs)
left_changes n f [] keeps = refl
left_changes n f (x ∷ xs) keeps = go (n == x.number) refl (has_left x) refl (left_changes n f xs keeps)
  where
    by : (b : Bool) → has_left x ≡ b → if_left f x ≡ (if b then f x else x)
    by b l = ap (λ (t : Bool). if t then f x else x) l

    go : (b : Bool) → (n == x.number) ≡ b → (l : Bool) → has_left x ≡ l → filter has_left (changed n f xs) ≡ named n f (filter has_left xs) → filter has_left (changed n f (x ∷ xs)) ≡ named n f (filter has_left (x ∷ xs))
    go true q true l ih =
        ap (filter has_left) (named_yes n (if_left f) x xs q)
        ∙ ap (λ (z : Item). filter has_left (z ∷ changed n f xs)) (by true l)
        ∙ left_yes (f x) (changed n f xs) (keeps x ∙ l)
        ∙ ap (λ (ys : List Item). f x ∷ ys) ih
        ∙ sym (named_yes n f x (filter has_left xs) q)
        ∙ sym (ap (named n f) (left_yes x xs l))
    go true q false l ih =
        ap (filter has_left) (named_yes n (if_left f) x xs q)
        ∙ ap (λ (z : Item). filter has_left (z ∷ changed n f xs)) (by false l)
        ∙ left_no x (changed n f xs) l
        ∙ ih
        ∙ sym (ap (named n f) (left_no x xs l))
    go false q true l ih =
        ap (filter has_left) (named_no n (if_left f) x xs q)
        ∙ left_yes x (changed n f xs) l
        ∙ ap (λ (ys : List Item). x ∷ ys) ih
        ∙ sym (named_no n f x (filter has_left xs) q)
        ∙ sym (ap (named n f) (left_yes x xs l))
    go false q false l ih =
        ap (filter has_left) (named_no n (if_left f) x xs q)
        ∙ left_no x (changed n f xs) l
        ∙ ih
        ∙ sym (ap (named n f) (left_no x xs l))

pub counts_left : (n : ℕ) (xs : List Item) → filter has_left (changed n with_counted xs) ≡ filter has_left (all_counted (n ∷ []) (filter has_left xs))
counts_left n [] = refl
counts_left n (x ∷ xs) = go (n == x.number) refl (has_left x) refl (counts_left n xs)
  where
    by : (b : Bool) → has_left x ≡ b → if_left with_counted x ≡ (if b then with_counted x else x)
    by b l = ap (λ (t : Bool). if t then with_counted x else x) l

    go : (b : Bool) → (n == x.number) ≡ b → (l : Bool) → has_left x ≡ l → filter has_left (changed n with_counted xs) ≡ filter has_left (all_counted (n ∷ []) (filter has_left xs))
        → filter has_left (changed n with_counted (x ∷ xs)) ≡ filter has_left (all_counted (n ∷ []) (filter has_left (x ∷ xs)))
    go true q true l ih =
        ap (filter has_left) (named_yes n (if_left with_counted) x xs q)
        ∙ ap (λ (z : Item). filter has_left (z ∷ changed n with_counted xs)) (by true l)
        ∙ cons_left (with_counted x) (changed n with_counted xs) (all_counted (n ∷ []) (filter has_left xs)) ih
        ∙ sym (ap (filter has_left) (named_yes n with_counted x (filter has_left xs) q))
        ∙ sym (ap (λ (ys : List Item). filter has_left (named n with_counted ys)) (left_yes x xs l))
    go true q false l ih =
        ap (filter has_left) (named_yes n (if_left with_counted) x xs q)
        ∙ ap (λ (z : Item). filter has_left (z ∷ changed n with_counted xs)) (by false l)
        ∙ left_no x (changed n with_counted xs) l
        ∙ ih
        ∙ sym (ap (λ (ys : List Item). filter has_left (named n with_counted ys)) (left_no x xs l))
    go false q true l ih =
        ap (filter has_left) (named_no n (if_left with_counted) x xs q)
        ∙ cons_left x (changed n with_counted xs) (all_counted (n ∷ []) (filter has_left xs)) ih
        ∙ sym (ap (filter has_left) (named_no n with_counted x (filter has_left xs) q))
        ∙ sym (ap (λ (ys : List Item). filter has_left (named n with_counted ys)) (left_yes x xs l))
    go false q false l ih =
        ap (filter has_left) (named_no n (if_left with_counted) x xs q)
        ∙ left_no x (changed n with_counted xs) l
        ∙ ih
        ∙ sym (ap (λ (ys : List Item). filter has_left (named n with_counted ys)) (left_no x xs l))

-- ---- what holds of the row stays

pub each_map : {A : Type 0} (P : A → Type 0) (g : A → A) (xs : List A) → ((x : A) → P x → P (g x)) → Each P xs → Each P (map g xs)
each_map P g [] h e = tt
each_map P g (x ∷ xs) h e = (h x e.0, each_map P g xs h e.1)

pub each_push : {A : Type 0} (P : A → Type 0) (xs : List A) (x : A) → Each P xs → P x → Each P (xs ++ x ∷ [])
each_push P [] x e h = (h, tt)
each_push P (y ∷ xs) x e h = (e.0, each_push P xs x e.1 h)

rise_map : (low : ℕ) (g : Item → Item) (xs : List Item) → ((x : Item) → (g x).number ≡ x.number) → AreRising low xs → AreRising low (map g xs)
rise_map low g [] h r = tt
rise_map low g (x ∷ xs) h r =
    let k = h x in
    let a = r.0 in
    (omega (arith, k, a), subst (λ (m : ℕ). AreRising (m + 1) (map g xs)) (sym k) (rise_map (x.number + 1) g xs h r.1))

rise_push : (low : ℕ) (xs : List Item) (x : Item) → AreRising low xs → low ≤ x.number → Each (λ (y : Item). y.number < x.number) xs → AreRising low (xs ++ x ∷ [])
rise_push low [] x r h e = (h, tt)
rise_push low (y ∷ xs) x r h e = (r.0, rise_push (y.number + 1) xs x r.1 (let a = e.0 in omega (arith, a)) e.1)

-- a function that keeps number and unit
record KeepsPlace (f : Item → Item) : Type 0 where
  number : (x : Item) → (f x).number ≡ x.number
  unit : (x : Item) → (f x).unit ≡ x.unit

rise_changed : (n : ℕ) (f : Item → Item) (xs : List Item) → KeepsPlace f → AreRising 0 xs → AreRising 0 (changed n f xs)
rise_changed n f xs keeps r = rise_map 0 (λ (x : Item). if has_number (n ∷ []) x.number then if_left f x else x) xs (λ x. number (has_number (n ∷ []) x.number) (has_left x) x) r
  where
    number : (b l : Bool) (x : Item) → (if b then (if l then f x else x) else x).number ≡ x.number
    number true true x = keeps.number x
    number true false x = refl
    number false l x = refl

within_changed : (n units : ℕ) (f : Item → Item) (xs : List Item) → KeepsPlace f → Each (λ (x : Item). x.unit < units) xs → Each (λ (x : Item). x.unit < units) (changed n f xs)
within_changed n units f xs keeps e = each_map (λ (x : Item). x.unit < units) (λ (x : Item). if has_number (n ∷ []) x.number then if_left f x else x) xs (λ x h. within (has_number (n ∷ []) x.number) (has_left x) x h) e
  where
    within : (b l : Bool) (x : Item) → x.unit < units → (if b then (if l then f x else x) else x).unit < units
    within true true x h = let k = keeps.unit x in omega (arith, k, h)
    within true false x h = h
    within false l x h = h

length_named : (n : ℕ) (f : Item → Item) (ys : List Item) → length (named n f ys) ≡ length ys
length_named n f [] = refl
length_named n f (y ∷ ys) = ap suc (length_named n f ys)

same_left : (n : ℕ) (f : Item → Item) (items : List Item) (units live most capacity : ℕ) → KeepsPlace f → ((x : Item) → has_left (f x) ≡ has_left x) → AreRows items units live most capacity → AreRows (changed n f items) units live most capacity
same_left n f items units live most capacity keeps left rows =
    record {
      rises = rise_changed n f items keeps rows.rises;
      ends = each_map Ends (λ (x : Item). if has_number (n ∷ []) x.number then if_left f x else x) items (λ x e. ends (has_number (n ∷ []) x.number) (has_left x) x refl e) rows.ends;
      within = within_changed n units f items keeps rows.within;
      counted = rows.counted ∙ sym (ap (λ (ys : List Item). length ys) (left_changes n f items left) ∙ length_named n f (filter has_left items));
      room = rows.room;
    }
  where
    ends : (b l : Bool) (x : Item) → has_left x ≡ l → Ends x → Ends (if b then (if l then f x else x) else x)
    ends true true x q e = λ (w : waits_item (f x) ≡ true). left x ∙ q
    ends true false x q e = e
    ends false l x q e = e

pub opened_rows : (n : ℕ) (items : List Item) (units live most capacity : ℕ) → AreRows items units live most capacity → AreRows (changed n with_opened items) units live most capacity
opened_rows n items units live most capacity rows = same_left n with_opened items units live most capacity (record { number = λ x. refl; unit = λ x. refl }) (λ x. refl) rows

pub opened_left : (n : ℕ) (items : List Item) → filter has_left (changed n with_opened items) ≡ all_opened (n ∷ []) (filter has_left items)
opened_left n items = left_changes n with_opened items (λ x. refl)

pub worded_rows : (n : ℕ) (words : List ℕ) (items : List Item) (units live most capacity : ℕ) → AreRows items units live most capacity → AreRows (changed_words n words items) units live most capacity
worded_rows n words items units live most capacity rows = same_left n (worded words) items units live most capacity (record { number = λ x. refl; unit = λ x. refl }) (λ x. refl) rows

pub worded_left : (n : ℕ) (words : List ℕ) (items : List Item) → filter has_left (changed_words n words items) ≡ with_words n words (filter has_left items)
worded_left n words items = left_changes n (worded words) items (λ x. refl) ∙ alike (filter has_left items)
  where
    tests : (x : Item) → has_number (n ∷ []) x.number ≡ (x.number == n)
    tests x = one_is n x.number ∙ go (x.number == n) refl
      where
        go : (b : Bool) → (x.number == n) ≡ b → (n == x.number) ≡ b
        go true q = grind (arith, nat_tests)
        go false q = grind (arith, nat_tests)

    alike : (xs : List Item) → named n (worded words) xs ≡ with_words n words xs
    alike [] = refl
    alike (x ∷ xs) = ap (λ (b : Bool). (if b then worded words x else x) ∷ named n (worded words) xs) (tests x) ∙ ap (λ (ys : List Item). (if x.number == n then worded words x else x) ∷ ys) (alike xs)

-- ---- a record goes

pub all_left : (xs : List Item) → Each (λ (x : Item). has_left x ≡ true) (filter has_left xs)
all_left [] = tt
all_left (x ∷ xs) = go (has_left x) refl (all_left xs)
  where
    go : (b : Bool) → has_left x ≡ b → Each (λ (y : Item). has_left y ≡ true) (filter has_left xs) → Each (λ (y : Item). has_left y ≡ true) (if b then x ∷ filter has_left xs else filter has_left xs)
    go true q rest = (q, rest)
    go false q rest = rest

left_same : (xs : List Item) → Each (λ (x : Item). has_left x ≡ true) xs → filter has_left xs ≡ xs
left_same [] e = refl
left_same (x ∷ xs) e = left_yes x xs e.0 ∙ ap (λ (ys : List Item). x ∷ ys) (left_same xs e.1)

pub left_twice : (xs : List Item) → filter has_left (filter has_left xs) ≡ filter has_left xs
left_twice xs = left_same (filter has_left xs) (all_left xs)

-- one, where the record goes and the test finds it
abbrev gone_by : (Item → Bool) → Option Item → ℕ
gone_by p None = 0
gone_by p (Some x) = if x.opening.left == 1 then cond (p x) 1 0 else 0

fewer : (p : Item → Bool) (n low : ℕ) (xs : List Item) → ((x : Item) → p (with_counted x) ≡ p x) → AreRising low xs → Each (λ (x : Item). has_left x ≡ true) xs
    → count_by p (filter has_left (all_counted (n ∷ []) xs)) + gone_by p (item_in n xs) ≡ count_by p xs
fewer p n low [] keeps r left = refl
fewer p n low (x ∷ xs) keeps r left = go (n == x.number) refl (x.opening.left == 1) refl (fewer p n (x.number + 1) xs keeps r.1 left.1)
  where
    rest : (n == x.number) ≡ true → filter has_left (all_counted (n ∷ []) xs) ≡ xs
    rest q =
        let k : x.number ≡ n = grind (arith, nat_tests) in
        ap (filter has_left) (named_none n (x.number + 1) with_counted xs (omega (arith, k)) r.1) ∙ left_same xs left.1

    count : (y : Item) (ys : List Item) → count_by p (y ∷ ys) ≡ cond (p y) 1 0 + count_by p ys
    count y ys = sum_by-cons (λ (z : Item). cond (p z) 1 0) y ys

    go : (b : Bool) → (n == x.number) ≡ b → (l : Bool) → (x.opening.left == 1) ≡ l → count_by p (filter has_left (all_counted (n ∷ []) xs)) + gone_by p (item_in n xs) ≡ count_by p xs
        → count_by p (filter has_left (all_counted (n ∷ []) (x ∷ xs))) + gone_by p (item_in n (x ∷ xs)) ≡ count_by p (x ∷ xs)
    go true q true l ih =
        let d : (x.number == n) ≡ true = grind (arith, nat_tests) in
        let none : has_left (with_counted x) ≡ false = (let o : x.opening.left ≡ 1 = grind (arith, nat_tests) in grind (arith, nat_tests)) in
        let e : count_by p (filter has_left (all_counted (n ∷ []) (x ∷ xs))) ≡ count_by p xs = ap (λ (ys : List Item). count_by p (filter has_left ys)) (named_yes n with_counted x xs q) ∙ ap (count_by p) (left_no (with_counted x) (all_counted (n ∷ []) xs) none) ∙ ap (count_by p) (rest q) in
        let g : gone_by p (item_in n (x ∷ xs)) ≡ cond (p x) 1 0 = ap (gone_by p) (found_yes n x xs d) ∙ ap (λ (t : Bool). if t then cond (p x) 1 0 else 0) l in
        let c = count x xs in
        omega (arith, e, g, c)
    go true q false l ih =
        let d : (x.number == n) ≡ true = grind (arith, nat_tests) in
        let h = left.0 in
        let some : has_left (with_counted x) ≡ true = grind (arith, nat_tests) in
        let e : count_by p (filter has_left (all_counted (n ∷ []) (x ∷ xs))) ≡ count_by p (with_counted x ∷ xs) =
        ap (λ (ys : List Item). count_by p (filter has_left ys)) (named_yes n with_counted x xs q) ∙ ap (count_by p) (left_yes (with_counted x) (all_counted (n ∷ []) xs) some) ∙ ap (λ (ys : List Item). count_by p (with_counted x ∷ ys)) (rest q) in
        let g : gone_by p (item_in n (x ∷ xs)) ≡ 0 = ap (gone_by p) (found_yes n x xs d) ∙ ap (λ (t : Bool). if t then cond (p x) 1 0 else 0) l in
        let c = count x xs in
        let w = count (with_counted x) xs ∙ ap (λ (t : Bool). cond t 1 0 + count_by p xs) (keeps x) in
        omega (arith, e, g, c, w)
    go false q b l ih =
        let d : (x.number == n) ≡ false = grind (arith, nat_tests) in
        let h = left.0 in
        let e : count_by p (filter has_left (all_counted (n ∷ []) (x ∷ xs))) ≡ count_by p (x ∷ filter has_left (all_counted (n ∷ []) xs)) = ap (λ (ys : List Item). count_by p (filter has_left ys)) (named_no n with_counted x xs q) ∙ ap (count_by p) (left_yes x (all_counted (n ∷ []) xs) h) in
        let g : gone_by p (item_in n (x ∷ xs)) ≡ gone_by p (item_in n xs) = ap (gone_by p) (found_no n x xs d) in
        let c = count x xs in
        let w = count x (filter has_left (all_counted (n ∷ []) xs)) in
        omega (arith, e, g, c, w, ih)

-- how many are left of a unit
fewer_at : (v n : ℕ) (xs : List Item) → AreRising 0 xs → Each (λ (x : Item). has_left x ≡ true) xs → count_of v (filter has_left (all_counted (n ∷ []) xs)) + gone_at v (unit_gone n xs) ≡ count_of v xs
fewer_at v n xs r left = ap (λ (k : ℕ). count_of v (filter has_left (all_counted (n ∷ []) xs)) + k) (same (item_in n xs)) ∙ fewer (λ (x : Item). x.unit == v) n 0 xs (λ x. refl) r left
  where
    same : (o : Option Item) → gone_at v (unit_of_last o) ≡ gone_by (λ (x : Item). x.unit == v) o
    same None = refl
    same (Some x) = go (x.opening.left == 1)
      where
        go : (b : Bool) → gone_at v (if b then Some x.unit else None) ≡ (if b then cond (x.unit == v) 1 0 else 0)
        go true = refl
        go false = refl

pub fewer_rows : (v n : ℕ) (items : List Item) → AreRising 0 items → count_of v (filter has_left (changed n with_counted items)) + gone_at v (unit_gone n (filter has_left items)) ≡ count_of v (filter has_left items)
fewer_rows v n items r = ap (λ (ys : List Item). count_of v ys + gone_at v (unit_gone n (filter has_left items))) (counts_left n items) ∙ fewer_at v n (filter has_left items) (rise_filter 0 has_left items r) (all_left items)

counts_all : (xs : List Item) → count_by (λ (_ : Item). true) xs ≡ length xs
counts_all [] = refl
counts_all (x ∷ xs) =
    let a = sum_by-cons (λ (_ : Item). cond true 1 0) x xs in
    let h = counts_all xs in
    omega (arith, a, h)

fewer_all : (n : ℕ) (items : List Item) → AreRising 0 items → length (filter has_left (changed n with_counted items)) + gone_size (unit_gone n (filter has_left items)) ≡ length (filter has_left items)
fewer_all n items r =
    let xs = filter has_left items in
    let f = fewer (λ (_ : Item). true) n 0 xs (λ x. refl) (rise_filter 0 has_left items r) (all_left items) in
    let a = counts_all (filter has_left (all_counted (n ∷ []) xs)) in
    let b = counts_all xs in
    let g = same (item_in n xs) in
    let e = ap (λ (ys : List Item). length ys) (counts_left n items) in
    omega (arith, f, a, b, g, e)
  where
    same : (o : Option Item) → gone_size (unit_of_last o) ≡ gone_by (λ (_ : Item). true) o
    same None = refl
    same (Some x) = go (x.opening.left == 1)
      where
        go : (b : Bool) → gone_size (if b then Some x.unit else None) ≡ (if b then 1 else 0)
        go true = refl
        go false = refl

ends_one : (n : ℕ) (x : Item) → EndsWith n x → Ends x → (b : Bool) → has_number (n ∷ []) x.number ≡ b → has_left x ≡ true → (d : Bool) → (x.opening.left == 1) ≡ d → Ends (if b then with_counted x else x)
ends_one n x h e true p q true o = λ (w : waits_item x ≡ true). absurd (let k : x.opening.left ≡ 1 = grind (arith, nat_tests) in let t : true ≡ false = sym w ∙ h p k in cc)
ends_one n x h e true p q false o = λ (w : waits_item x ≡ true). (let r : has_left (with_counted x) ≡ true = grind (arith, nat_tests) in r)
ends_one n x h e false p q d o = e

ends_all : (n : ℕ) (items : List Item) → Each (EndsWith n) (filter has_left items) → Each Ends items → Each Ends (changed n with_counted items)
ends_all n [] h e = tt
ends_all n (x ∷ items) h e = go (has_left x) refl h (λ t. ends_all n items t e.1)
  where
    none : (b : Bool) → Ends (if b then x else x)
    none true = e.0
    none false = e.0

    go : (l : Bool) → has_left x ≡ l → Each (EndsWith n) (if l then x ∷ filter has_left items else filter has_left items) → (Each (EndsWith n) (filter has_left items) → Each Ends (changed n with_counted items)) → Each Ends (changed n with_counted (x ∷ items))
    go true q h rest =
        (subst (λ (l : Bool). Ends (if has_number (n ∷ []) x.number then (if l then with_counted x else x) else x)) (sym q) (ends_one n x h.0 e.0 (has_number (n ∷ []) x.number) refl q (x.opening.left == 1) refl), rest h.1)
    go false q h rest = (subst (λ (l : Bool). Ends (if has_number (n ∷ []) x.number then (if l then with_counted x else x) else x)) (sym q) (none (has_number (n ∷ []) x.number)), rest h)

pub counted_rows : (n : ℕ) (items : List Item) (units live most capacity less : ℕ) → AreRows items units live most capacity → Each (EndsWith n) (filter has_left items) → less + gone_size (unit_gone n (filter has_left items)) ≡ live
    → AreRows (changed n with_counted items) units less most capacity
counted_rows n items units live most capacity less rows h e =
    record {
      rises = rise_changed n with_counted items (record { number = λ x. refl; unit = λ x. refl }) rows.rises;
      ends = ends_all n items h rows.ends;
      within = within_changed n units with_counted items (record { number = λ x. refl; unit = λ x. refl }) rows.within;
      counted = (let f = fewer_all n items rows.rises in let l = rows.counted in omega (arith, f, l, e));
      room = rows.room;
    }

-- ---- a record comes

pub last_below : (low n : ℕ) (xs : List Item) (i : ℕ) (x : Item) → AreRising low xs → slice_get xs i ≡ Some x → length xs ≡ i + 1 → x.number < n → Each (λ (y : Item). y.number < n) xs
last_below low n [] i x r e long h = absurd (cc)
last_below low n (y ∷ []) zero x r e long h = (subst (λ (z : Item). z.number < n) (sym (same_item y x e)) h, tt)
last_below low n (y ∷ z ∷ xs) zero x r e long h = absurd (omega (arith, long))
last_below low n (y ∷ xs) (suc i) x r e long h =
    let a = rise_at (y.number + 1) xs i x r.1 e in
    (omega (arith, a, h), last_below (y.number + 1) n xs i x r.1 e (omega (arith, long)) h)

pub left_push : (items : List Item) (x : Item) → has_left x ≡ true → filter has_left (items ++ x ∷ []) ≡ filter has_left items ++ x ∷ []
left_push items x q = filter-append has_left items (x ∷ []) ∙ ap (λ (ys : List Item). filter has_left items ++ ys) one
  where
    one : filter has_left (x ∷ []) ≡ x ∷ []
    one = rw q refl

length_push : (xs : List Item) (x : Item) → length (xs ++ x ∷ []) ≡ length xs + 1
length_push [] x = refl
length_push (y ∷ xs) x = let h = length_push xs x in omega (arith, h)

placed_rows : (old new : List Item) (units live most capacity : ℕ) → (new ≡ old) ⊎ (new ≡ filter has_left old) → AreRows old units live most capacity → AreRows new units live most capacity
placed_rows old new units live most capacity (inl e) rows = subst (λ (xs : List Item). AreRows xs units live most capacity) (sym e) rows
placed_rows old new units live most capacity (inr e) rows =
    subst (λ (xs : List Item). AreRows xs units live most capacity) (sym e) (record {
      rises = rise_filter 0 has_left old rows.rises;
      ends = each_filter Ends has_left old rows.ends;
      within = each_filter (λ (x : Item). x.unit < units) has_left old rows.within;
      counted = rows.counted ∙ sym (ap (λ (ys : List Item). length ys) (left_twice old));
      room = rows.room;
    })

pub placed_left : (old new : List Item) → (new ≡ old) ⊎ (new ≡ filter has_left old) → filter has_left new ≡ filter has_left old
placed_left old new (inl e) = ap (filter has_left) e
placed_left old new (inr e) = ap (filter has_left) e ∙ left_twice old

pub pushed_rows : (old new : List Item) (x : Item) (units live most capacity : ℕ) → (new ≡ old) ⊎ (new ≡ filter has_left old) → Each (λ (y : Item). y.number < x.number) new → has_left x ≡ true → x.unit < units → AreRows old units live most capacity
    → AreRows (new ++ x ∷ []) units (live + 1) most capacity
pushed_rows old new x units live most capacity either above left within before =
    let rows = placed_rows old new units live most capacity either before in
    record {
      rises = rise_push 0 new x rows.rises (omega arith) above;
      ends = each_push Ends new x rows.ends (λ (w : waits_item x ≡ true). left);
      within = each_push (λ (y : Item). y.unit < units) new x rows.within within;
      counted = (let l = rows.counted in let a = ap (λ (ys : List Item). length ys) (left_push new x left) in let b = length_push (filter has_left new) x in omega (arith, l, a, b));
      room = rows.room;
    }

-- the same of another list with another capacity, which are the same
pub moved_rows : (old new : List Item) (units live most c d : ℕ) → new ≡ old → d ≡ c → AreRows old units live most c → AreRows new units live most d
moved_rows old new units live most c d items capacity rows =
    subst (λ (k : ℕ). AreRows new units live most k) (sym capacity) (subst (λ (xs : List Item). AreRows xs units live most c) (sym items) rows)

pub true_lt : (m n : ℕ) → IsTrue (nat_lt m n) → m < n
true_lt m n t = (let e : nat_lt m n ≡ true = t in grind (arith, nat_tests))
