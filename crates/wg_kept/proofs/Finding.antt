-- The records of a keep, found by their numbers.
use Rattle.std.proofs.Common.{◌≡◌, ℕ, ◌+◌, ◌<◌, ◌≤◌, Bool, true, false, List, [], ◌∷◌, ◌++◌, length, refl, ap, sym, ◌∙◌, subst, arith, Option, Some, None, unwrap_or}
use Rattle.std.specs.Prelude.{if◌then◌else◌, ◌==◌, ◌||◌}
use Rattle.std.specs.Option.{option_map}
use Rattle.std.proofs.lemmas.Bool.Decides.{nat_tests}
use Rattle.wg_words.specs.Each.{Each}
use Rattle.wg_machine.specs.Step.{has_number}
use Rattle.wg_keep.specs.declared.opening.Opening.{Opening}
use Rattle.wg_store.specs.declared.item.Item.{Item}
use Rattle.wg_store.specs.Items.{AreAtPlaces, ItemsRise, all_worded, item_in, with_words}

-- an entry is found among the entries
pub in_entries : (from n : ℕ) (entries slots : List Item) → AreAtPlaces from entries → from ≤ n → n < from + length entries → item_in n (entries ++ slots) ≡ item_in n entries
in_entries from n [] slots places low high = absurd (omega (arith, low, high))
in_entries from n (x ∷ entries) slots places low high = go (x.number == n) refl (λ more. in_entries (from + 1) n entries slots places.1 more (omega (arith, high)))
  where
    go : (b : Bool) → (x.number == n) ≡ b → (from + 1 ≤ n → item_in n (entries ++ slots) ≡ item_in n entries) → (if b then Some x else item_in n (entries ++ slots)) ≡ (if b then Some x else item_in n entries)
    go true e rest = refl
    go false e rest =
        let p = places.0 in
        let more : from + 1 ≤ n = grind (arith, nat_tests) in
        rest more

-- a record that is no entry is found among the others
pub past_entries : (from n : ℕ) (entries slots : List Item) → AreAtPlaces from entries → from + length entries ≤ n → item_in n (entries ++ slots) ≡ item_in n slots
past_entries from n [] slots places h = refl
past_entries from n (x ∷ entries) slots places h =
    let p = places.0 in
    let q : (x.number == n) ≡ false = grind (arith, nat_tests) in
    rw q (past_entries (from + 1) n entries slots places.1 (omega (arith, h)))

pub no_entry : (from n : ℕ) (entries : List Item) → AreAtPlaces from entries → from + length entries ≤ n → item_in n entries ≡ None
no_entry from n [] places h = refl
no_entry from n (x ∷ entries) places h =
    let p = places.0 in
    let q : (x.number == n) ≡ false = grind (arith, nat_tests) in
    rw q (no_entry (from + 1) n entries places.1 (omega (arith, h)))

pub not_behind : (n least : ℕ) (slots : List Item) → Each (λ (x : Item). least ≤ x.number) slots → n < least → item_in n slots ≡ None
not_behind n least [] each h = refl
not_behind n least (x ∷ slots) each h =
    let p = each.0 in
    let q : (x.number == n) ≡ false = grind (arith, nat_tests) in
    rw q (not_behind n least slots each.1 h)

-- what an opening tells of a record
pub grid_from : (o : Option Item) (g : Opening) → option_map (λ (x : Item). x.opening) o ≡ Some g → unwrap_or (option_map (λ (x : Item). x.opening.grid) o) [] ≡ g.grid
grid_from None g e = absurd (cc)
grid_from (Some x) g e = ap (λ (y : Opening). y.grid) (inner e)
  where
    inner : Some x.opening ≡ Some g → x.opening ≡ g
    inner f = cc

pub left_from : (o : Option Item) (g : Opening) → option_map (λ (x : Item). x.opening) o ≡ Some g → unwrap_or (option_map (λ (x : Item). x.opening.left) o) 0 ≡ g.left
left_from None g e = absurd (cc)
left_from (Some x) g e = ap (λ (y : Opening). y.left) (inner e)
  where
    inner : Some x.opening ≡ Some g → x.opening ≡ g
    inner f = cc

-- new words of a number that no record has change nothing
pub none_worded : (n : ℕ) (new : List ℕ) (xs : List Item) → item_in n xs ≡ None → with_words n new xs ≡ xs
none_worded n new [] e = refl
none_worded n new (x ∷ xs) e = go (x.number == n) refl e (none_worded n new xs)
  where
    go : (b : Bool) → (x.number == n) ≡ b → (if b then Some x else item_in n xs) ≡ None → (item_in n xs ≡ None → with_words n new xs ≡ xs) → (if b then record x { words = new } else x) ∷ with_words n new xs ≡ x ∷ xs
    go true q f rest = absurd (cc)
    go false q f rest = ap (λ (ys : List Item). x ∷ ys) (rest f)

-- new words of one record are those of the only number
pub one_worded : (n : ℕ) (new : List ℕ) (xs : List Item) → with_words n new xs ≡ all_worded (n ∷ []) (Some new) xs
one_worded n new [] = refl
one_worded n new (x ∷ xs) =
    let q : (x.number == n) ≡ has_number (n ∷ []) x.number = turned in
    ap (λ (b : Bool). (if b then record x { words = new } else x) ∷ with_words n new xs) q ∙ ap (λ (ys : List Item). (if has_number (n ∷ []) x.number then record x { words = new } else x) ∷ ys) (one_worded n new xs)
  where
    plain : (b : Bool) → b ≡ (b || false)
    plain true = refl
    plain false = refl

    turned : (x.number == n) ≡ has_number (n ∷ []) x.number
    turned = (let e : (x.number == n) ≡ (n == x.number) = grind (arith, nat_tests) in e) ∙ plain (n == x.number)

-- without new words nothing changes
pub no_words : (ns : List ℕ) (xs : List Item) → all_worded ns None xs ≡ xs
no_words ns [] = refl
no_words ns (x ∷ xs) = same (has_number ns x.number) ∙ ap (λ (ys : List Item). x ∷ ys) (no_words ns xs)
  where
    same : (b : Bool) → (if b then record x { words = unwrap_or None x.words } else x) ∷ all_worded ns None xs ≡ x ∷ all_worded ns None xs
    same true = refl
    same false = refl

-- the record of a number is one of which all holds
pub found_holds : (P : Item → Type 0) (n : ℕ) (xs : List Item) (x : Item) → Each P xs → item_in n xs ≡ Some x → P x × (x.number ≡ n)
found_holds P n [] x each e = absurd (cc)
found_holds P n (y ∷ xs) x each e = go (y.number == n) refl e (found_holds P n xs x each.1)
  where
    inner : Some y ≡ Some x → y ≡ x
    inner f = cc

    go : (b : Bool) → (y.number == n) ≡ b → (if b then Some y else item_in n xs) ≡ Some x → (item_in n xs ≡ Some x → P x × (x.number ≡ n)) → P x × (x.number ≡ n)
    go true q f rest = let s = inner f in (subst P s each.0, (let m : y.number ≡ n = grind (arith, nat_tests) in sym (ap (λ (z : Item). z.number) s) ∙ m))
    go false q f rest = rest f

pub each_parts : (P : Item → Type 0) (xs ys : List Item) → Each P (xs ++ ys) → Each P xs × Each P ys
each_parts P [] ys each = (tt, each)
each_parts P (x ∷ xs) ys each = let r = each_parts P xs ys each.1 in ((each.0, r.0), r.1)

pub each_join : (P : Item → Type 0) (xs ys : List Item) → Each P xs → Each P ys → Each P (xs ++ ys)
each_join P [] ys a b = b
each_join P (x ∷ xs) ys a b = (a.0, each_join P xs ys a.1 b)

pub each_map : (P Q : Item → Type 0) (xs : List Item) → ((x : Item) → P x → Q x) → Each P xs → Each Q xs
each_map P Q [] f each = tt
each_map P Q (x ∷ xs) f each = (f x each.0, each_map P Q xs f each.1)

-- numbers that rise are not below the first
pub rise_behind : (lo end : ℕ) (xs : List Item) → ItemsRise lo xs end → Each (λ (x : Item). lo ≤ x.number) xs
rise_behind lo end [] r = tt
rise_behind lo end (x ∷ xs) r =
    let low = r.0 in
    (low, each_map (λ (y : Item). x.number + 1 ≤ y.number) (λ (y : Item). lo ≤ y.number) xs (λ y h. omega (arith, h, low)) (rise_behind (x.number + 1) end xs r.1))

pub rise_to : (lo end : ℕ) (xs : List Item) → ItemsRise lo xs end → lo ≤ end
rise_to lo end [] r = r
rise_to lo end (x ∷ xs) r = let a = r.0 in let b = rise_to (x.number + 1) end xs r.1 in omega (arith, a, b)

pub rise_below : (lo end : ℕ) (xs : List Item) → ItemsRise lo xs end → Each (λ (x : Item). x.number < end) xs
rise_below lo end [] r = tt
rise_below lo end (x ∷ xs) r = (let b = rise_to (x.number + 1) end xs r.1 in omega (arith, b), rise_below (x.number + 1) end xs r.1)
