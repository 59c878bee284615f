-- What waits in slots and what is left of the entries, by records.
use Rattle.std.proofs.Common.{◌≡◌, ℕ, zero, suc, ◌+◌, ◌<◌, ◌≤◌, Bool, true, false, List, [], ◌∷◌, ◌++◌, length, map, refl, ap, sym, ◌∙◌, arith, Option, unwrap_or, drop, take}
use Rattle.std.specs.Prelude.{if◌then◌else◌, ◌==◌, ◌&&◌, filter, slice_get, take_while, nat_le}
use Rattle.std.specs.List.{prefix_len}
use Rattle.std.proofs.lemmas.Bool.Decides.{nat_tests}
use Rattle.wg_words.specs.Each.{Each}
use Rattle.wg_machine.specs.declared.launch.Live.{Live}
use Rattle.wg_machine.specs.declared.shape.Shape.{Shape}
use Rattle.wg_machine.specs.Grids.{groups_in, groups_of}
use Rattle.wg_machine.specs.State.{kept}
use Rattle.wg_machine.specs.Step.{numbers_of, record_of}
use Rattle.wg_machine.specs.Units.{kind_at, most_inputs}
use Rattle.wg_standing.specs.declared.pending.Pending.{Pending}
use Rattle.wg_standing.specs.Choice.{first_group, front_for, pending_from}
use Rattle.wg_standing.specs.Standing.{by_unit, in_slot, is_entry_record}
use Rattle.wg_store.specs.declared.item.Item.{Item}
use Rattle.wg_store.specs.Items.{AreAtPlaces, ItemsRise, fits_next, fits_unit, first_at, live_item, lives, numbers_in, pending_of, waits_item}
use Rattle.wg_store.proofs.Found.{drop_all}
use Rattle.wg_store.proofs.Lives.{live_with, lives_append}

-- a grid has as many groups as its count says
abbrev pub GroupsAreCounted : Type 0
GroupsAreCounted = (grid : List ℕ) → length (groups_of grid) ≡ groups_in grid

drop_some : (gs : List (List ℕ)) (i : ℕ) → i < length gs → (g : List ℕ) × (rest : List (List ℕ)) × (drop i gs ≡ g ∷ rest)
drop_some [] i h = absurd (omega arith)
drop_some (g ∷ gs) zero h = (g, gs, refl)
drop_some (g ∷ gs) (suc i) h = drop_some gs i (omega arith)

-- the live records with nothing out are those that wait
pub lives_wait : GroupsAreCounted → (items : List Item) → lives [] items ≡ map (live_item []) (filter waits_item items)
lives_wait law [] = refl
lives_wait law (x ∷ items) = go (waits_item x) refl (lives_wait law items)
  where
    live : List (List ℕ) → Live
    live gs = live_with x.number x.unit x.words x.opening.grid gs

    go : (b : Bool) → waits_item x ≡ b → lives [] items ≡ map (live_item []) (filter waits_item items) → kept (live_item [] x) ++ lives [] items ≡ map (live_item []) (if b then x ∷ filter waits_item items else filter waits_item items)
    go true e rest =
        let many = law x.opening.grid in
        let less : x.opening.opened < groups_in x.opening.grid = grind (arith, nat_tests) in
        let some = drop_some (groups_of x.opening.grid) x.opening.opened (omega (arith, many, less)) in
        let one : kept (live_item [] x) ≡ live_item [] x ∷ [] = ap (λ (gs : List (List ℕ)). kept (live gs)) some.2 ∙ ap (λ (gs : List (List ℕ)). live gs ∷ []) (sym some.2) in
        ap (λ (xs : List Live). xs ++ lives [] items) one ∙ ap (λ (xs : List Live). live_item [] x ∷ xs) rest
    go false e rest =
        let many = law x.opening.grid in
        let past : groups_in x.opening.grid ≤ x.opening.opened = grind (arith, nat_tests) in
        let none : kept (live_item [] x) ≡ [] = ap (λ (gs : List (List ℕ)). kept (live gs)) (drop_all (groups_of x.opening.grid) x.opening.opened (omega (arith, many, past))) in
        ap (λ (xs : List Live). xs ++ lives [] items) none ∙ rest

filter_map : (p : Live → Bool) (xs : List Item) → filter p (map (live_item []) xs) ≡ map (live_item []) (filter (λ (x : Item). p (live_item [] x)) xs)
filter_map p [] = refl
filter_map p (x ∷ xs) = go (p (live_item [] x)) (filter_map p xs)
  where
    go : (b : Bool) → filter p (map (live_item []) xs) ≡ map (live_item []) (filter (λ (y : Item). p (live_item [] y)) xs) → (if b then live_item [] x ∷ filter p (map (live_item []) xs) else filter p (map (live_item []) xs)) ≡ map (live_item []) (if b then x ∷ filter (λ (y : Item). p (live_item [] y)) xs else filter (λ (y : Item). p (live_item [] y)) xs)
    go true rest = ap (λ (ys : List Live). live_item [] x ∷ ys) rest
    go false rest = rest

filter_append : (p : Live → Bool) (xs ys : List Live) → filter p (xs ++ ys) ≡ filter p xs ++ filter p ys
filter_append p [] ys = refl
filter_append p (x ∷ xs) ys = go (p x) (filter_append p xs ys)
  where
    go : (b : Bool) → filter p (xs ++ ys) ≡ filter p xs ++ filter p ys → (if b then x ∷ filter p (xs ++ ys) else filter p (xs ++ ys)) ≡ (if b then x ∷ filter p xs else filter p xs) ++ filter p ys
    go true rest = ap (λ (zs : List Live). x ∷ zs) rest
    go false rest = rest

-- no record that waits is one that fits
none_fits : (p : Live → Bool) (xs : List Item) → Each (λ (x : Item). p (live_item [] x) ≡ false) xs → filter (λ (x : Item). p (live_item [] x)) (filter waits_item xs) ≡ []
none_fits p [] each = refl
none_fits p (x ∷ xs) each = go (waits_item x) each.0 (none_fits p xs each.1)
  where
    go : (b : Bool) → p (live_item [] x) ≡ false → filter (λ (y : Item). p (live_item [] y)) (filter waits_item xs) ≡ [] → filter (λ (y : Item). p (live_item [] y)) (if b then x ∷ filter waits_item xs else filter waits_item xs) ≡ []
    go true e rest = rw e rest
    go false e rest = rest

pub all_fit : (p q : Item → Bool) (xs : List Item) → Each (λ (x : Item). (waits_item x && p x) ≡ q x) xs → filter p (filter waits_item xs) ≡ filter q xs
all_fit p q [] each = refl
all_fit p q (x ∷ xs) each = go (waits_item x) (p x) (q x) each.0 refl (all_fit p q xs each.1)
  where
    go : (w a b : Bool) → (w && a) ≡ b → p x ≡ a → filter p (filter waits_item xs) ≡ filter q xs → filter p (if w then x ∷ filter waits_item xs else filter waits_item xs) ≡ (if b then x ∷ filter q xs else filter q xs)
    go true true true e f rest = rw f (ap (λ (ys : List Item). x ∷ ys) rest)
    go true false false e f rest = rw f rest
    go true true false e f rest = absurd (cc)
    go true false true e f rest = absurd (cc)
    go false a true e f rest = absurd (cc)
    go false a false e f rest = rest

below_places : (from h : ℕ) (xs : List Item) → from + length xs ≤ h → AreAtPlaces from xs → Each (λ (x : Item). nat_le h x.number ≡ false) xs
below_places from h [] le places = tt
below_places from h (x ∷ xs) le places = let p = places.0 in (grind (arith, nat_tests), below_places (from + 1) h xs (omega (arith, le)) places.1)

pub each_map : (P Q : Item → Type 0) (xs : List Item) → ((x : Item) → P x → Q x) → Each P xs → Each Q xs
each_map P Q [] f each = tt
each_map P Q (x ∷ xs) f each = (f x each.0, each_map P Q xs f each.1)

pub above_places : (lo end : ℕ) (xs : List Item) → ItemsRise lo xs end → Each (λ (x : Item). nat_le lo x.number ≡ true) xs
above_places lo end [] rises = tt
above_places lo end (x ∷ xs) rises =
    let low = rises.0 in
    (grind (arith, nat_tests), each_map (λ (y : Item). nat_le (x.number + 1) y.number ≡ true) (λ (y : Item). nat_le lo y.number ≡ true) xs (λ y e. grind (arith, nat_tests)) (above_places (x.number + 1) end xs rises.1))

-- what waits in slots of a unit
pub slots_wait : GroupsAreCounted → (v end : ℕ) (entries slots : List Item) → AreAtPlaces 0 entries → ItemsRise (length entries) slots end
    → filter (in_slot (length entries) v) (lives [] (entries ++ slots)) ≡ map (live_item []) (fits_unit v slots)
slots_wait law v end entries slots places rises =
    let h = length entries in
    ap (filter (in_slot h v)) (lives_append [] entries slots)
    ∙ filter_append (in_slot h v) (lives [] entries) (lives [] slots)
    ∙ ap (λ (xs : List Live). xs ++ filter (in_slot h v) (lives [] slots)) (ap (filter (in_slot h v)) (lives_wait law entries) ∙ filter_map (in_slot h v) (filter waits_item entries) ∙ ap (map (live_item [])) (none_fits (in_slot h v) entries (each_map (λ (x : Item). nat_le h x.number ≡ false) (λ (x : Item). in_slot h v (live_item [] x) ≡ false) entries (λ x e. both_false (x.unit == v) (nat_le h x.number) e) (below_places 0 h entries (omega arith) places))))
    ∙ ap (filter (in_slot h v)) (lives_wait law slots)
    ∙ filter_map (in_slot h v) (filter waits_item slots)
    ∙ ap (map (live_item [])) (all_fit (λ (x : Item). in_slot h v (live_item [] x)) (λ (x : Item). (x.unit == v) && waits_item x) slots (each_map (λ (x : Item). nat_le h x.number ≡ true) (λ (x : Item). (waits_item x && in_slot h v (live_item [] x)) ≡ ((x.unit == v) && waits_item x)) slots (λ x e. turned (waits_item x) (x.unit == v) (nat_le h x.number) e) (above_places h end slots rises)))
  where
    both_false : (a b : Bool) → b ≡ false → (a && b) ≡ false
    both_false true b e = e
    both_false false b e = refl

    turned : (w a b : Bool) → b ≡ true → (w && (a && b)) ≡ (a && w)
    turned true true b e = e
    turned true false b e = refl
    turned false true b e = refl
    turned false false b e = refl

-- what is left of the entries
pub entries_wait : GroupsAreCounted → (end : ℕ) (entries slots : List Item) → AreAtPlaces 0 entries → ItemsRise (length entries) slots end
    → filter (is_entry_record (length entries)) (lives [] (entries ++ slots)) ≡ map (live_item []) (filter waits_item entries)
entries_wait law end entries slots places rises =
    let h = length entries in
    ap (filter (is_entry_record h)) (lives_append [] entries slots)
    ∙ filter_append (is_entry_record h) (lives [] entries) (lives [] slots)
    ∙ ap (λ (xs : List Live). filter (is_entry_record h) (lives [] entries) ++ xs) (ap (filter (is_entry_record h)) (lives_wait law slots) ∙ filter_map (is_entry_record h) (filter waits_item slots) ∙ ap (map (live_item [])) (none_fits (is_entry_record h) slots (each_map (λ (x : Item). nat_le h x.number ≡ true) (λ (x : Item). is_entry_record h (live_item [] x) ≡ false) slots (λ x e. grind (arith, nat_tests)) (above_places h end slots rises))))
    ∙ nil_right (filter (is_entry_record h) (lives [] entries))
    ∙ ap (filter (is_entry_record h)) (lives_wait law entries)
    ∙ filter_map (is_entry_record h) (filter waits_item entries)
    ∙ ap (map (live_item [])) (all_fit (λ (x : Item). is_entry_record h (live_item [] x)) waits_item entries (each_map (λ (x : Item). nat_le h x.number ≡ false) (λ (x : Item). (waits_item x && is_entry_record h (live_item [] x)) ≡ waits_item x) entries (λ x e. both_true (waits_item x) (is_entry_record h (live_item [] x)) (grind (arith, nat_tests))) (below_places 0 h entries (omega arith) places)))
  where
    nil_right : (xs : List Live) → xs ++ [] ≡ xs
    nil_right [] = refl
    nil_right (x ∷ xs) = ap (λ (rest : List Live). x ∷ rest) (nil_right xs)

    both_true : (w b : Bool) → b ≡ true → (w && b) ≡ w
    both_true true b e = e
    both_true false b e = refl

take_map : (k : ℕ) (xs : List Item) → numbers_of (map record_of (take k (map (live_item []) xs))) ≡ numbers_in (take k xs)
take_map zero xs = refl
take_map (suc k) [] = refl
take_map (suc k) (x ∷ xs) = ap (λ (ns : List ℕ). x.number ∷ ns) (take_map k xs)

get_drop : (gs : List (List ℕ)) (i : ℕ) → slice_get (drop i gs) 0 ≡ slice_get gs i
get_drop [] zero = refl
get_drop [] (suc i) = refl
get_drop (g ∷ gs) zero = refl
get_drop (g ∷ gs) (suc i) = get_drop gs i

-- a launch of the first records that wait
pub pending_is : (ticket : ℕ) (shape : Shape) (u : ℕ) (xs : List Item) → pending_from ticket shape u (map (live_item []) xs) ≡ pending_of ticket shape u xs
pending_is ticket shape u xs =
    ap (λ (at : List ℕ). make at (numbers_of (map record_of (front_for shape u (map (live_item []) xs))))) (first xs)
    ∙ ap (make (first_at xs)) (take_map (most_inputs (kind_at shape u)) xs)
  where
    make : List ℕ → List ℕ → Pending
    make at inputs = record { ticket = ticket; unit = u; at = at; inputs = inputs }

    first : (ys : List Item) → first_group (map (live_item []) ys) ≡ first_at ys
    first [] = refl
    first (y ∷ ys) = ap (λ (o : Option (List ℕ)). unwrap_or o []) (get_drop (groups_of y.opening.grid) y.opening.opened)

while_map : (u : ℕ) (xs : List Item) → take_while (λ (x : Live). x.unit == u) (map (live_item []) xs) ≡ map (live_item []) (take_while (λ (x : Item). x.unit == u) xs)
while_map u xs = ap (λ (k : ℕ). take k (map (live_item []) xs)) (prefix xs) ∙ taken (prefix_len (λ (x : Item). x.unit == u) xs) xs
  where
    prefix : (ys : List Item) → prefix_len (λ (x : Live). x.unit == u) (map (live_item []) ys) ≡ prefix_len (λ (x : Item). x.unit == u) ys
    prefix [] = refl
    prefix (y ∷ ys) = ap (λ (n : ℕ). if y.unit == u then 1 + n else 0) (prefix ys)

    taken : (k : ℕ) (ys : List Item) → take k (map (live_item []) ys) ≡ map (live_item []) (take k ys)
    taken zero ys = refl
    taken (suc k) [] = refl
    taken (suc k) (y ∷ ys) = ap (λ (rest : List Live). live_item [] y ∷ rest) (taken k ys)

pub next_map : (u : ℕ) (entries : List Item) → take_while (λ (x : Live). x.unit == u) (map (live_item []) (filter waits_item entries)) ≡ map (live_item []) (fits_next u entries)
next_map u entries = while_map u (filter waits_item entries)

pub by_unit_at : (handed w n k : ℕ) (bag : List Live) → k < n → unwrap_or (slice_get (by_unit handed w n bag) k) [] ≡ filter (in_slot handed (w + k)) bag
by_unit_at handed w zero k bag h = absurd (omega arith)
by_unit_at handed w (suc n) zero bag h = let e : w ≡ w + 0 = omega arith in ap (λ (v : ℕ). filter (in_slot handed v) bag) e
by_unit_at handed w (suc n) (suc k) bag h = let e : w + 1 + k ≡ w + suc k = omega arith in by_unit_at handed (w + 1) n k bag (omega arith) ∙ ap (λ (v : ℕ). filter (in_slot handed v) bag) e
