-- Records found by their numbers.
use Rattle.std.proofs.Common.{◌≡◌, ℕ, zero, suc, ◌+◌, ◌<◌, ◌≤◌, Bool, true, false, List, [], ◌∷◌, ◌++◌, length, map, refl, ap, sym, ◌∙◌, subst, arith, Option, Some, unwrap_or, ◌⊎◌, inl, inr}
use Rattle.std.specs.Prelude.{if◌then◌else◌, ◌==◌, ◌&&◌, filter, slice_get, drop, take, take_while, slice_index_or, ◌-◌}
use Rattle.std.specs.List.{prefix_len}
use Rattle.std.proofs.lemmas.Option.{slice_get_read}
use Rattle.std.specs.Option.{option_map}
use Rattle.std.proofs.lemmas.Bool.Decides.{nat_tests}
use Rattle.wg_words.specs.Each.{Each}
use Rattle.wg_machine.specs.declared.launch.Launch.{Launch}
use Rattle.wg_machine.specs.declared.launch.Live.{Live}
use Rattle.wg_machine.specs.declared.launch.Record.{Record}
use Rattle.wg_machine.specs.declared.shape.Shape.{Shape}
use Rattle.wg_machine.specs.Grids.{place_of}
use Rattle.wg_machine.specs.State.{kept}
use Rattle.wg_machine.specs.Step.{first_grid, has_number, is_last, numbers_of, record_of, taken}
use Rattle.wg_machine.specs.Units.{shared_at}
use Rattle.wg_standing.specs.declared.pending.Pending.{Pending}
use Rattle.wg_standing.specs.Outs.{launch_now}
use Rattle.wg_store.specs.declared.item.Item.{Item}
use Rattle.wg_store.specs.Items.{AreAtPlaces, LeftIsCounted, fits_next, fits_unit, ItemsRise, first_of, grid_in, groups_left, item_in, launch_by, left_in, live_item, lives, numbers_in, record_in, waits_item, words_in}

-- an entry is found at the place of its number
pub entry_at : (from n : ℕ) (entries slots : List Item) (x : Item) → AreAtPlaces from entries → slice_get entries n ≡ Some x → item_in (from + n) (entries ++ slots) ≡ Some x
entry_at from n [] slots x places e = absurd (cc)
entry_at from zero (y ∷ entries) slots x places e =
    let p = places.0 in
    let q : (y.number == (from + 0)) ≡ true = grind (arith, nat_tests) in
    rw q e
entry_at from (suc n) (y ∷ entries) slots x places e =
    let p = places.0 in
    let q : (y.number == (from + suc n)) ≡ false = grind (arith, nat_tests) in
    let z : from + suc n ≡ (from + 1) + n = omega arith in
    rw q (ap (λ (m : ℕ). item_in m (entries ++ slots)) z ∙ entry_at (from + 1) n entries slots x places.1 e)

-- a record that is no entry is found among the others
pub past_entries : (from n : ℕ) (entries slots : List Item) → AreAtPlaces from entries → from + length entries ≤ n → item_in n (entries ++ slots) ≡ item_in n slots
past_entries from n [] slots places h = refl
past_entries from n (y ∷ entries) slots places h =
    let p = places.0 in
    let q : (y.number == n) ≡ false = grind (arith, nat_tests) in
    rw q (past_entries (from + 1) n entries slots places.1 (omega (arith, h)))

-- a live record that is that of an item, from a number on
pub record IsOf (outs : List Pending) (items : List Item) (low : ℕ) (y : Live) : Type 0 where
  pub item : Item
  pub there : item_in y.number items ≡ Some item
  pub live : y ≡ live_item outs item
  pub later : low ≤ y.number

is_of_more : (outs : List Pending) (x : Item) (items : List Item) (low : ℕ) (ys : List Live) → low ≤ x.number → Each (IsOf outs items (x.number + 1)) ys → Each (IsOf outs (x ∷ items) low) ys
is_of_more outs x items low [] h each = tt
is_of_more outs x items low (y ∷ ys) h each =
    let s = each.0 in
    let later = s.later in
    let q : (x.number == y.number) ≡ false = grind (arith, nat_tests) in
    (record { item = s.item; there = rw q s.there; live = s.live; later = omega (arith, later, h) }, is_of_more outs x items low ys h each.1)

-- each live record is that of the item with its number
pub lives_are : (outs : List Pending) (low end : ℕ) (items : List Item) → ItemsRise low items end → Each (IsOf outs items low) (lives outs items)
lives_are outs low end [] rises = tt
lives_are outs low end (x ∷ items) rises = go (groups_left outs x) refl (is_of_more outs x items low (lives outs items) rises.0 (lives_are outs (x.number + 1) end items rises.1))
  where
    self : (x.number == x.number) ≡ true
    self = grind (arith, nat_tests)

    go : (gs : List (List ℕ)) → groups_left outs x ≡ gs → Each (IsOf outs (x ∷ items) low) (lives outs items) → Each (IsOf outs (x ∷ items) low) (kept (let y : Live = record (live_item outs x) { groups = gs } in y) ++ lives outs items)
    go [] e rest = rest
    go (g ∷ gs) e rest = (record { item = x; there = rw self refl; live = ap (λ (hs : List (List ℕ)). (let y : Live = record (live_item outs x) { groups = hs } in y)) (sym e); later = rises.0 }, rest)

pub each_filter : {X : Type 0} (P : X → Type 0) (p : X → Bool) (xs : List X) → Each P xs → Each P (filter p xs)
each_filter P p [] each = tt
each_filter {X = X} P p (x ∷ xs) each = go (p x) each.0 (each_filter P p xs each.1)
  where
    go : (b : Bool) → P x → Each P (filter p xs) → Each P (if b then x ∷ filter p xs else filter p xs)
    go true here rest = (here, rest)
    go false here rest = rest

-- records of live ones are those of their numbers
records_are : (outs : List Pending) (items : List Item) (low : ℕ) (ys : List Live) → Each (IsOf outs items low) ys → map record_of ys ≡ map (record_in items) (numbers_of (map record_of ys))
records_are outs items low [] each = refl
records_are outs items low (y ∷ ys) each =
    let s = each.0 in
    let words : words_in items y.number ≡ y.words = ap (λ (o : Option Item). unwrap_or (option_map (λ (x : Item). x.words) o) []) s.there ∙ sym (ap (λ (z : Live). z.words) s.live) in
    ap (λ (ws : List ℕ). (let r : Record = record { number = y.number; words = ws } in r ∷ map record_of ys)) (sym words)
    ∙ ap (λ (rest : List Record). record_in items y.number ∷ rest) (records_are outs items low ys each.1)

left_of : (outs : List Pending) (items : List Item) (n : ℕ) (x : Item) → Each (LeftIsCounted outs) items → item_in n items ≡ Some x → LeftIsCounted outs x
left_of outs [] n x each e = absurd (cc)
left_of outs (z ∷ items) n x each e = go (z.number == n) e (left_of outs items n x each.1)
  where
    inner : Some z ≡ Some x → z ≡ x
    inner f = cc

    go : (b : Bool) → (if b then Some z else item_in n items) ≡ Some x → (item_in n items ≡ Some x → LeftIsCounted outs x) → LeftIsCounted outs x
    go true f rest = subst (LeftIsCounted outs) (inner f) each.0
    go false f rest = rest f

-- the launch of now is told by the records
pub launch_is : (shape : Shape) (outs : List Pending) (items : List Item) (low end : ℕ) (o : Pending)
    → ItemsRise low items end → Each (LeftIsCounted outs) items
    → numbers_of (launch_now shape (lives outs items) o).records ≡ o.inputs → length o.inputs ≤ 1 ⊎ (shared_at shape o.unit ≡ false) → 1 ≤ length o.inputs
    → launch_now shape (lives outs items) o ≡ launch_by shape items o
launch_is shape outs items low end o rises counted named single some =
    told (taken o.inputs (lives outs items)) named (each_filter (IsOf outs items low) (λ (r : Live). has_number o.inputs r.number) (lives outs items) (lives_are outs low end items rises))
  where
    launch : List Record → ℕ → List ℕ → Bool → Launch
    launch records group grid last = record { unit = o.unit; records = records; group = group; grid = grid; last = last }

    last_is : (y : Live) (ys : List Live) → (length (y ∷ ys) ≤ 1) ⊎ (shared_at shape o.unit ≡ false) → is_last shape o.unit (y ∷ ys) ≡ (shared_at shape o.unit && (length y.groups == 1))
    last_is y [] single = go (length y.groups == 1)
      where
        go : (b : Bool) → (shared_at shape o.unit && (b && true)) ≡ (shared_at shape o.unit && b)
        go true = refl
        go false = refl
    last_is y (z ∷ ys) (inl few) = absurd (omega (arith, few))
    last_is y (z ∷ ys) (inr none) = rw none refl

    told : (ys : List Live) → numbers_of (map record_of ys) ≡ o.inputs → Each (IsOf outs items low) ys
        → launch (map record_of ys) (place_of (first_grid ys) o.at) (first_grid ys) (is_last shape o.unit ys) ≡ launch_by shape items o
    told [] e each = absurd (let n = ap (λ (ns : List ℕ). length ns) e in omega (arith, n, some))
    told (y ∷ ys) e each =
        let s = each.0 in
        let first : first_of o.inputs ≡ y.number = sym (ap first_of e) in
        let there : item_in (first_of o.inputs) items ≡ Some s.item = ap (λ (n : ℕ). item_in n items) first ∙ s.there in
        let grid : grid_in items (first_of o.inputs) ≡ y.grid = ap (λ (p : Option Item). unwrap_or (option_map (λ (x : Item). x.opening.grid) p) []) there ∙ sym (ap (λ (z : Live). z.grid) s.live) in
        let left : left_in items (first_of o.inputs) ≡ length y.groups = ap (λ (p : Option Item). unwrap_or (option_map (λ (x : Item). x.opening.left) p) 0) there ∙ left_of outs items y.number s.item counted s.there ∙ sym (ap (λ (z : Live). length z.groups) s.live) in
        let records : map record_of (y ∷ ys) ≡ map (record_in items) o.inputs = records_are outs items low (y ∷ ys) each ∙ ap (map (record_in items)) e in
        let many : length (y ∷ ys) ≡ length o.inputs = long (y ∷ ys) ∙ ap (λ (ns : List ℕ). length ns) e in
        ap (λ (rs : List Record). launch rs (place_of y.grid o.at) y.grid (is_last shape o.unit (y ∷ ys))) records
        ∙ ap (λ (b : Bool). launch (map (record_in items) o.inputs) (place_of y.grid o.at) y.grid b) (last_is y ys (subst (λ (n : ℕ). (n ≤ 1) ⊎ (shared_at shape o.unit ≡ false)) (sym many) single))
        ∙ ap (λ (g : List ℕ). launch (map (record_in items) o.inputs) (place_of g o.at) g (shared_at shape o.unit && (length y.groups == 1))) (sym grid)
        ∙ ap (λ (n : ℕ). launch (map (record_in items) o.inputs) (place_of (grid_in items (first_of o.inputs)) o.at) (grid_in items (first_of o.inputs)) (shared_at shape o.unit && (n == 1))) (sym left)
      where
        long : (zs : List Live) → length zs ≡ length (numbers_of (map record_of zs))
        long [] = refl
        long (z ∷ zs) = ap suc (long zs)

pub drop_cons : {X : Type 0} (xs : List X) (i : ℕ) (x : X) → slice_get xs i ≡ Some x → drop i xs ≡ x ∷ drop (i + 1) xs
drop_cons [] i x e = absurd (cc)
drop_cons {X = X} (y ∷ xs) zero x e = same y x e
  where
    same : (y x : X) → Some y ≡ Some x → y ∷ xs ≡ x ∷ xs
    same y x e = cc
drop_cons (y ∷ xs) (suc i) x e =
    let z : suc i + 1 ≡ suc (i + 1) = omega arith in
    drop_cons xs i x e ∙ ap (λ (k : ℕ). x ∷ drop k (y ∷ xs)) (sym z)

pub drop_all : {X : Type 0} (xs : List X) (n : ℕ) → length xs ≤ n → drop n xs ≡ []
drop_all [] zero h = refl
drop_all [] (suc n) h = refl
drop_all (x ∷ xs) zero h = absurd (omega arith)
drop_all (x ∷ xs) (suc n) h = drop_all xs n (omega arith)

-- one more of a list is taken
pub take_more : {X : Type 0} (xs : List X) (i : ℕ) (x : X) → slice_get xs i ≡ Some x → take (i + 1) xs ≡ take i xs ++ x ∷ []
take_more [] i x e = absurd (cc)
take_more {X = X} (y ∷ xs) zero x e = same y x e
  where
    same : (y x : X) → Some y ≡ Some x → y ∷ [] ≡ x ∷ []
    same y x e = cc
take_more {X = X} (y ∷ xs) (suc i) x e =
    let z : suc i + 1 ≡ suc (i + 1) = omega arith in
    ap (λ (k : ℕ). take k (y ∷ xs)) z ∙ ap (λ (ys : List X). y ∷ ys) (take_more xs i x e)

-- the first of the rest with the number is the first of all
pub found_here : (items : List Item) (i n : ℕ) (x : Item) → slice_get items i ≡ Some x → x.number ≡ n → item_in n (drop i items) ≡ item_in n items → slice_get items i ≡ item_in n items
found_here items i n x there named first =
    let q : (x.number == n) ≡ true = grind (arith, nat_tests) in
    let here : item_in n (x ∷ drop (i + 1) items) ≡ Some x = rw q refl in
    there ∙ sym here ∙ sym (ap (item_in n) (drop_cons items i x there)) ∙ first

-- the numbers so far, with those to come of the rest, are the first of all that fit
pub record Goes (fits : List Item → List Item) (most : ℕ) (items rest : List Item) (numbers : List ℕ) : Type 0 where
  pub few : length numbers ≤ most
  pub whole : numbers ++ numbers_in (take (most - length numbers) (fits rest)) ≡ numbers_in (take most (fits items))

pub goes_first : (fits : List Item → List Item) (most : ℕ) (items : List Item) → Goes fits most items items []
goes_first fits most items = record { few = omega arith; whole = (let z : most - 0 ≡ most = omega arith in ap (λ (k : ℕ). numbers_in (take k (fits items))) z) }

length_push : (ns : List ℕ) (n : ℕ) → length (ns ++ n ∷ []) ≡ length ns + 1
length_push [] n = refl
length_push (m ∷ ns) n = let k = length_push ns n in omega (arith, k)

nil_right : (ns : List ℕ) → ns ++ [] ≡ ns
nil_right [] = refl
nil_right (n ∷ ns) = ap (λ (rest : List ℕ). n ∷ rest) (nil_right ns)

push_assoc : (ns : List ℕ) (n : ℕ) (ms : List ℕ) → (ns ++ n ∷ []) ++ ms ≡ ns ++ n ∷ ms
push_assoc [] n ms = refl
push_assoc (m ∷ ns) n ms = ap (λ (rest : List ℕ). m ∷ rest) (push_assoc ns n ms)

take_none : (xs : List Item) (k : ℕ) → k ≡ 0 → take k xs ≡ []
take_none xs k e = rw e refl

pub goes_with : (fits : List Item → List Item) (most : ℕ) (items : List Item) (x : Item) (rest : List Item) (numbers : List ℕ) → fits (x ∷ rest) ≡ x ∷ fits rest → length numbers < most → Goes fits most items (x ∷ rest) numbers → Goes fits most items rest (numbers ++ x.number ∷ [])
goes_with fits most items x rest numbers first less goes =
    let long = length_push numbers x.number in
    let k : most - length numbers ≡ suc (most - length (numbers ++ x.number ∷ [])) = omega (arith, long, less) in
    record {
      few = omega (arith, long, less);
      whole =
          push_assoc numbers x.number (numbers_in (take (most - length (numbers ++ x.number ∷ [])) (fits rest)))
          ∙ ap (λ (ys : List Item). numbers ++ numbers_in (take (suc (most - length (numbers ++ x.number ∷ []))) ys)) (sym first)
          ∙ ap (λ (m : ℕ). numbers ++ numbers_in (take m (fits (x ∷ rest)))) (sym k)
          ∙ goes.whole;
    }

pub goes_past : (fits : List Item → List Item) (most : ℕ) (items : List Item) (x : Item) (rest : List Item) (numbers : List ℕ) → fits (x ∷ rest) ≡ fits rest → Goes fits most items (x ∷ rest) numbers → Goes fits most items rest numbers
goes_past fits most items x rest numbers first goes =
    record { few = goes.few; whole = ap (λ (ys : List Item). numbers ++ numbers_in (take (most - length numbers) ys)) (sym first) ∙ goes.whole }

pub goes_full : (fits : List Item → List Item) (most : ℕ) (items rest : List Item) (numbers : List ℕ) → length numbers ≡ most → Goes fits most items rest numbers → numbers ≡ numbers_in (take most (fits items))
goes_full fits most items rest numbers full goes =
    let k : most - length numbers ≡ 0 = omega (arith, full) in
    sym (ap (λ (ys : List Item). numbers ++ numbers_in ys) (take_none (fits rest) (most - length numbers) k) ∙ nil_right numbers) ∙ goes.whole

take_nothing : (k : ℕ) → numbers_in (take k []) ≡ []
take_nothing zero = refl
take_nothing (suc k) = refl

pub goes_out : (fits : List Item → List Item) (most : ℕ) (items rest : List Item) (numbers : List ℕ) → fits rest ≡ [] → Goes fits most items rest numbers → numbers ≡ numbers_in (take most (fits items))
goes_out fits most items rest numbers none goes =
    sym (ap (λ (ys : List Item). numbers ++ numbers_in (take (most - length numbers) ys)) none ∙ ap (λ (ms : List ℕ). numbers ++ ms) (take_nothing (most - length numbers)) ∙ nil_right numbers) ∙ goes.whole

pub unit_with : (unit : ℕ) (x : Item) (rest : List Item) → ((x.unit == unit) && waits_item x) ≡ true → fits_unit unit (x ∷ rest) ≡ x ∷ fits_unit unit rest
unit_with unit x rest e = rw e refl

pub unit_past : (unit : ℕ) (x : Item) (rest : List Item) → ((x.unit == unit) && waits_item x) ≡ false → fits_unit unit (x ∷ rest) ≡ fits_unit unit rest
unit_past unit x rest e = rw e refl

pub next_with : (unit : ℕ) (x : Item) (rest : List Item) → waits_item x ≡ true → (x.unit == unit) ≡ true → fits_next unit (x ∷ rest) ≡ x ∷ fits_next unit rest
next_with unit x rest w e = ap (take_while (λ (y : Item). y.unit == unit)) first ∙ while_with x (filter waits_item rest) e
  where
    first : filter waits_item (x ∷ rest) ≡ x ∷ filter waits_item rest
    first = rw w refl

    while_with : (x : Item) (ys : List Item) → (x.unit == unit) ≡ true → take_while (λ (y : Item). y.unit == unit) (x ∷ ys) ≡ x ∷ take_while (λ (y : Item). y.unit == unit) ys
    while_with x ys e = let z : 1 + prefix_len (λ (y : Item). y.unit == unit) ys ≡ suc (prefix_len (λ (y : Item). y.unit == unit) ys) = omega arith in rw e (ap (λ (k : ℕ). take k (x ∷ ys)) z)

pub next_stops : (unit : ℕ) (x : Item) (rest : List Item) → waits_item x ≡ true → (x.unit == unit) ≡ false → fits_next unit (x ∷ rest) ≡ []
next_stops unit x rest w e = ap (take_while (λ (y : Item). y.unit == unit)) first ∙ while_stops x (filter waits_item rest) e
  where
    first : filter waits_item (x ∷ rest) ≡ x ∷ filter waits_item rest
    first = rw w refl

    while_stops : (x : Item) (ys : List Item) → (x.unit == unit) ≡ false → take_while (λ (y : Item). y.unit == unit) (x ∷ ys) ≡ []
    while_stops x ys e = rw e refl

pub next_past : (unit : ℕ) (x : Item) (rest : List Item) → waits_item x ≡ false → fits_next unit (x ∷ rest) ≡ fits_next unit rest
next_past unit x rest w = ap (take_while (λ (y : Item). y.unit == unit)) first
  where
    first : filter waits_item (x ∷ rest) ≡ filter waits_item rest
    first = rw w refl

-- a step of a loop over a list
pub step_at : (items : List Item) (i : ℕ) (x : Item) → i < length items → x ≡ slice_index_or items i x → drop i items ≡ x ∷ drop (i + 1) items
step_at items i x h e = drop_cons items i x (slice_get_read items (length items) i x refl h e)

pub wait_with : (x : Item) (rest : List Item) → waits_item x ≡ true → filter waits_item (x ∷ rest) ≡ x ∷ filter waits_item rest
wait_with x rest w = rw w refl

pub wait_past : (x : Item) (rest : List Item) → waits_item x ≡ false → filter waits_item (x ∷ rest) ≡ filter waits_item rest
wait_past x rest w = rw w refl

-- what the tests of a filter find first holds the test
pub first_waits : (items : List Item) (x : Item) → slice_get (filter waits_item items) 0 ≡ Some x → waits_item x ≡ true
first_waits [] x e = absurd (cc)
first_waits (y ∷ items) x e = go (waits_item y) refl e (first_waits items x)
  where
    inner : Some y ≡ Some x → y ≡ x
    inner f = cc

    go : (b : Bool) → waits_item y ≡ b → slice_get (if b then y ∷ filter waits_item items else filter waits_item items) 0 ≡ Some x → (slice_get (filter waits_item items) 0 ≡ Some x → waits_item x ≡ true) → waits_item x ≡ true
    go true w f rest = sym (ap waits_item (inner f)) ∙ w
    go false w f rest = rest f

-- it is the first as long as they are of its unit
pub first_next : (items : List Item) (x : Item) → slice_get (filter waits_item items) 0 ≡ Some x → (rest : List Item) × (fits_next x.unit items ≡ x ∷ rest)
first_next items x e = of (filter waits_item items) e
  where
    inner : (y : Item) → Some y ≡ Some x → y ≡ x
    inner y f = cc

    of : (ys : List Item) → slice_get ys 0 ≡ Some x → (rest : List Item) × (take_while (λ (z : Item). z.unit == x.unit) ys ≡ x ∷ rest)
    of [] f = absurd (cc)
    of (y ∷ ys) f =
        let s = inner y f in
        let q : (y.unit == x.unit) ≡ true = (let u = ap (λ (z : Item). z.unit) s in grind (arith, nat_tests)) in
        let z : 1 + prefix_len (λ (z : Item). z.unit == x.unit) ys ≡ suc (prefix_len (λ (z : Item). z.unit == x.unit) ys) = omega arith in
        (take (prefix_len (λ (z : Item). z.unit == x.unit) ys) ys, rw q (ap (λ (k : ℕ). take k (y ∷ ys)) z) ∙ ap (λ (w : Item). w ∷ take (prefix_len (λ (z : Item). z.unit == x.unit) ys) ys) s)
