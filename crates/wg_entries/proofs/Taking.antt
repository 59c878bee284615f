-- The launch that takes from the front, and where the cursor stands after it.
use Rattle.std.proofs.Common.{◌≡◌, ◌≢◌, ℕ, zero, suc, ◌+◌, ◌-◌, ◌<◌, ◌≤◌, Bool, true, false, List, [], ◌∷◌, length, map, refl, ap, sym, ◌∙◌, subst, arith, drop, take, None, Option, Some}
use Rattle.std.specs.Prelude.{if◌then◌else◌, ◌==◌, ◌^◌, ◌||◌, cond, filter, slice_get, IfSome, count_by}
use Rattle.std.specs.List.{prefix_len}
use Rattle.std.specs.Option.{option_map}
use Rattle.std.proofs.lemmas.Bool.Decides.{nat_tests}
use Rattle.std.proofs.lemmas.List.{length-drop, take_all}
use Rattle.std.proofs.Math.Seq.{take-length}
use Rattle.std.proofs.lemmas.List.Sums.{sum_by-cons}
use Rattle.wg_words.specs.Each.{Each}
use Rattle.wg_machine.specs.declared.launch.Sent.{Sent}
use Rattle.wg_machine.specs.declared.shape.Shape.{Shape}
use Rattle.wg_machine.specs.GoodShape.{IsGoodShape}
use Rattle.wg_machine.specs.Grids.{groups_in}
use Rattle.wg_machine.specs.Step.{has_number}
use Rattle.wg_machine.specs.Units.{kind_at, most_inputs}
use Rattle.wg_keep.specs.Opening.{IsOpening}
use Rattle.wg_standing.specs.declared.pending.Pending.{Pending}
use Rattle.wg_store.specs.declared.item.Item.{Item}
use Rattle.wg_store.specs.Items.{AreAtPlaces, CanOpen, all_counted, all_opened, entry_items, fits_next, numbers_in, pending_of, waits_item, with_counted, with_opened, with_words}
use Rattle.wg_entries.specs.Apart.{AreApart}
use Rattle.wg_entries.specs.Front.{IsFront}
use Rattle.wg_entries.specs.Stands.{IsPast, Stands, WaitsAt}
use Rattle.wg_entries.proofs.Arrivals.{entry_openings, entry_places}
use Rattle.wg_entries.proofs.Placed.{OfNumbers, by_places, chosen, map_places}

-- numbers that rise, from one on
abbrev pub RisesFrom : ℕ → List ℕ → Type 0
RisesFrom low [] = Unit {0}
RisesFrom low (n ∷ ns) = (low ≤ n) × RisesFrom (n + 1) ns

rises_more : (low high : ℕ) (ns : List ℕ) → low ≤ high → RisesFrom high ns → RisesFrom low ns
rises_more low high [] h r = tt
rises_more low high (n ∷ ns) h r = let first = r.0 in (omega (arith, h, first), r.1)

not_below : (n low : ℕ) (ns : List ℕ) → n < low → RisesFrom low ns → has_number ns n ≡ false
not_below n low [] h r = refl
not_below n low (m ∷ ns) h r =
    let first = r.0 in
    let q : (m == n) ≡ false = grind (arith, nat_tests) in
    rw q (not_below n (m + 1) ns (omega (arith, h, first)) r.1)

rises_apart : (low : ℕ) (ns : List ℕ) → RisesFrom low ns → AreApart ns
rises_apart low [] r = tt
rises_apart low (n ∷ ns) r = (not_below n (n + 1) ns (omega arith) r.1, rises_apart (n + 1) ns r.1)

waiting_rise : (from : ℕ) (items : List Item) → AreAtPlaces from items → RisesFrom from (numbers_in (filter waits_item items))
waiting_rise from [] places = tt
waiting_rise from (x ∷ items) places = go (waits_item x) (waiting_rise (from + 1) items places.1)
  where
    go : (b : Bool) → RisesFrom (from + 1) (numbers_in (filter waits_item items)) → RisesFrom from (numbers_in (if b then x ∷ filter waits_item items else filter waits_item items))
    go true rest =
        let p = places.0 in
        let z : from + 1 ≡ x.number + 1 = omega (arith, p) in
        (omega (arith, p), subst (λ (n : ℕ). RisesFrom n (numbers_in (filter waits_item items))) z rest)
    go false rest = rises_more from (from + 1) (numbers_in (filter waits_item items)) (omega arith) rest

take_rises : (k : ℕ) (xs : List Item) (low : ℕ) → RisesFrom low (numbers_in xs) → RisesFrom low (numbers_in (take k xs))
take_rises zero xs low r = tt
take_rises (suc k) [] low r = tt
take_rises (suc k) (x ∷ xs) low r = (r.0, take_rises k xs (x.number + 1) r.1)

more_named : (n : ℕ) (ns : List ℕ) (from : ℕ) (ys : List Item) → n < from → AreAtPlaces from ys → Each (OfNumbers (λ (y : Item). waits_item y ≡ true) ns) ys → Each (OfNumbers (λ (y : Item). waits_item y ≡ true) (n ∷ ns)) ys
more_named n ns from [] h places each = tt
more_named n ns from (y ∷ ys) h places each =
    let p = places.0 in
    let q : (n == y.number) ≡ false = grind (arith, nat_tests) in
    (rw q each.0, more_named n ns (from + 1) ys (omega (arith, h)) places.1 each.1)

-- an item with the number of one that waits waits
waiting_named : (from : ℕ) (items : List Item) → AreAtPlaces from items → Each (OfNumbers (λ (y : Item). waits_item y ≡ true) (numbers_in (filter waits_item items))) items
waiting_named from [] places = tt
waiting_named from (x ∷ items) places = go (waits_item x) refl (waiting_named (from + 1) items places.1)
  where
    ns : List ℕ
    ns = numbers_in (filter waits_item items)

    clash : (b : Bool) → b ≡ false → b ≡ true → waits_item x ≡ true
    clash b p q = absurd (cc)

    go : (b : Bool) → waits_item x ≡ b → Each (OfNumbers (λ (y : Item). waits_item y ≡ true) ns) items
        → Each (OfNumbers (λ (y : Item). waits_item y ≡ true) (numbers_in (if b then x ∷ filter waits_item items else filter waits_item items))) (x ∷ items)
    go true w rest = let p = places.0 in ((λ e. w), more_named x.number ns (from + 1) items (omega (arith, p)) places.1 rest)
    go false w rest = let p = places.0 in ((λ e. clash (has_number ns x.number) (not_below x.number (from + 1) ns (omega (arith, p)) (waiting_rise (from + 1) items places.1)) e), rest)

take_named : (k : ℕ) (xs : List Item) (m : ℕ) → has_number (numbers_in (take k xs)) m ≡ true → has_number (numbers_in xs) m ≡ true
take_named zero xs m e = absurd (cc)
take_named (suc k) [] m e = absurd (cc)
take_named (suc k) (x ∷ xs) m e = go (x.number == m) e (take_named k xs m)
  where
    go : (b : Bool) → (b || has_number (numbers_in (take k xs)) m) ≡ true → (has_number (numbers_in (take k xs)) m ≡ true → has_number (numbers_in xs) m ≡ true) → (b || has_number (numbers_in xs) m) ≡ true
    go true e rest = refl
    go false e rest = rest e

both_of : (P Q R : Item → Type 0) (items : List Item) → ((x : Item) → P x → Q x → R x) → Each P items → Each Q items → Each R items
both_of P Q R [] f a b = tt
both_of P Q R (x ∷ items) f a b = (f x a.0 b.0, both_of P Q R items f a.1 b.1)

-- what is known of the numbers that a launch takes from the front
pub record Takes (items : List Item) (numbers : List ℕ) : Type 0 where
  pub apart : AreApart numbers
  pub wait : Each (OfNumbers (λ (x : Item). waits_item x ≡ true) numbers) items

takes_some : (j k : ℕ) (items : List Item) → AreAtPlaces 0 items → Takes items (numbers_in (take k (take j (filter waits_item items))))
takes_some j k items places =
    let ws = filter waits_item items in
    record {
      apart = rises_apart 0 (numbers_in (take k (take j (filter waits_item items)))) (take_rises k (take j (filter waits_item items)) 0 (take_rises j (filter waits_item items) 0 (waiting_rise 0 items places)));
      wait = named items (waiting_named 0 items places);
    }
  where
    named : (ys : List Item) → Each (OfNumbers (λ (x : Item). waits_item x ≡ true) (numbers_in (filter waits_item items))) ys → Each (OfNumbers (λ (x : Item). waits_item x ≡ true) (numbers_in (take k (take j (filter waits_item items))))) ys
    named [] each = tt
    named (y ∷ ys) each = ((λ e. each.0 (take_named j (filter waits_item items) y.number (take_named k (take j (filter waits_item items)) y.number e))), named ys each.1)

pub front_takes : (shape : Shape) (items : List Item) (o : Pending) → AreAtPlaces 0 items → IsFront shape items o → Takes items o.inputs
front_takes shape items o places front =
    let u = front.first.unit in
    let e : o.inputs ≡ numbers_in (take (most_inputs (kind_at shape u)) (fits_next u items)) = ap (λ (p : Pending). p.inputs) front.is in
    subst (Takes items) (sym e) (takes_some (prefix_len (λ (x : Item). x.unit == u) (filter waits_item items)) (most_inputs (kind_at shape u)) items places)

-- an item that waits has a group that may be opened
pub can_open : (numbers : List ℕ) (items : List Item) → Each (λ (x : Item). IsOpening x.opening) items → Takes items numbers → Each (CanOpen numbers) items
can_open numbers items openings takes = both_of (λ (x : Item). IsOpening x.opening) (OfNumbers (λ (x : Item). waits_item x ≡ true) numbers) (CanOpen numbers) items (λ x o w e. few x o) openings takes.wait
  where
    few : (x : Item) → IsOpening x.opening → x.opening.opened + 1 < 2 ^ 32
    few x o = let a = o.opened in let b = o.few in omega (arith, a, b)

opened_opening : (numbers : List ℕ) (items : List Item) → Each (λ (x : Item). IsOpening x.opening) items → Each (OfNumbers (λ (x : Item). waits_item x ≡ true) numbers) items → Each (λ (x : Item). IsOpening x.opening) (all_opened numbers items)
opened_opening numbers [] openings wait = tt
opened_opening numbers (x ∷ items) openings wait = (go (has_number numbers x.number) openings.0 wait.0, opened_opening numbers items openings.1 wait.1)
  where
    go : (b : Bool) → IsOpening x.opening → (b ≡ true → waits_item x ≡ true) → IsOpening (chosen with_opened b x).opening
    go true o w =
        let t = w refl in
        let less : x.opening.opened < groups_in x.opening.grid = grind (arith, nat_tests) in
        record { opened = omega (arith, less); left = o.left; few = o.few }
    go false o w = o

opened_past : (numbers : List ℕ) (k : ℕ) (items : List Item) → IsPast items k → IsPast (all_opened numbers items) k
opened_past numbers zero items past = tt
opened_past numbers (suc k) [] past = tt
opened_past numbers (suc k) (x ∷ items) past = (go (has_number numbers x.number) past.0, opened_past numbers k items past.1)
  where
    go : (b : Bool) → waits_item x ≡ false → waits_item (chosen with_opened b x) ≡ false
    go true w = grind (arith, nat_tests)
    go false w = w

long_map : (g : Item → Item) (items : List Item) → length (map g items) ≡ length items
long_map g [] = refl
long_map g (x ∷ items) = ap suc (long_map g items)

-- the cursor's place is one before which none waits, after a launch was opened
pub record StandsBefore (items : List Item) (place : ℕ) : Type 0 where
  pub places : AreAtPlaces 0 items
  pub openings : Each (λ (x : Item). IsOpening x.opening) items
  pub within : place ≤ length items
  pub past : IsPast items place

pub stands_opened : (numbers : List ℕ) (items : List Item) (place : ℕ) → Stands items place → Takes items numbers → StandsBefore (all_opened numbers items) place
stands_opened numbers items place stands takes =
    let within = stands.within in
    let long = long_map (λ (x : Item). if has_number numbers x.number then with_opened x else x) items in
    record {
      places = by_places with_opened numbers items (λ x. refl) stands.places;
      openings = opened_opening numbers items stands.openings takes.wait;
      within = omega (arith, within, long);
      past = opened_past numbers place items stands.past;
    }

-- a change that keeps numbers, what waits and openings keeps where the cursor stands
record KeepsStand (g : Item → Item) : Type 0 where
  number : (x : Item) → (g x).number ≡ x.number
  wait : (x : Item) → waits_item (g x) ≡ waits_item x
  opening : (x : Item) → IsOpening x.opening → IsOpening (g x).opening

map_openings : (g : Item → Item) (items : List Item) → KeepsStand g → Each (λ (x : Item). IsOpening x.opening) items → Each (λ (x : Item). IsOpening x.opening) (map g items)
map_openings g [] keeps each = tt
map_openings g (x ∷ items) keeps each = (keeps.opening x each.0, map_openings g items keeps each.1)

map_past : (g : Item → Item) (k : ℕ) (items : List Item) → KeepsStand g → IsPast items k → IsPast (map g items) k
map_past g zero items keeps past = tt
map_past g (suc k) [] keeps past = tt
map_past g (suc k) (x ∷ items) keeps past = (keeps.wait x ∙ past.0, map_past g k items keeps past.1)

map_waits : (g : Item → Item) (k : ℕ) (items : List Item) → KeepsStand g → WaitsAt items k → WaitsAt (map g items) k
map_waits g zero [] keeps waits = waits
map_waits g (suc k) [] keeps waits = waits
map_waits g zero (x ∷ items) keeps waits = keeps.wait x ∙ waits
map_waits g (suc k) (x ∷ items) keeps waits = map_waits g k items keeps waits

stands_map : (g : Item → Item) (items : List Item) (place : ℕ) → KeepsStand g → Stands items place → Stands (map g items) place
stands_map g items place keeps stands =
    let within = stands.within in
    let long = long_map g items in
    record {
      places = map_places g 0 items keeps.number stands.places;
      openings = map_openings g items keeps stands.openings;
      within = omega (arith, within, long);
      past = map_past g place items keeps stands.past;
      waits = map_waits g place items keeps stands.waits;
    }

pub stands_counted : (numbers : List ℕ) (items : List Item) (place : ℕ) → Stands items place → Stands (all_counted numbers items) place
stands_counted numbers items place stands = stands_map (λ (x : Item). if has_number numbers x.number then with_counted x else x) items place (record { number = λ x. number (has_number numbers x.number) x; wait = λ x. wait (has_number numbers x.number) x; opening = λ x. opened (has_number numbers x.number) x }) stands
  where
    number : (b : Bool) (x : Item) → (chosen with_counted b x).number ≡ x.number
    number true x = refl
    number false x = refl

    wait : (b : Bool) (x : Item) → waits_item (chosen with_counted b x) ≡ waits_item x
    wait true x = refl
    wait false x = refl

    opened : (b : Bool) (x : Item) → IsOpening x.opening → IsOpening (chosen with_counted b x).opening
    opened true x o = let l = o.left in record { opened = o.opened; left = omega (arith, l); few = o.few }
    opened false x o = o

pub stands_worded : (n : ℕ) (new : List ℕ) (items : List Item) (place : ℕ) → Stands items place → Stands (with_words n new items) place
stands_worded n new items place stands = stands_map (λ (x : Item). if x.number == n then record x { words = new } else x) items place (record { number = λ x. number (x.number == n) x; wait = λ x. wait (x.number == n) x; opening = λ x. opened (x.number == n) x }) stands
  where
    worded : Bool → Item → Item
    worded b x = if b then record x { words = new } else x

    number : (b : Bool) (x : Item) → (worded b x).number ≡ x.number
    number true x = refl
    number false x = refl

    wait : (b : Bool) (x : Item) → waits_item (worded b x) ≡ waits_item x
    wait true x = refl
    wait false x = refl

    opened : (b : Bool) (x : Item) → IsOpening x.opening → IsOpening (worded b x).opening
    opened true x o = o
    opened false x o = o

-- the first item that waits is the one where the cursor stands
pub first_is : (k : ℕ) (items : List Item) → IsPast items k → WaitsAt items k → slice_get (filter waits_item items) 0 ≡ slice_get items k
first_is zero [] past waits = refl
first_is (suc k) [] past waits = refl
first_is zero (x ∷ items) past waits = rw waits refl
first_is (suc k) (x ∷ items) past waits = let w = past.0 in rw w (first_is k items past.1 waits)

-- those that wait are those from the cursor's place on
pub waiting_from : (k : ℕ) (items : List Item) → IsPast items k → filter waits_item (drop k items) ≡ filter waits_item items
waiting_from zero items past = refl
waiting_from (suc k) [] past = refl
waiting_from (suc k) (x ∷ items) past = let w = past.0 in rw w (waiting_from k items past.1)

pub whole_rest : (k : ℕ) (items : List Item) → take (length items - k) (drop k items) ≡ drop k items
whole_rest k items = let long = length-drop k items in take_all (length items - k) (drop k items) (omega (arith, long))

pub is_within : {X : Type 0} (items : List X) (k : ℕ) → slice_get items k ≢ None → k < length items
is_within [] zero h = absurd (h refl)
is_within [] (suc k) h = absurd (h refl)
is_within (x ∷ items) zero h = omega arith
is_within (x ∷ items) (suc k) h = let less = is_within items k h in omega (arith, less)

-- what is made from the cursor's place on is the front of all
pub front_is : (shape : Shape) (ticket k : ℕ) (items : List Item) (x : Item) (o : Pending) → IsPast items k → WaitsAt items k → slice_get items k ≡ Some x
    → o ≡ pending_of ticket shape x.unit (fits_next x.unit (take (length items - k) (drop k items))) → IsFront shape items o
front_is shape ticket k items x o past waits there is =
    let same : fits_next x.unit (take (length items - k) (drop k items)) ≡ fits_next x.unit items =
    ap (fits_next x.unit) (whole_rest k items) ∙ ap (λ (ys : List Item). take (prefix_len (λ (y : Item). y.unit == x.unit) ys) ys) (waiting_from k items past) in
    let whole : o ≡ pending_of ticket shape x.unit (fits_next x.unit items) = is ∙ ap (pending_of ticket shape x.unit) same in
    let named : o.ticket ≡ ticket = ap (λ (p : Pending). p.ticket) whole in
    record {
      first = x;
      waits = first_is k items past waits ∙ there;
      is = whole ∙ ap (λ (t : ℕ). pending_of t shape x.unit (fits_next x.unit items)) (sym named);
    }

pub front_there : (k : ℕ) (items : List Item) (x : Item) → IsPast items k → WaitsAt items k → slice_get items k ≡ Some x → slice_get (filter waits_item (take (length items - k) (drop k items))) 0 ≡ Some x
front_there k items x past waits there =
    ap (λ (ys : List Item). slice_get (filter waits_item ys) 0) (whole_rest k items) ∙ ap (λ (ys : List Item). slice_get ys 0) (waiting_from k items past) ∙ first_is k items past waits ∙ there

-- numbers that are counted once at most are apart
pub counted_apart : (ns : List ℕ) → ((n : ℕ) → count_by (λ m. m == n) ns ≤ 1) → AreApart ns
counted_apart [] h = tt
counted_apart (m ∷ ns) h = (none (has_number ns m) refl, counted_apart ns later)
  where
    later : (n : ℕ) → count_by (λ k. k == n) ns ≤ 1
    later n = let c = sum_by-cons (λ k. cond (k == n) 1 0) m ns in let few = h n in omega (arith, c, few)

    some : (n : ℕ) (ks : List ℕ) → has_number ks n ≡ true → 1 ≤ count_by (λ k. k == n) ks
    some n [] e = absurd (cc)
    some n (k ∷ ks) e = go (k == n) refl e (some n ks)
      where
        go : (b : Bool) → (k == n) ≡ b → (b || has_number ks n) ≡ true → (has_number ks n ≡ true → 1 ≤ count_by (λ j. j == n) ks) → 1 ≤ count_by (λ j. j == n) (k ∷ ks)
        go true q f rest = let c = sum_by-cons (λ j. cond (j == n) 1 0) k ks in let one : ◌≡◌ {A = ℕ} (cond (k == n) 1 0) 1 = rw q refl in omega (arith, c, one)
        go false q f rest = let c = sum_by-cons (λ j. cond (j == n) 1 0) k ks in let more = rest f in omega (arith, c, more)

    none : (b : Bool) → has_number ns m ≡ b → b ≡ false
    none false e = refl
    none true e =
        let c = sum_by-cons (λ k. cond (k == m) 1 0) m ns in
        let q : (m == m) ≡ true = grind (arith, nat_tests) in
        let one : ◌≡◌ {A = ℕ} (cond (m == m) 1 0) 1 = rw q refl in
        let more = some m ns e in
        let few = h m in
        absurd (omega (arith, c, one, more, few))

pub waits_at : (items : List Item) (k : ℕ) (x : Item) → slice_get items k ≡ Some x → waits_item x ≡ true → WaitsAt items k
waits_at items k x there w = subst (λ (o : Option Item). IfSome o (λ y. waits_item y ≡ true)) (sym there) w

pub ends_at : (items : List Item) (k : ℕ) → length items ≤ k → WaitsAt items k
ends_at [] zero h = tt
ends_at [] (suc k) h = tt
ends_at (x ∷ items) zero h = absurd (omega arith)
ends_at (x ∷ items) (suc k) h = ends_at items k (omega arith)

pub past_more : (k : ℕ) (items : List Item) (x : Item) → slice_get items k ≡ Some x → waits_item x ≡ false → IsPast items k → IsPast items (k + 1)
past_more zero [] x there w past = absurd (cc)
past_more (suc k) [] x there w past = absurd (cc)
past_more zero (y ∷ items) x there w past = (ap waits_item (same y x there) ∙ w, tt)
  where
    same : (y x : Item) → Some y ≡ Some x → y ≡ x
    same y x e = cc
past_more (suc k) (y ∷ items) x there w past =
    let z : suc (k + 1) ≡ suc k + 1 = omega arith in
    subst (IsPast (y ∷ items)) z (past.0, past_more k items x there w past.1)

-- a place behind the last has all before it
pub past_all : (k : ℕ) (items : List Item) → length items ≤ k → IsPast items k → IsPast items (length items)
past_all k items h past = subst (Each (λ (x : Item). waits_item x ≡ false)) (take_all k items h ∙ sym (take-length items)) past

-- where the cursor stands once it was moved
pub stands_moved : (items new seen : List Item) (place next : ℕ) → StandsBefore items place → new ≡ items → seen ≡ new → next ≤ length seen → IsPast seen next → WaitsAt seen next → Stands new next
stands_moved items new seen place next before is same within past waits =
    record {
      places = subst (AreAtPlaces 0) (sym is) before.places;
      openings = subst (Each (λ (x : Item). IsOpening x.opening)) (sym is) before.openings;
      within = subst (λ (xs : List Item). next ≤ length xs) same within;
      past = subst (λ (xs : List Item). IsPast xs next) same past;
      waits = subst (λ (xs : List Item). WaitsAt xs next) same waits;
    }

pub stands_before : (shape : Shape) (entries : List Sent) → IsGoodShape shape → StandsBefore (entry_items shape 0 entries) 0
stands_before shape entries good = record { places = entry_places shape 0 entries; openings = entry_openings shape 0 entries good; within = omega arith; past = tt }

pub first_within : (items : List Item) (k : ℕ) → IsPast items k → WaitsAt items k → slice_get (filter waits_item items) 0 ≢ None → k < length items
first_within items k past waits some = is_within items k (λ e. some (first_is k items past waits ∙ e))

-- the unit of the first item that waits is that of the item where the cursor stands
unit_there : (items now seen : List Item) (k : ℕ) (o : Option Item) → items ≡ now → seen ≡ items → Stands items k → slice_get seen k ≡ o → option_map (λ (x : Item). x.unit) o ≡ option_map (λ (x : Item). x.unit) (slice_get (filter waits_item now) 0)
unit_there items now seen k o view same stands there =
    ap (option_map (λ (x : Item). x.unit)) (sym there ∙ ap (λ (xs : List Item). slice_get xs k) same ∙ sym (first_is k items stands.past stands.waits) ∙ ap (λ (xs : List Item). slice_get (filter waits_item xs) 0) view)

pub unit_none : (items now seen : List Item) (k : ℕ) → items ≡ now → seen ≡ items → Stands items k → slice_get seen k ≡ None → None ≡ option_map (λ (x : Item). x.unit) (slice_get (filter waits_item now) 0)
unit_none items now seen k view same stands there = unit_there items now seen k None view same stands there

pub unit_some : (items now seen : List Item) (k : ℕ) (x : Item) → items ≡ now → seen ≡ items → Stands items k → slice_get seen k ≡ Some x → Some x.unit ≡ option_map (λ (x : Item). x.unit) (slice_get (filter waits_item now) 0)
unit_some items now seen k x view same stands there = unit_there items now seen k (Some x) view same stands there
