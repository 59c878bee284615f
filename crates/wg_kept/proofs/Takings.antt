-- A keep that opens a launch.
use Rattle.std.proofs.Common.{◌≡◌, ◌≢◌, inl, inr, ℕ, zero, suc, ◌+◌, ◌<◌, ◌≤◌, Bool, true, false, List, [], ◌∷◌, length, refl, ap, sym, ◌∙◌, subst, arith, Option, Some, None, take, ◌↔◌}
use Rattle.std.specs.Prelude.{if◌then◌else◌, ◌==◌, ◌&&◌, ◌||◌, filter, slice_get, slice_index_or, IsTrue, Result, Ok, Err, OnErr}
use Rattle.std.specs.List.{list_any}
use Rattle.std.specs.Option.{option_map}
use Rattle.std.proofs.lemmas.Bool.Decides.{nat_tests}
use Rattle.wg_words.specs.Each.{Each}
use Rattle.wg_machine.specs.declared.shape.Shape.{Shape}
use Rattle.wg_machine.specs.LaunchMeaning.{FitsShape}
use Rattle.wg_machine.specs.Step.{has_number}
use Rattle.wg_machine.specs.Units.{kind_at, most_inputs}
use Rattle.wg_room.specs.Counts.{Counts, HasSlotsLeft}
use Rattle.wg_standing.specs.declared.pending.Pending.{Pending}
use Rattle.wg_standing.specs.Choice.{IsChoice, NoChoice}
use Rattle.wg_standing.specs.Laws.{ChoicesCanOpen, OpeningsPlace, OutsFit}
use Rattle.wg_standing.specs.Moves.{with_out}
use Rattle.wg_standing.specs.Outs.{IsAllowed, launch_now}
use Rattle.wg_standing.specs.Standing.{IsPlaced}
use Rattle.wg_store.specs.declared.item.Item.{Item}
use Rattle.wg_store.specs.Best.{IsBest, IsBestOf}
use Rattle.wg_store.specs.Items.{AreAtPlaces, all_opened, fits_next, fits_unit, first_of, numbers_in, pending_of, waits_item, with_opened}
use Rattle.wg_store.specs.Keep.{IsKept, IsRoomOf, IsTold, Kept, view_of}
use Rattle.wg_store.specs.Laws.{AllowedAreTold, BestsAreChosen, ElseNothingIsChosen, EntriesAreChosen}
use Rattle.wg_engine.specs.Calls.{SomeChoice}
use Rattle.wg_entries.specs.Front.{IsFront}
use Rattle.wg_kept.specs.Stores.{IsFrontOf, IsSlotsFront}
use Rattle.wg_kept.proofs.Finding.{each_parts}
use Rattle.wg_kept.proofs.Settlings.{allowed_at}

-- where the best unit is one, records of it wait
pub best_fits : (u : ℕ) (xs : List Item) → list_any (λ (x : Item). (x.unit == u) && waits_item x) xs ≡ true → fits_unit u xs ≢ []
best_fits u [] e none = absurd (cc)
best_fits u (x ∷ xs) e none = go ((x.unit == u) && waits_item x) e none (best_fits u xs)
  where
    go : (b : Bool) → (b || list_any (λ (y : Item). (y.unit == u) && waits_item y) xs) ≡ true → (if b then x ∷ fits_unit u xs else fits_unit u xs) ≡ [] → (list_any (λ (y : Item). (y.unit == u) && waits_item y) xs ≡ true → fits_unit u xs ≢ []) → ⊥
    go true f g rest = absurd (cc)
    go false f g rest = rest f g

-- a launch to be opened next is allowed, and fits
pub chosen_out : OpeningsPlace → (k : Kept) (o : Pending) → IsKept k → IsChoice (view_of k) o → length k.journal + length k.outs < k.limits.launches → IsPlaced (with_out (view_of k) o) (view_of k).bag
chosen_out place k o s choice few = place (view_of k) o s.good few s.placed choice

pub chosen_allowed : OpeningsPlace → (k : Kept) (o : Pending) → IsKept k → IsChoice (view_of k) o → length k.journal + length k.outs < k.limits.launches → IsAllowed k.shape (view_of k).bag o
chosen_allowed place k o s choice few = allowed_at k.shape (view_of k).bag k.outs o [] (chosen_out place k o s choice few).allowed

pub chosen_fits : OpeningsPlace → OutsFit → (k : Kept) (o : Pending) → IsKept k → IsChoice (view_of k) o → length k.journal + length k.outs < k.limits.launches → FitsShape k.shape (launch_now k.shape (view_of k).bag o)
chosen_fits place fit k o s choice few = fit (with_out (view_of k) o) k.outs o [] s.good refl (chosen_out place k o s choice few)

-- its launch is told by the records
pub chosen_told : OpeningsPlace → OutsFit → AllowedAreTold → (k : Kept) (o : Pending) → IsKept k → IsChoice (view_of k) o → length k.journal + length k.outs < k.limits.launches → IsTold k o
chosen_told place fit told k o s choice few = told k o s (chosen_allowed place k o s choice few) (chosen_fits place fit k o s choice few)

-- and its unit has slots left
pub chosen_room : ChoicesCanOpen → (k : Kept) (c : Counts) (o : Pending) → IsKept k → IsRoomOf k c → IsChoice (view_of k) o → HasSlotsLeft c o.unit
chosen_room can k c o s r choice v some =
    let open_room = (can (view_of k) o s.good s.placed choice).room v in
    let h = r.within o.unit v some in
    let n = r.needs o.unit v h in
    let used = r.used v in
    let out = r.reserved v in
    let bound = r.bounds v h in
    omega (arith, n, used, out, bound, open_room)

-- the ticket of the launch to be opened next
pub chosen_ticket : ChoicesCanOpen → (k : Kept) (o : Pending) → IsKept k → IsChoice (view_of k) o → o.ticket ≡ k.tickets
chosen_ticket can k o s choice = (can (view_of k) o s.good s.placed choice).ticket

-- the numbers of a front of records are theirs
each_front : (P : ℕ → Type 0) (m : ℕ) (xs : List Item) → Each (λ (x : Item). P x.number) xs → Each P (numbers_in (take m xs))
each_front P zero xs each = tt
each_front P (suc m) [] each = tt
each_front P (suc m) (x ∷ xs) each = (each.0, each_front P m xs each.1)

each_filter : (P : Item → Type 0) (p : Item → Bool) (xs : List Item) → Each P xs → Each P (filter p xs)
each_filter P p [] each = tt
each_filter P p (x ∷ xs) each = go (p x) (each_filter P p xs each.1)
  where
    go : (b : Bool) → Each P (filter p xs) → Each P (if b then x ∷ filter p xs else filter p xs)
    go true rest = (each.0, rest)
    go false rest = rest

each_take : (P : Item → Type 0) (m : ℕ) (xs : List Item) → Each P xs → Each P (take m xs)
each_take P zero xs each = tt
each_take P (suc m) [] each = tt
each_take P (suc m) (x ∷ xs) each = (each.0, each_take P m xs each.1)

-- a launch from slots takes records behind the entries
pub slots_behind : (n : ℕ) (shape : Shape) (slots : List Item) (o : Pending) → Each (λ (x : Item). n ≤ x.number) slots → IsSlotsFront shape slots o → Each (λ (m : ℕ). n ≤ m) o.inputs
slots_behind n shape slots o behind front =
    subst (λ (p : Pending). Each (λ (m : ℕ). n ≤ m) p.inputs) (sym front.1)
    (each_front (λ (m : ℕ). n ≤ m) (most_inputs (kind_at shape o.unit)) (fits_unit o.unit slots) (each_filter (λ (x : Item). n ≤ x.number) (λ (x : Item). (x.unit == o.unit) && waits_item x) slots behind))

places_below : (from end : ℕ) (xs : List Item) → AreAtPlaces from xs → from + length xs ≤ end → Each (λ (x : Item). x.number < end) xs
places_below from end [] places h = tt
places_below from end (x ∷ xs) places h = (let p = places.0 in omega (arith, p, h), places_below (from + 1) end xs places.1 (omega (arith, h)))

-- and one from the entries takes entries
pub entries_front : (shape : Shape) (entries : List Item) (o : Pending) → AreAtPlaces 0 entries → IsFront shape entries o → Each (λ (m : ℕ). m < length entries) o.inputs
entries_front shape entries o places front =
    let u = front.first.unit in
    let below = places_below 0 (length entries) entries places (omega arith) in
    let waits = each_filter (λ (x : Item). x.number < length entries) waits_item entries below in
    subst (λ (p : Pending). Each (λ (m : ℕ). m < length entries) p.inputs) (sym front.is)
    (each_front (λ (m : ℕ). m < length entries) (most_inputs (kind_at shape u)) (fits_next u entries) (each_take (λ (x : Item). x.number < length entries) _ (filter waits_item entries) waits))

-- what has none of the numbers is not opened
none_low : (n m : ℕ) (ns : List ℕ) → Each (λ (k : ℕ). n ≤ k) ns → m < n → has_number ns m ≡ false
none_low n m [] each h = refl
none_low n m (k ∷ ns) each h = let p = each.0 in let q : (k == m) ≡ false = grind (arith, nat_tests) in rw q (none_low n m ns each.1 h)

none_high : (n m : ℕ) (ns : List ℕ) → Each (λ (k : ℕ). k < n) ns → n ≤ m → has_number ns m ≡ false
none_high n m [] each h = refl
none_high n m (k ∷ ns) each h = let p = each.0 in let q : (k == m) ≡ false = grind (arith, nat_tests) in rw q (none_high n m ns each.1 h)

unopened_same : (ns : List ℕ) (xs : List Item) → Each (λ (x : Item). has_number ns x.number ≡ false) xs → all_opened ns xs ≡ xs
unopened_same ns [] each = refl
unopened_same ns (x ∷ xs) each = ap (λ (b : Bool). (if b then with_opened x else x) ∷ all_opened ns xs) each.0 ∙ ap (λ (ys : List Item). x ∷ ys) (unopened_same ns xs each.1)

each_of : (P Q : Item → Type 0) (xs : List Item) → ((x : Item) → P x → Q x) → Each P xs → Each Q xs
each_of P Q [] f each = tt
each_of P Q (x ∷ xs) f each = (f x each.0, each_of P Q xs f each.1)

pub entries_same : (ns : List ℕ) (entries : List Item) → AreAtPlaces 0 entries → Each (λ (m : ℕ). length entries ≤ m) ns → entries ≡ all_opened ns entries
entries_same ns entries places behind =
    sym (unopened_same ns entries (each_of (λ (x : Item). x.number < length entries) (λ (x : Item). has_number ns x.number ≡ false) entries (λ x h. none_low (length entries) x.number ns behind h) (places_below 0 (length entries) entries places (omega arith))))

pub slots_same : (ns : List ℕ) (n : ℕ) (slots : List Item) → Each (λ (x : Item). n ≤ x.number) slots → Each (λ (m : ℕ). m < n) ns → slots ≡ all_opened ns slots
slots_same ns n slots behind below =
    sym (unopened_same ns slots (each_of (λ (x : Item). n ≤ x.number) (λ (x : Item). has_number ns x.number ≡ false) slots (λ x h. none_high n x.number ns below h) behind))

-- where the launch takes from tells its first number
pub from_entries : (shape : Shape) (entries slots : List Item) (o : Pending) → Each (λ (x : Item). length entries ≤ x.number) slots → 1 ≤ length o.inputs → IsFrontOf shape entries slots o → first_of o.inputs < length entries → IsFront shape entries o
from_entries shape entries slots o behind some (inl front) low = absurd (never o.inputs some (slots_behind (length entries) shape slots o behind front) low)
  where
    never : (ns : List ℕ) → 1 ≤ length ns → Each (λ (m : ℕ). length entries ≤ m) ns → first_of ns < length entries → ⊥
    never [] s each h = omega (arith, s)
    never (n ∷ ns) s each h = let a = each.0 in omega (arith, a, h)
from_entries shape entries slots o behind some (inr front) low = front

pub from_slots : (shape : Shape) (entries slots : List Item) (o : Pending) → AreAtPlaces 0 entries → 1 ≤ length o.inputs → IsFrontOf shape entries slots o → length entries ≤ first_of o.inputs → IsSlotsFront shape slots o
from_slots shape entries slots o places some (inl front) high = front
from_slots shape entries slots o places some (inr front) high = absurd (never o.inputs some (entries_front shape entries o places front) high)
  where
    never : (ns : List ℕ) → 1 ≤ length ns → Each (λ (m : ℕ). m < length entries) ns → length entries ≤ first_of ns → ⊥
    never [] s each h = omega (arith, s)
    never (n ∷ ns) s each h = let a = each.0 in omega (arith, a, h)

-- where a call fails, what is told of the failure holds
pub on_error : {A E : Type 0} (r : Result A E) (P : Type 0) → P → OnErr r P
on_error (Ok a) P p = tt
on_error (Err e) P p = p

-- the first entry that waits, by its unit
first_there : (u : ℕ) (o : Option Item) → Some u ≡ option_map (λ (x : Item). x.unit) o → (x : Item) × (o ≡ Some x) × (x.unit ≡ u)
first_there u None e = absurd (cc)
first_there u (Some x) e = (x, refl, inner e)
  where
    inner : Some u ≡ Some x.unit → x.unit ≡ u
    inner f = cc

none_there : (o : Option Item) (x : Item) → None ≡ option_map (λ (y : Item). y.unit) o → o ≡ Some x → ⊥
none_there None x e f = absurd (cc)
none_there (Some y) x e f = absurd (cc)

same_first : (o : Option Item) (x y : Item) → o ≡ Some x → o ≡ Some y → x ≡ y
same_first o x y e f = inner (sym e ∙ f)
  where
    inner : Some x ≡ Some y → x ≡ y
    inner g = cc

first_of_all : (P : Item → Type 0) (xs : List Item) (x : Item) → Each P xs → slice_get xs 0 ≡ Some x → P x
first_of_all P [] x each e = absurd (cc)
first_of_all P (y ∷ xs) x each e = subst P (inner e) each.0
  where
    inner : Some y ≡ Some x → y ≡ x
    inner f = cc

pub first_below : (k : Kept) (u : ℕ) → IsKept k → Some u ≡ option_map (λ (x : Item). x.unit) (slice_get (filter waits_item k.entries) 0) → u < length k.shape.units
first_below k u s e =
    let f = first_there u (slice_get (filter waits_item k.entries) 0) e in
    let P : Item → Type 0 = λ x. x.unit < length k.shape.units in
    let below = first_of_all P (filter waits_item k.entries) f.0 (each_filter P waits_item k.entries (each_parts P k.entries k.slots s.units).0) f.1 in
    subst (λ (v : ℕ). v < length k.shape.units) f.2 below

pub best_choice : BestsAreChosen → (k : Kept) (c : Counts) (u : ℕ) → IsKept k → IsRoomOf k c → IsBest k.shape c k.slots u → SomeChoice (view_of k)
best_choice law k c u s r best = (pending_of k.tickets k.shape u (fits_unit u k.slots), law k c u s r best)

pub entry_choice : EntriesAreChosen → (k : Kept) (c : Counts) (u : ℕ) → IsKept k → IsRoomOf k c → IsBestOf k.shape c k.slots None → Some u ≡ option_map (λ (x : Item). x.unit) (slice_get (filter waits_item k.entries) 0) → HasSlotsLeft c u → SomeChoice (view_of k)
entry_choice law k c u s r none e left =
    let f = first_there u (slice_get (filter waits_item k.entries) 0) e in
    (pending_of k.tickets k.shape f.0.unit (fits_next f.0.unit k.entries), law k c f.0 s r none f.1 (subst (HasSlotsLeft c) (sym f.2) left))

pub no_entry_left : ElseNothingIsChosen → (k : Kept) (c : Counts) → IsKept k → IsRoomOf k c → IsBestOf k.shape c k.slots None → None ≡ option_map (λ (x : Item). x.unit) (slice_get (filter waits_item k.entries) 0) → NoChoice (view_of k)
no_entry_left law k c s r none e = law k c s r none (λ x there left. none_there (slice_get (filter waits_item k.entries) 0) x e there)

untrue : (b : Bool) → b ≡ false → IsTrue b → ⊥
untrue true e t = absurd (cc)
untrue false e t = absurd (cc)

pub no_room_left : ElseNothingIsChosen → (k : Kept) (c : Counts) (u : ℕ) (b : Bool) → IsKept k → IsRoomOf k c → IsBestOf k.shape c k.slots None → Some u ≡ option_map (λ (x : Item). x.unit) (slice_get (filter waits_item k.entries) 0) → b ≡ false → IsTrue b ↔ HasSlotsLeft c u → NoChoice (view_of k)
no_room_left law k c u b s r none e off iff =
    let f = first_there u (slice_get (filter waits_item k.entries) 0) e in
    law k c s r none (λ x there left. untrue b off (iff.1 (subst (HasSlotsLeft c) (sym (ap (λ (y : Item). y.unit) (same_first (slice_get (filter waits_item k.entries) 0) f.0 x f.1 there)) ∙ f.2) left)))

-- the first of the numbers, as code reads it
pub first_at : (ns ms : List ℕ) → ms ≡ ns → slice_index_or ms 0 0 ≡ first_of ns
first_at ns ms e = ap (λ (ks : List ℕ). slice_index_or ks 0 0) e ∙ of ns
  where
    of : (ks : List ℕ) → slice_index_or ks 0 0 ≡ first_of ks
    of [] = refl
    of (k ∷ ks) = refl
