-- What a keep chooses and opens.
use Rattle.std.proofs.Common.{◌≡◌, ℕ, zero, suc, ◌+◌, ◌<◌, ◌≤◌, Bool, true, false, List, [], ◌∷◌, ◌++◌, length, map, refl, ap, sym, ◌∙◌, subst, arith, None, Some, unwrap_or, ◌⊎◌, inl, inr}
use Rattle.std.specs.Prelude.{if◌then◌else◌, ◌==◌, ◌&&◌, ◌||◌, filter, slice_get, take_while, nat_lt}
use Rattle.std.specs.List.{list_any}
use Rattle.std.proofs.lemmas.Bool.Decides.{nat_tests}
use Rattle.wg_words.specs.Each.{Each}
use Rattle.wg_machine.specs.declared.launch.Live.{Live}
use Rattle.wg_machine.specs.Need.{need}
use Rattle.wg_machine.specs.Units.{depth_at}
use Rattle.wg_room.specs.Counts.{Counts, HasSlotsLeft}
use Rattle.wg_standing.specs.Choice.{CanEnter, IsChoice, IsPick, NoChoice, NoPick, UnitHasRoom, first_unit, next_entries, pending_from, waiting_at}
use Rattle.wg_standing.specs.Laws.{OnlyUnitsAreNeeded}
use Rattle.wg_standing.specs.Standing.{by_unit, in_slot}
use Rattle.wg_store.specs.declared.item.Item.{Item}
use Rattle.wg_store.specs.Best.{CanTake, IsBest, IsBestOf}
use Rattle.wg_store.specs.Items.{fits_next, fits_unit, live_item, lives, pending_of, waits_item}
use Rattle.wg_store.specs.Keep.{IsKept, IsRoomOf, Kept, items_of, view_of}
use Rattle.wg_store.proofs.Choices.{GroupsAreCounted, by_unit_at, entries_wait, next_map, pending_is, slots_wait}

decide : (a b : ℕ) → (a < b) ⊎ (b ≤ a)
decide a b = choice (nat_lt a b) refl
  where
    choice : (t : Bool) → nat_lt a b ≡ t → (a < b) ⊎ (b ≤ a)
    choice true e = inl (grind (arith, nat_tests))
    choice false e = inr (grind (arith, nat_tests))

by_unit_past : (handed w n i : ℕ) (bag : List Live) → n ≤ i → unwrap_or (slice_get (by_unit handed w n bag) i) [] ≡ []
by_unit_past handed w zero i bag h = refl
by_unit_past handed w (suc n) zero bag h = absurd (omega (arith, h))
by_unit_past handed w (suc n) (suc i) bag h = by_unit_past handed (w + 1) n i bag (omega (arith, h))

pub long_by_unit : (handed w n : ℕ) (bag : List Live) → length (by_unit handed w n bag) ≡ n
long_by_unit handed w zero bag = refl
long_by_unit handed w (suc n) bag = ap suc (long_by_unit handed (w + 1) n bag)

-- what waits at a unit
pub waiting_is : GroupsAreCounted → (k : Kept) (u : ℕ) → IsKept k → u < length k.shape.units → waiting_at (view_of k) u ≡ map (live_item []) (fits_unit u k.slots)
waiting_is law k u s h =
    let z : 0 + u ≡ u = omega arith in
    by_unit_at (length k.entries) 0 (length k.shape.units) u (lives [] (items_of k)) h
    ∙ ap (λ (v : ℕ). filter (in_slot (length k.entries) v) (lives [] (items_of k))) z
    ∙ slots_wait law u k.next k.entries k.slots s.places s.rises

waiting_past : (k : Kept) (u : ℕ) → length k.shape.units ≤ u → waiting_at (view_of k) u ≡ []
waiting_past k u h = by_unit_past (length k.entries) 0 (length k.shape.units) u (lives [] (items_of k)) h

-- slots are left for a unit where it has room
pub room_is : OnlyUnitsAreNeeded → (k : Kept) (c : Counts) (u : ℕ) → IsKept k → IsRoomOf k c → HasSlotsLeft c u → UnitHasRoom (view_of k) u
room_is law k c u s r left v = elim (decide 0 (need k.shape u v)) [
  | inl some ↦ (elim (decide v (length k.shape.units)) [
    | inl h ↦ (
        let n = r.needs u v h in
        let used = r.used v in
        let out = r.reserved v in
        let bound = r.bounds v h in
        let fits = left v (omega (arith, n, some)) in
        omega (arith, n, used, out, bound, fits)
        )
    | inr past ↦ (let none = law k.shape u v s.good past in absurd (omega (arith, none, some)))
  ])
  | inr none ↦ (let fits = s.placed.room v in omega (arith, fits, none))
]

pub room_was : (k : Kept) (c : Counts) (u : ℕ) → IsRoomOf k c → UnitHasRoom (view_of k) u → HasSlotsLeft c u
room_was k c u r room v some =
    let h = r.within u v some in
    let n = r.needs u v h in
    let used = r.used v in
    let out = r.reserved v in
    let bound = r.bounds v h in
    let fits = room v in
    omega (arith, n, used, out, bound, fits)

-- one of the records that fit
record SomeFits (P : Item → Type 0) (u : ℕ) : Type 0 where
  pub item : Item
  pub unit : item.unit ≡ u
  pub waits : waits_item item ≡ true
  pub holds : P item

both_are : (a b : Bool) → (a && b) ≡ true → (a ≡ true) × (b ≡ true)
both_are true true e = (refl, refl)
both_are true false e = absurd (cc)
both_are false b e = absurd (cc)

some_fits : (P : Item → Type 0) (u : ℕ) (xs : List Item) → Each P xs → 0 < length (fits_unit u xs) → SomeFits P u
some_fits P u [] each h = absurd (omega (arith, h))
some_fits P u (x ∷ xs) each h = go ((x.unit == u) && waits_item x) refl h (some_fits P u xs each.1)
  where
    go : (b : Bool) → ((x.unit == u) && waits_item x) ≡ b → 0 < length (if b then x ∷ fits_unit u xs else fits_unit u xs) → (0 < length (fits_unit u xs) → SomeFits P u) → SomeFits P u
    go true e f rest = let t = both_are (x.unit == u) (waits_item x) e in let q = t.0 in record { item = x; unit = grind (arith, nat_tests); waits = t.1; holds = each.0 }
    go false e f rest = rest f

any_fits : (u : ℕ) (xs : List Item) → list_any (λ (x : Item). (x.unit == u) && waits_item x) xs ≡ true → 0 < length (fits_unit u xs)
any_fits u [] e = absurd (cc)
any_fits u (x ∷ xs) e = go ((x.unit == u) && waits_item x) e (any_fits u xs)
  where
    go : (b : Bool) → (b || list_any (λ (y : Item). (y.unit == u) && waits_item y) xs) ≡ true → (list_any (λ (y : Item). (y.unit == u) && waits_item y) xs ≡ true → 0 < length (fits_unit u xs)) → 0 < length (if b then x ∷ fits_unit u xs else fits_unit u xs)
    go true f rest = omega arith
    go false f rest = rest f

long_map : (xs : List Item) → length (map (live_item []) xs) ≡ length xs
long_map [] = refl
long_map (x ∷ xs) = ap suc (long_map xs)

each_right : (P : Item → Type 0) (xs ys : List Item) → Each P (xs ++ ys) → Each P ys
each_right P [] ys each = each
each_right P (x ∷ xs) ys each = each_right P xs ys each.1

fits_below : (n u : ℕ) (xs : List Item) → Each (λ (x : Item). x.unit < n) xs → 0 < length (fits_unit u xs) → u < n
fits_below n u xs each h = let f = some_fits (λ (x : Item). x.unit < n) u xs each h in let a = f.unit in let b = f.holds in omega (arith, a, b)

-- the unit that is best is the pick
pub best_is_pick : GroupsAreCounted → OnlyUnitsAreNeeded → (k : Kept) (c : Counts) (u : ℕ) → IsKept k → IsRoomOf k c → IsBest k.shape c k.slots u → IsPick (view_of k) u
best_is_pick law only k c u s r best =
    let n = length k.shape.units in
    let some = any_fits u k.slots best.waits in
    let h = fits_below n u k.slots (each_right (λ (x : Item). x.unit < n) k.entries k.slots s.units) some in
    let long = long_by_unit (length k.entries) 0 n (lives [] (items_of k)) in
    let waits = ap (λ (xs : List Live). length xs) (waiting_is law k u s h) ∙ long_map (fits_unit u k.slots) in
    record {
      within = omega (arith, long, h);
      waits = omega (arith, waits, some);
      room = room_is only k c u s r best.room;
      best = λ v w room. elim (decide v n) [
        | inl below ↦ (
            let many = ap (λ (xs : List Live). length xs) (waiting_is law k v s below) ∙ long_map (fits_unit v k.slots) in
            let f = some_fits (λ (x : Item). CanTake c x → (depth_at k.shape x.unit < depth_at k.shape u) ⊎ ((depth_at k.shape x.unit ≡ depth_at k.shape u) × (u ≤ x.unit))) v k.slots best.first (omega (arith, many, w)) in
            subst (λ (m : ℕ). (depth_at k.shape m < depth_at k.shape u) ⊎ ((depth_at k.shape m ≡ depth_at k.shape u) × (u ≤ m))) f.unit
            (f.holds (record { waits = f.waits; room = subst (HasSlotsLeft c) (sym f.unit) (room_was k c v r room) }))
            )
        | inr past ↦ (let none = ap (λ (xs : List Live). length xs) (waiting_past k v past) in absurd (omega (arith, none, w)))
      ];
    }

-- where there is no best unit, there is no pick
pub no_best_no_pick : GroupsAreCounted → (k : Kept) (c : Counts) → IsKept k → IsRoomOf k c → IsBestOf k.shape c k.slots None → NoPick (view_of k)
no_best_no_pick law k c s r none v w room = elim (decide v (length k.shape.units)) [
  | inl below ↦ (
      let many = ap (λ (xs : List Live). length xs) (waiting_is law k v s below) ∙ long_map (fits_unit v k.slots) in
      let f = some_fits (λ (x : Item). CanTake c x → ⊥) v k.slots none (omega (arith, many, w)) in
      f.holds (record { waits = f.waits; room = subst (HasSlotsLeft c) (sym f.unit) (room_was k c v r room) })
      )
  | inr past ↦ (let empty = ap (λ (xs : List Live). length xs) (waiting_past k v past) in absurd (omega (arith, empty, w)))
]

-- the launch that takes from the front of the best unit's records is the choice
pub slots_choice : GroupsAreCounted → OnlyUnitsAreNeeded → (k : Kept) (c : Counts) (u : ℕ) → IsKept k → IsRoomOf k c → IsBest k.shape c k.slots u → IsChoice (view_of k) (pending_of k.tickets k.shape u (fits_unit u k.slots))
slots_choice law only k c u s r best =
    let pick = best_is_pick law only k c u s r best in
    let n = length k.shape.units in
    let h = fits_below n u k.slots (each_right (λ (x : Item). x.unit < n) k.entries k.slots s.units) (any_fits u k.slots best.waits) in
    subst (IsChoice (view_of k)) (ap (pending_from k.tickets k.shape u) (waiting_is law k u s h) ∙ pending_is k.tickets k.shape u (fits_unit u k.slots)) (IsChoice.from_slots u pick)

-- what is left of the entries
pub left_is : GroupsAreCounted → (k : Kept) → IsKept k → (view_of k).entries ≡ map (live_item []) (filter waits_item k.entries)
left_is law k s = entries_wait law k.next k.entries k.slots s.places s.rises

first_is : (xs : List Item) (x : Item) → slice_get xs 0 ≡ Some x → (first_unit (map (live_item []) xs) ≡ x.unit) × (0 < length (map (live_item []) xs))
first_is [] x e = absurd (cc)
first_is (y ∷ xs) x e = (ap (λ (z : Item). z.unit) (inner y e), omega arith)
  where
    inner : (y : Item) → Some y ≡ Some x → y ≡ x
    inner y f = cc

-- where there is none, the launch that takes from the front of the entries is, where its unit has room
pub entries_choice : GroupsAreCounted → OnlyUnitsAreNeeded → (k : Kept) (c : Counts) (x : Item) → IsKept k → IsRoomOf k c → IsBestOf k.shape c k.slots None → slice_get (filter waits_item k.entries) 0 ≡ Some x → HasSlotsLeft c x.unit
    → IsChoice (view_of k) (pending_of k.tickets k.shape x.unit (fits_next x.unit k.entries))
entries_choice law only k c x s r none there left =
    let e = left_is law k s in
    let f = first_is (filter waits_item k.entries) x there in
    let unit : first_unit (view_of k).entries ≡ x.unit = ap first_unit e ∙ f.0 in
    let enter : CanEnter (view_of k) = record { some = subst (λ (ys : List Live). 0 < length ys) (sym e) f.1; room = subst (UnitHasRoom (view_of k)) (sym unit) (room_is only k c x.unit s r left) } in
    let next : next_entries (view_of k) ≡ map (live_item []) (fits_next x.unit k.entries) = ap (λ (u : ℕ). take_while (λ (y : Live). y.unit == u) (view_of k).entries) unit ∙ ap (take_while (λ (y : Live). y.unit == x.unit)) e ∙ next_map x.unit k.entries in
    subst (IsChoice (view_of k)) (ap (λ (u : ℕ). pending_from k.tickets k.shape u (next_entries (view_of k))) unit ∙ ap (pending_from k.tickets k.shape x.unit) next ∙ pending_is k.tickets k.shape x.unit (fits_next x.unit k.entries))
    (IsChoice.from_entries (no_best_no_pick law k c s r none) enter)

-- and else there is no choice
pub no_choice : GroupsAreCounted → (k : Kept) (c : Counts) → IsKept k → IsRoomOf k c → IsBestOf k.shape c k.slots None → ((x : Item) → slice_get (filter waits_item k.entries) 0 ≡ Some x → HasSlotsLeft c x.unit → ⊥) → NoChoice (view_of k)
no_choice law k c s r none never =
    record {
      unpicked = no_best_no_pick law k c s r none;
      unentered = λ enter. refuse (filter waits_item k.entries) (left_is law k s) never enter.some enter.room;
    }
  where
    refuse : (xs : List Item) → (view_of k).entries ≡ map (live_item []) xs → ((x : Item) → slice_get xs 0 ≡ Some x → HasSlotsLeft c x.unit → ⊥) → 0 < length (view_of k).entries → UnitHasRoom (view_of k) (first_unit (view_of k).entries) → ⊥
    refuse [] e f some room = let n = ap (λ (ys : List Live). length ys) e in absurd (omega (arith, n, some))
    refuse (x ∷ xs) e f some room = f x refl (room_was k c x.unit r (subst (UnitHasRoom (view_of k)) (ap first_unit e) room))
