-- A keep where nothing is left.
use Rattle.std.proofs.Common.{◌≡◌, ℕ, zero, suc, ◌+◌, ◌<◌, ◌≤◌, Bool, true, false, List, [], ◌∷◌, ◌++◌, length, refl, ap, sym, ◌∙◌, subst, arith, Option, Some, None, ◌↔◌}
use Rattle.std.specs.Prelude.{if◌then◌else◌, ◌==◌, filter, nat_le, slice_get, count_by, IsTrue, is_some, not}
use Rattle.std.specs.Option.{option_map}
use Rattle.std.proofs.lemmas.Bool.Decides.{nat_tests}
use Rattle.std.proofs.lemmas.Grind.{flat_map-append}
use Rattle.std.proofs.lemmas.List.{length-drop}
use Rattle.std.proofs.lemmas.List.Sums.{length-filter}
use Rattle.wg_words.specs.Each.{Each}
use Rattle.wg_machine.specs.declared.launch.Live.{Live}
use Rattle.wg_machine.specs.Grids.{groups_in, groups_of}
use Rattle.wg_machine.specs.State.{kept}
use Rattle.wg_keep.specs.Opening.{unopened_groups}
use Rattle.wg_standing.specs.declared.pending.Pending.{Pending}
use Rattle.wg_standing.specs.Idle.{IsIdle}
use Rattle.wg_standing.specs.Standing.{by_unit, in_slot, is_entry_record}
use Rattle.wg_store.specs.declared.item.Item.{Item}
use Rattle.wg_store.specs.Items.{AreAtPlaces, LeftIsCounted, has_left, live_item, lives, waits_item}
use Rattle.wg_store.specs.Keep.{IsKept, Kept, view_of}
use Rattle.wg_kept.specs.Inside.{pendings}
use Rattle.wg_kept.proofs.Finding.{each_parts, rise_behind}
use Rattle.wg_kept.proofs.Putting.{count_append, count_cons, counted_as}
use Rattle.wg_kept.proofs.Settlings.{GroupsAreCounted}
use Rattle.wg_kept.proofs.Uses.{slots_count}

-- a record that waits for nothing has no group that is not opened
unopened_none : GroupsAreCounted → (x : Item) → waits_item x ≡ false → length (unopened_groups x.opening) ≡ 0
unopened_none law x e =
    let d = length-drop x.opening.opened (groups_of x.opening.grid) in
    let f = law x.opening.grid in
    let past : groups_in x.opening.grid ≤ x.opening.opened = grind (arith, nat_tests) in
    omega (arith, d, f, past)

unopened_some : GroupsAreCounted → (x : Item) → waits_item x ≡ true → 0 < length (unopened_groups x.opening)
unopened_some law x e =
    let d = length-drop x.opening.opened (groups_of x.opening.grid) in
    let f = law x.opening.grid in
    let less : x.opening.opened < groups_in x.opening.grid = grind (arith, nat_tests) in
    omega (arith, d, f, less)

-- where none waits, none is live
none_lives : GroupsAreCounted → (xs : List Item) → filter waits_item xs ≡ [] → lives [] xs ≡ []
none_lives law [] e = refl
none_lives law (x ∷ xs) e = go (waits_item x) refl e (unopened_groups x.opening) refl (none_lives law xs)
  where
    some : (gs : List (List ℕ)) → length gs ≡ 0 → gs ≡ []
    some [] h = refl
    some (g ∷ gs) h = absurd (omega (arith, h))

    go : (b : Bool) → waits_item x ≡ b → (if b then x ∷ filter waits_item xs else filter waits_item xs) ≡ [] → (gs : List (List ℕ)) → unopened_groups x.opening ≡ gs → (filter waits_item xs ≡ [] → lives [] xs ≡ []) → kept (let y : Live = record (live_item [] x) { groups = gs } in y) ++ lives [] xs ≡ []
    go true q f gs is rest = absurd (cc)
    go false q f [] is rest = rest f
    go false q f (g ∷ gs) is rest = let n = unopened_none law x q in let m = ap (λ (hs : List (List ℕ)). length hs) is in absurd (omega (arith, n, m))

-- where no entry is live, none waits
none_waits : GroupsAreCounted → (from handed : ℕ) (xs : List Item) (more : List Live) → AreAtPlaces from xs → from + length xs ≤ handed → filter (is_entry_record handed) (lives [] xs ++ more) ≡ [] → filter waits_item xs ≡ []
none_waits law from handed [] more places h e = refl
none_waits law from handed (x ∷ xs) more places h e = go (unopened_groups x.opening) refl e (none_waits law (from + 1) handed xs more places.1 (omega (arith, h)))
  where
    go : (gs : List (List ℕ)) → unopened_groups x.opening ≡ gs → filter (is_entry_record handed) ((kept (let y : Live = record (live_item [] x) { groups = gs } in y) ++ lives [] xs) ++ more) ≡ [] → (filter (is_entry_record handed) (lives [] xs ++ more) ≡ [] → filter waits_item xs ≡ []) → filter waits_item (x ∷ xs) ≡ []
    go [] is f rest = pick (waits_item x) refl (rest f)
      where
        pick : (b : Bool) → waits_item x ≡ b → filter waits_item xs ≡ [] → (if b then x ∷ filter waits_item xs else filter waits_item xs) ≡ []
        pick true q g = let n = unopened_some law x q in let m = ap (λ (hs : List (List ℕ)). length hs) is in absurd (omega (arith, n, m))
        pick false q g = g
    go (g ∷ gs) is f rest =
        let p = places.0 in
        let q : nat_le (x.number + 1) handed ≡ true = grind (arith, nat_tests) in
        absurd (taken (nat_le (x.number + 1) handed) q f)
      where
        y : Live
        y = record (live_item [] x) { groups = g ∷ gs }

        taken : (b : Bool) → b ≡ true → (if b then y ∷ filter (is_entry_record handed) (lives [] xs ++ more) else filter (is_entry_record handed) (lives [] xs ++ more)) ≡ [] → ⊥
        taken true q r = absurd (cc)
        taken false q r = absurd (cc)

none_at : (handed w n k : ℕ) (bag : List Live) → Each (λ (ws : List Live). ws ≡ []) (by_unit handed w n bag) → k < n → filter (in_slot handed (w + k)) bag ≡ []
none_at handed w zero k bag each h = absurd (omega (arith, h))
none_at handed w (suc n) zero bag each h = let e : w ≡ w + 0 = omega arith in subst (λ (v : ℕ). filter (in_slot handed v) bag ≡ []) e each.0
none_at handed w (suc n) (suc k) bag each h = let e : w + 1 + k ≡ w + suc k = omega arith in subst (λ (v : ℕ). filter (in_slot handed v) bag ≡ []) e (none_at handed (w + 1) n k bag each.1 (omega (arith, h)))

all_none : (handed w n : ℕ) → Each (λ (ws : List Live). ws ≡ []) (by_unit handed w n [])
all_none handed w zero = tt
all_none handed w (suc n) = (refl, all_none handed (w + 1) n)

-- where nothing waits and nothing is out, no record is in slots
idle_slots : (k : Kept) → IsKept k → Each (λ (x : Item). has_left x ≡ true) k.slots → IsIdle (view_of k) → k.slots ≡ []
idle_slots k s left idle = empty k.slots left (each_parts (λ (x : Item). x.unit < length k.shape.units) k.entries k.slots s.units).1 (each_parts (LeftIsCounted []) k.entries k.slots counted).1 (rise_behind (length k.entries) k.next k.slots s.rises) (λ v h. none_at (length k.entries) 0 (length k.shape.units) v (lives [] (k.entries ++ k.slots)) idle.waits h)
  where
    counted : Each (LeftIsCounted []) (k.entries ++ k.slots)
    counted = subst (λ (os : List Pending). Each (LeftIsCounted os) (k.entries ++ k.slots)) idle.outs s.counted

    empty : (xs : List Item) → Each (λ (x : Item). has_left x ≡ true) xs → Each (λ (x : Item). x.unit < length k.shape.units) xs → Each (LeftIsCounted []) xs → Each (λ (x : Item). length k.entries ≤ x.number) xs → ((v : ℕ) → v < length k.shape.units → filter (in_slot (length k.entries) (0 + v)) (lives [] (k.entries ++ xs)) ≡ []) → xs ≡ []
    empty [] l u c b none = refl
    empty (x ∷ xs) l u c b none =
        let h = length k.entries in
        let v = x.unit in
        let z : 0 + v ≡ v = omega arith in
        let e = ap (λ (ys : List Live). length ys) (none v u.0) in
        let f = length-filter (in_slot h (0 + v)) (lives [] (k.entries ++ x ∷ xs)) in
        let g = ap (λ (w : ℕ). count_by (in_slot h w) (lives [] (k.entries ++ x ∷ xs))) z in
        let p = ap (count_by (in_slot h v)) (flat_map-append (λ (y : Item). kept (live_item [] y)) k.entries (x ∷ xs)) in
        let q = count_append (in_slot h v) (lives [] k.entries) (lives [] (x ∷ xs)) in
        let ss = slots_count h v [] (x ∷ xs) b l c in
        let d = count_cons (λ (y : Item). y.unit == v) x xs in
        let same : (x.unit == v) ≡ true = grind (arith, nat_tests) in
        let one = counted_as (x.unit == v) true same in
        absurd (omega (arith, e, f, g, p, q, ss, d, one))

-- and no entry waits
idle_entries : GroupsAreCounted → (k : Kept) → IsKept k → IsIdle (view_of k) → filter waits_item k.entries ≡ []
idle_entries law k s idle =
    none_waits law 0 (length k.entries) k.entries (lives [] k.slots) s.places (omega arith)
    (subst (λ (ys : List Live). filter (is_entry_record (length k.entries)) ys ≡ []) (flat_map-append (λ (y : Item). kept (live_item [] y)) k.entries k.slots) idle.entries)

-- and the other way round
idle_from : GroupsAreCounted → (k : Kept) → k.outs ≡ [] → k.slots ≡ [] → filter waits_item k.entries ≡ [] → IsIdle (view_of k)
idle_from law k outs slots entries =
    let nil : k.entries ++ k.slots ≡ k.entries = ap (λ (ys : List Item). k.entries ++ ys) slots ∙ nil_right k.entries in
    let none : lives [] (k.entries ++ k.slots) ≡ [] = ap (lives []) nil ∙ none_lives law k.entries entries in
    record {
      waits = subst (λ (bag : List Live). Each (λ (ws : List Live). ws ≡ []) (by_unit (length k.entries) 0 (length k.shape.units) bag)) (sym none) (all_none (length k.entries) 0 (length k.shape.units));
      entries = ap (filter (is_entry_record (length k.entries))) none;
      outs = outs;
    }
  where
    nil_right : (xs : List Item) → xs ++ [] ≡ xs
    nil_right [] = refl
    nil_right (x ∷ xs) = ap (λ (rest : List Item). x ∷ rest) (nil_right xs)

-- a keep with a record in slots is not idle
pub slots_not_idle : (k : Kept) (c : Bool) → IsKept k → Each (λ (x : Item). has_left x ≡ true) k.slots → IsTrue c ↔ (k.slots ≡ []) → c ≡ false → IsTrue false ↔ IsIdle (view_of k)
slots_not_idle k true s left iff e = absurd (cc)
slots_not_idle k false s left iff e = ((λ t. absurd (cc)), (λ idle. iff.1 (idle_slots k s left idle)))

first_none : (xs : List Item) → slice_get xs 0 ≡ None → xs ≡ []
first_none [] e = refl
first_none (x ∷ xs) e = absurd (cc)

pub no_outs : (outs : List (ℕ × Pending)) → length outs ≤ 0 → pendings outs ≡ []
no_outs [] h = refl
no_outs (e ∷ outs) h = absurd (omega (arith, h))

pub all_gone : (b : Bool) (xs : List Item) → IsTrue b ↔ (xs ≡ []) → b ≡ true → xs ≡ []
all_gone true xs iff e = iff.0 refl
all_gone false xs iff e = absurd (cc)

-- else it is idle where no entry waits
pub entries_idle : GroupsAreCounted → (k : Kept) (u : Option ℕ) (b : Bool) → IsKept k → k.outs ≡ [] → k.slots ≡ [] → is_some u ≡ not b → u ≡ option_map (λ (x : Item). x.unit) (slice_get (filter waits_item k.entries) 0) → IsTrue b ↔ IsIdle (view_of k)
entries_idle law k u b s outs slots is first = (
  λ t. idle_from law k outs slots (first_none (filter waits_item k.entries) (unmapped (slice_get (filter waits_item k.entries) 0) u b first is t)),
  λ idle. mapped u b is (first ∙ ap (λ (xs : List Item). option_map (λ (x : Item). x.unit) (slice_get xs 0)) (idle_entries law k s idle)),
)
  where
    unmapped : (o : Option Item) (v : Option ℕ) (b : Bool) → v ≡ option_map (λ (x : Item). x.unit) o → is_some v ≡ not b → IsTrue b → o ≡ None
    unmapped None v b e f t = refl
    unmapped (Some x) None b e f t = absurd (cc)
    unmapped (Some x) (Some m) true e f t = absurd (cc)
    unmapped (Some x) (Some m) false e f t = absurd (cc)

    mapped : (v : Option ℕ) (b : Bool) → is_some v ≡ not b → v ≡ None → IsTrue b
    mapped None true f e = refl
    mapped None false f e = absurd (cc)
    mapped (Some m) b f e = absurd (cc)
