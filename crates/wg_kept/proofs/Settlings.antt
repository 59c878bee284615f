-- A keep of which a launch settles.
use Rattle.std.proofs.Common.{◌≡◌, inl, inr, ℕ, zero, suc, ◌+◌, ◌*◌, ◌<◌, ◌≤◌, Bool, true, false, List, [], ◌∷◌, ◌++◌, length, map, refl, ap, sym, ◌∙◌, subst, arith, Option, Some, None, unwrap_or}
use Rattle.std.specs.Prelude.{if◌then◌else◌, ◌==◌, ◌||◌, filter, slice_get, slice_index, count_by, IsTrue}
use Rattle.std.specs.Option.{option_map}
use Rattle.std.proofs.lemmas.Bool.Decides.{nat_tests}
use Rattle.std.proofs.lemmas.List.{length-drop}
use Rattle.std.proofs.lemmas.List.Sums.{sum_by-cons}
use Rattle.wg_words.specs.Each.{Each}
use Rattle.wg_words.specs.declared.limits.TheConstants.{MOST_ENTRIES, MOST_LAUNCHES, MOST_SENT}
use Rattle.wg_machine.specs.declared.launch.Launch.{Launch}
use Rattle.wg_machine.specs.declared.launch.Live.{Live}
use Rattle.wg_machine.specs.declared.launch.Sent.{Sent}
use Rattle.wg_machine.specs.declared.shape.Kind.{Kind}
use Rattle.wg_machine.specs.declared.shape.Kind.TheVariants.{Thread, Coalescing, Grid, GridField}
use Rattle.wg_machine.specs.declared.shape.Shape.{Shape}
use Rattle.wg_machine.specs.declared.shape.Unit.{Unit as Node}
use Rattle.wg_machine.specs.Buffers.{Buffers}
use Rattle.wg_machine.specs.GoodShape.{IsGoodShape}
use Rattle.wg_machine.specs.Grids.{groups_in, groups_of}
use Rattle.wg_machine.specs.LaunchMeaning.{Arrives, FitsShape, HasNewWords, KeepsBudgets, KeepsLaws, Outcome}
use Rattle.wg_machine.specs.Need.{most, need, need_of}
use Rattle.wg_machine.specs.State.{kept}
use Rattle.wg_machine.specs.Step.{IsReady, has_number, numbers_of, record_of, taken}
use Rattle.wg_machine.specs.Units.{is_broadcasting, kind_at, most_inputs, shared_at, words_at}
use Rattle.wg_keep.specs.Opening.{IsOpening, unopened_groups}
use Rattle.wg_need.specs.declared.table.Need.{Need}
use Rattle.wg_room.specs.Counts.{Counts, need_at}
use Rattle.wg_standing.specs.declared.pending.Pending.{Pending}
use Rattle.wg_standing.specs.Laws.{OnlyUnitsAreNeeded, OutsFit}
use Rattle.wg_standing.specs.Outs.{AllAllowed, IsAllowed, launch_now}
use Rattle.wg_standing.specs.Standing.{Rises, reserved}
use Rattle.wg_store.specs.declared.item.Item.{Item}
use Rattle.wg_store.specs.Items.{CanCount, LeftIsCounted, all_counted, all_worded, born_items, groups_left, has_left, live_item, lives, out_groups, waits_item}
use Rattle.wg_store.specs.Keep.{IsKept, IsRoomOf, IsTold, Kept, items_of, kept_settled, view_of}
use Rattle.wg_store.specs.Laws.{AllowedAreTold, SettlingsKeep}
use Rattle.wg_hold.specs.Held.{AreApart, Held, IsHeldSound, count_of}
use Rattle.wg_kept.specs.declared.store.Store.{Store}
use Rattle.wg_kept.specs.Moves.{CanSettle, FitsWords, SettlesTo}
use Rattle.wg_kept.proofs.Finding.{each_parts, rise_behind, rise_below}
use Rattle.wg_kept.proofs.Putting.{count_cons, counted_as, few_born}
use Rattle.wg_kept.proofs.Uses.{below_or_past, slots_past, used_is}

-- The laws that a settling cites.
abbrev pub NeedsAreKept : Type 0
NeedsAreKept = (u : Node) (sent : List Sent) (v : ℕ) → KeepsBudgets u sent → count_by (λ (s : Sent). s.unit == v) sent ≤ need_of u v

abbrev pub FewAreSent : Type 0
FewAreSent = (shape : Shape) (launch : Launch) (buffers : Buffers) (turns : ℕ) (o : Outcome) → IsGoodShape shape → FitsShape shape launch → KeepsLaws shape launch buffers turns o → length o.sent ≤ MOST_SENT

abbrev pub GroupsAreCounted : Type 0
GroupsAreCounted = (grid : List ℕ) → length (groups_of grid) ≡ groups_in grid

-- a keep's records and room
abbrev pub store_of : Kept → Counts → Store
store_of k c = record { entries = k.entries; hold = (let h : Held = record { shape = k.shape; items = k.slots; room = c } in h) }

-- a launch out is among those allowed
pub allowed_at : (shape : Shape) (bag : List Live) (before : List Pending) (o : Pending) (later : List Pending) → AllAllowed shape bag (before ++ o ∷ later) → IsAllowed shape bag o
allowed_at shape bag [] o later all = all.0
allowed_at shape bag (p ∷ before) o later all = allowed_at shape bag before o later all.1

-- what is told of a launch out
pub told_out : OutsFit → AllowedAreTold → (k : Kept) (before : List Pending) (o : Pending) (later : List Pending) → IsKept k → k.outs ≡ before ++ o ∷ later → IsTold k o
told_out fit told k before o later s out =
    told k o s (allowed_at k.shape (view_of k).bag before o later (subst (AllAllowed k.shape (view_of k).bag) out s.placed.allowed)) (fit (view_of k) before o later s.good out s.placed)

-- it takes a group of each of its records
out_has : (before : List Pending) (o : Pending) (later : List Pending) (n : ℕ) → has_number o.inputs n ≡ true → 1 ≤ length (out_groups (before ++ o ∷ later) n)
out_has [] o later n e = rw e (omega arith)
out_has (p ∷ before) o later n e = go (has_number p.inputs n) (out_has before o later n e)
  where
    go : (b : Bool) → 1 ≤ length (out_groups (before ++ o ∷ later) n) → 1 ≤ length ((if b then p.at ∷ [] else []) ++ out_groups (before ++ o ∷ later) n)
    go true rest = omega arith
    go false rest = rest

long_append : (xs ys : List (List ℕ)) → length (xs ++ ys) ≡ length xs + length ys
long_append [] ys = omega arith
long_append (x ∷ xs) ys = let r = long_append xs ys in omega (arith, r)

-- so each has a group to settle
can_count : (before : List Pending) (o : Pending) (later : List Pending) (items : List Item) → Each (LeftIsCounted (before ++ o ∷ later)) items → Each (CanCount o.inputs) items
can_count before o later [] each = tt
can_count before o later (x ∷ items) each = (
  λ e. (
      let a = out_has before o later x.number e in
      let b = long_append (out_groups (before ++ o ∷ later) x.number) (unopened_groups x.opening) in
      let c = each.0 in
      omega (arith, a, b, c)
      ),
  can_count before o later items each.1,
)

-- and where that is its last, none waits
last_waits : GroupsAreCounted → (before : List Pending) (o : Pending) (later : List Pending) (items : List Item) → Each (LeftIsCounted (before ++ o ∷ later)) items → Each (λ (x : Item). has_number o.inputs x.number ≡ true → x.opening.left ≡ 1 → waits_item x ≡ false) items
last_waits law before o later [] each = tt
last_waits law before o later (x ∷ items) each = (
  λ e one. (
      let a = out_has before o later x.number e in
      let b = long_append (out_groups (before ++ o ∷ later) x.number) (unopened_groups x.opening) in
      let c = each.0 in
      let d = length-drop x.opening.opened (groups_of x.opening.grid) in
      let f = law x.opening.grid in
      let past : groups_in x.opening.grid ≤ x.opening.opened = omega (arith, a, b, c, d, f, one) in
      grind (arith, nat_tests)
      ),
  last_waits law before o later items each.1,
)

-- the records that it takes are of its unit
ready_units : (outs : List Pending) (ns : List ℕ) (unit : ℕ) (at : List ℕ) (items : List Item) → Each (IsReady unit at) (taken ns (lives outs items)) → Each (λ (x : Item). has_number ns x.number ≡ true → 1 ≤ length (groups_left outs x) → x.unit ≡ unit) items
ready_units outs ns unit at [] each = tt
ready_units outs ns unit at (x ∷ items) each = go (groups_left outs x) refl each (ready_units outs ns unit at items)
  where
    go : (gs : List (List ℕ)) → groups_left outs x ≡ gs → Each (IsReady unit at) (taken ns (kept (let y : Live = record (live_item outs x) { groups = gs } in y) ++ lives outs items)) → (Each (IsReady unit at) (taken ns (lives outs items)) → Each (λ (z : Item). has_number ns z.number ≡ true → 1 ≤ length (groups_left outs z) → z.unit ≡ unit) items) → (has_number ns x.number ≡ true → 1 ≤ length (groups_left outs x) → x.unit ≡ unit) × Each (λ (z : Item). has_number ns z.number ≡ true → 1 ≤ length (groups_left outs z) → z.unit ≡ unit) items
    go [] e ready rest = ((λ q some. absurd (let n = ap (λ (gs : List (List ℕ)). length gs) e in omega (arith, n, some))), rest ready)
    go (g ∷ gs) e ready rest = pick (has_number ns x.number) refl ready
      where
        y : Live
        y = record (live_item outs x) { groups = g ∷ gs }

        pick : (b : Bool) → has_number ns x.number ≡ b → Each (IsReady unit at) (if b then y ∷ taken ns (lives outs items) else taken ns (lives outs items)) → (has_number ns x.number ≡ true → 1 ≤ length (groups_left outs x) → x.unit ≡ unit) × Each (λ (z : Item). has_number ns z.number ≡ true → 1 ≤ length (groups_left outs z) → z.unit ≡ unit) items
        pick true q r = ((λ p some. r.0.unit_is), rest r.1)
        pick false q r = ((λ p some. absurd (let f : true ≡ false = sym p ∙ q in cc)), rest r)

-- numbers of records that rise stand once
below_live : (lo end : ℕ) (xs : List Live) → Rises lo xs end → lo ≤ end
below_live lo end [] r = r
below_live lo end (x ∷ xs) r = let a = r.0 in let b = below_live (x.number + 1) end xs r.1 in omega (arith, a, b)

none_low : (ns : List ℕ) (n lo end : ℕ) (xs : List Live) → Rises lo xs end → n < lo → has_number (numbers_of (map record_of (taken ns xs))) n ≡ false
none_low ns n lo end [] r h = refl
none_low ns n lo end (x ∷ xs) r h = let low = r.0 in go (has_number ns x.number) (omega (arith, low, h)) (none_low ns n (x.number + 1) end xs r.1 (omega (arith, low, h)))
  where
    go : (b : Bool) → n < x.number → has_number (numbers_of (map record_of (taken ns xs))) n ≡ false → has_number (numbers_of (map record_of (if b then x ∷ taken ns xs else taken ns xs))) n ≡ false
    go true less rest = let q : (x.number == n) ≡ false = grind (arith, nat_tests) in rw q rest
    go false less rest = rest

rise_apart : (ns : List ℕ) (lo end : ℕ) (xs : List Live) → Rises lo xs end → AreApart (numbers_of (map record_of (taken ns xs)))
rise_apart ns lo end [] r = tt
rise_apart ns lo end (x ∷ xs) r = go (has_number ns x.number) (rise_apart ns (x.number + 1) end xs r.1)
  where
    go : (b : Bool) → AreApart (numbers_of (map record_of (taken ns xs))) → AreApart (numbers_of (map record_of (if b then x ∷ taken ns xs else taken ns xs)))
    go true rest = (none_low ns x.number (x.number + 1) end xs r.1 (omega arith), rest)
    go false rest = rest

none_counted : (n : ℕ) (ks : List ℕ) → has_number ks n ≡ false → count_by (λ (k : ℕ). k == n) ks ≡ 0
none_counted n [] e = refl
none_counted n (k ∷ ks) e = pick (k == n) refl e (none_counted n ks)
  where
    pick : (b : Bool) → (k == n) ≡ b → (b || has_number ks n) ≡ false → (has_number ks n ≡ false → count_by (λ (j : ℕ). j == n) ks ≡ 0) → count_by (λ (j : ℕ). j == n) (k ∷ ks) ≡ 0
    pick true q f rest = absurd (cc)
    pick false q f rest = let d = count_cons (λ (j : ℕ). j == n) k ks in let t = counted_as (k == n) false q in let r = rest f in omega (arith, d, t, r)

pub once_apart : (ns : List ℕ) → AreApart ns → (n : ℕ) → count_by (λ (m : ℕ). m == n) ns ≤ 1
once_apart [] apart n = omega arith
once_apart (m ∷ ns) apart n = go (m == n) refl (count_cons (λ (k : ℕ). k == n) m ns) (once_apart ns apart.1 n)
  where
    go : (b : Bool) → (m == n) ≡ b → count_by (λ (k : ℕ). k == n) (m ∷ ns) ≡ (if m == n then 1 else 0) + count_by (λ (k : ℕ). k == n) ns → count_by (λ (k : ℕ). k == n) ns ≤ 1 → count_by (λ (k : ℕ). k == n) (m ∷ ns) ≤ 1
    go true q d rest =
        let is : m ≡ n = grind (arith, nat_tests) in
        let t = counted_as (m == n) true q in
        let z = none_counted n ns (subst (λ (k : ℕ). has_number ns k ≡ false) is apart.0) in
        omega (arith, d, t, z)
    go false q d rest =
        let t = counted_as (m == n) false q in
        omega (arith, d, t, rest)

-- a unit that shares its records takes one at a time
shared_single : (shape : Shape) (u : ℕ) → IsGoodShape shape → shared_at shape u ≡ true → most_inputs (kind_at shape u) ≡ 1
shared_single shape u good e = go (slice_get shape.units u) refl e
  where
    one : (kind : Kind) → IsTrue (is_broadcasting kind) → most_inputs kind ≡ 1
    one Thread t = refl
    one (Coalescing most) t = absurd (cc)
    one (Grid x y z) t = refl
    one (GridField f p x y z) t = refl

    go : (o : Option Node) → slice_get shape.units u ≡ o → unwrap_or (option_map (λ (n : Node). n.shared) o) false ≡ true → most_inputs (unwrap_or (option_map (λ (n : Node). n.kind) (slice_get shape.units u)) Thread) ≡ 1
    go None there f = absurd (cc)
    go (Some node) there f = ap (λ (o : Option Node). most_inputs (unwrap_or (option_map (λ (n : Node). n.kind) o) Thread)) there ∙ one node.kind ((good.units u node there).shared f)

-- new words come at a shared unit alone
new_words : (b : Bool) (words : ℕ) (shared : Option (List ℕ)) (new : List ℕ) → HasNewWords b words shared → shared ≡ Some new → (b ≡ true) × (length new ≡ words)
new_words true words (Some w) new has e = (refl, ap (λ (ws : List ℕ). length ws) (sym (inner w e)) ∙ has)
  where
    inner : (w : List ℕ) → Some w ≡ Some new → w ≡ new
    inner w f = cc
new_words true words None new has e = absurd has
new_words false words (Some w) new has e = absurd has
new_words false words None new has e = absurd (cc)

only_one : (ns : List ℕ) → length ns ≡ 1 → (n : ℕ) × (ns ≡ n ∷ [])
only_one [] e = absurd (omega (arith, e))
only_one (n ∷ []) e = (n, refl)
only_one (n ∷ m ∷ ns) e = absurd (omega (arith, e))

numbered : (n m : ℕ) → m ≡ n → has_number (n ∷ []) m ≡ true
numbered n m e = let q : (n == m) ≡ true = grind (arith, nat_tests) in rw q refl

long_numbers : (ys : List Live) → length (map record_of ys) ≡ length (numbers_of (map record_of ys))
long_numbers [] = refl
long_numbers (y ∷ ys) = ap suc (long_numbers ys)

-- the new words are for one record, of the launch's unit
fits_words : OutsFit → (k : Kept) (c : Counts) (before : List Pending) (o : Pending) (later : List Pending) (shared : Option (List ℕ)) → IsKept k → k.outs ≡ before ++ o ∷ later → IsAllowed k.shape (view_of k).bag o → HasNewWords (shared_at k.shape o.unit) (words_at k.shape o.unit) shared → FitsWords (store_of k c) o.inputs shared
fits_words fit k c before o later shared s out allowed has new is =
    let w = new_words (shared_at k.shape o.unit) (words_at k.shape o.unit) shared new has is in
    let fits = fit (view_of k) before o later s.good out s.placed in
    let few = fits.few in
    let some = fits.some in
    let single = shared_single k.shape o.unit s.good w.0 in
    let many = long_numbers (taken o.inputs (view_of k).bag) ∙ ap (λ (ns : List ℕ). length ns) allowed.named in
    let one = only_one o.inputs (omega (arith, few, some, single, many)) in
    let ready = subst (λ (ns : List ℕ). Each (IsReady o.unit o.at) (taken ns (view_of k).bag)) allowed.named allowed.allowed.ready in
    let units = ready_units k.outs o.inputs o.unit o.at (items_of k) ready in
    let counted = subst (λ (os : List Pending). Each (LeftIsCounted os) (items_of k)) out s.counted in
    (one.0, one.1, words one.0 one.1 w.1 (items_of k) units counted)
  where
    words : (n : ℕ) → o.inputs ≡ n ∷ [] → length new ≡ words_at k.shape o.unit → (items : List Item) → Each (λ (x : Item). has_number o.inputs x.number ≡ true → 1 ≤ length (groups_left k.outs x) → x.unit ≡ o.unit) items → Each (LeftIsCounted (before ++ o ∷ later)) items → Each (λ (x : Item). x.number ≡ n → length new ≡ words_at k.shape x.unit) items
    words n one long [] units counted = tt
    words n one long (x ∷ items) units counted = (
      λ named. (
          let has = subst (λ (ns : List ℕ). has_number ns x.number ≡ true) (sym one) (numbered n x.number named) in
          let a = out_has before o later x.number has in
          let b = long_append (out_groups (before ++ o ∷ later) x.number) (unopened_groups x.opening) in
          let groups : 1 ≤ length (groups_left (before ++ o ∷ later) x) = omega (arith, a, b) in
          let unit = units.0 has (subst (λ (os : List Pending). 1 ≤ length (groups_left os x)) (sym out) groups) in
          long ∙ ap (words_at k.shape) (sym unit)
          ),
      words n one long items units.1 counted.1,
    )

-- what the launches out reserve, with one of them apart
reserved_split : (shape : Shape) (v : ℕ) (before : List Pending) (o : Pending) (later : List Pending) → reserved shape (before ++ o ∷ later) v ≡ reserved shape (before ++ later) v + need shape o.unit v
reserved_split shape v [] o later = let a = sum_by-cons (λ (p : Pending). need shape p.unit v) o later in omega (arith, a)
reserved_split shape v (p ∷ before) o later =
    let a = sum_by-cons (λ (q : Pending). need shape q.unit v) p (before ++ o ∷ later) in
    let b = sum_by-cons (λ (q : Pending). need shape q.unit v) p (before ++ later) in
    let r = reserved_split shape v before o later in
    omega (arith, a, b, r)

-- the needs that a room counts
needed : OnlyUnitsAreNeeded → (k : Kept) (c : Counts) (u v : ℕ) → IsKept k → IsRoomOf k c → need_at c u v ≡ need k.shape u v
needed only k c u v s r = elim (below_or_past v (length k.shape.units)) [
  | inl h ↦ r.needs u v h
  | inr past ↦ (
      let none = only k.shape u v s.good past in
      elim (below_or_past 0 (need_at c u v)) [
        | inl some ↦ (let h = r.within u v some in absurd (omega (arith, h, past)))
        | inr zero_is ↦ omega (arith, none, zero_is)
      ]
      )
]

-- a unit's budgets are kept
sent_few : NeedsAreKept → (shape : Shape) (u v : ℕ) (sent : List Sent) → u < length shape.units → ((n : Node) → slice_get shape.units u ≡ Some n → KeepsBudgets n sent) → count_by (λ (s : Sent). s.unit == v) sent ≤ need shape u v
sent_few law shape u v sent h budgets = go (slice_get shape.units u) refl
  where
    none : (xs : List Node) (i : ℕ) → i < length xs → slice_get xs i ≡ None → ⊥
    none [] i l e = omega (arith, l)
    none (x ∷ xs) zero l e = absurd (cc)
    none (x ∷ xs) (suc i) l e = none xs i (omega (arith, l)) e

    go : (o : Option Node) → slice_get shape.units u ≡ o → count_by (λ (s : Sent). s.unit == v) sent ≤ unwrap_or (option_map (λ (n : Node). need_of n v) (slice_get shape.units u)) 0
    go None e = absurd (none shape.units u h e)
    go (Some n) e = subst (λ (o : Option Node). count_by (λ (s : Sent). s.unit == v) sent ≤ unwrap_or (option_map (λ (m : Node). need_of m v) o) 0) (sym e) (law n sent v (budgets n e))

none_sent : (v n : ℕ) (shape : Shape) (sent : List Sent) → length shape.units ≡ n → Each (Arrives shape) sent → n ≤ v → count_by (λ (s : Sent). s.unit == v) sent ≡ 0
none_sent v n shape [] e each h = refl
none_sent v n shape (s ∷ sent) e each h =
    let unit = each.0.unit in
    let q : (s.unit == v) ≡ false = grind (arith, nat_tests) in
    let a = count_cons (λ (t : Sent). t.unit == v) s sent in
    let c = counted_as (s.unit == v) false q in
    let rest = none_sent v n shape sent e each.1 h in
    omega (arith, a, c, rest)

-- there are slots for all that it sends
slots_free : OutsFit → NeedsAreKept → (k : Kept) (c : Counts) (before : List Pending) (o : Pending) (later : List Pending) (outcome : Outcome) → IsKept k → IsRoomOf k c → Each (λ (x : Item). has_left x ≡ true) k.slots → k.outs ≡ before ++ o ∷ later → KeepsLaws k.shape (launch_now k.shape (view_of k).bag o) [] k.limits.turns outcome
    → (v : ℕ) → count_of v k.slots + count_by (λ (s : Sent). s.unit == v) outcome.sent ≤ slice_index c.bounds v
slots_free fit law k c before o later outcome s r left out laws v = elim (below_or_past v (length k.shape.units)) [
  | inl h ↦ (
      let fits = fit (view_of k) before o later s.good out s.placed in
      let used = used_is k s left v in
      let room = s.placed.room v in
      let bound = r.bounds v h in
      let parts = ap (λ (os : List Pending). reserved k.shape os v) out ∙ reserved_split k.shape v before o later in
      let few = sent_few law k.shape o.unit v outcome.sent fits.unit laws.budgets in
      omega (arith, used, room, bound, parts, few)
      )
  | inr past ↦ (
      let a = slots_past k v s past in
      let b = none_sent v (length k.shape.units) k.shape outcome.sent refl laws.arrive past in
      omega (arith, a, b)
      )
]

-- the numbers of the bounds of every keep
pub record AreBounds (k : Kept) : Type 0 where
  pub few : k.limits.launches ≤ MOST_LAUNCHES
  pub next : k.next ≤ MOST_ENTRIES + MOST_SENT * length k.journal

long_pendings : (before : List Pending) (o : Pending) (later : List Pending) → 1 ≤ length (before ++ o ∷ later)
long_pendings [] o later = omega arith
long_pendings (p ∷ before) o later = omega arith

-- numbers stay small
pub next_fits : OutsFit → FewAreSent → (k : Kept) (before : List Pending) (o : Pending) (later : List Pending) (outcome : Outcome) → IsKept k → AreBounds k → k.outs ≡ before ++ o ∷ later → KeepsLaws k.shape (launch_now k.shape (view_of k).bag o) [] k.limits.turns outcome
    → (k.next + length outcome.sent ≤ MOST_ENTRIES + MOST_SENT * (length k.journal + 1)) × (length outcome.sent ≤ MOST_SENT) × (length k.journal < MOST_LAUNCHES)
next_fits fit law k before o later outcome s b out laws =
    let fits = fit (view_of k) before o later s.good out s.placed in
    let few = law k.shape (launch_now k.shape (view_of k).bag o) [] k.limits.turns outcome s.good fits laws in
    let launches = s.placed.launches in
    let some = ap (λ (os : List Pending). length os) out in
    let one = long_pendings before o later in
    let most = b.few in
    let next = b.next in
    (omega (arith, few, next), few, omega (arith, launches, some, one, most))

-- a launch out may settle by what it made
pub can_settle : OutsFit → AllowedAreTold → GroupsAreCounted → NeedsAreKept → FewAreSent → OnlyUnitsAreNeeded → SettlingsKeep → (k : Kept) (c : Counts) (before : List Pending) (o : Pending) (later : List Pending) (outcome : Outcome) → IsKept k → IsRoomOf k c → AreBounds k → Each (λ (x : Item). has_left x ≡ true) k.slots → k.outs ≡ before ++ o ∷ later → KeepsLaws k.shape (launch_now k.shape (view_of k).bag o) [] k.limits.turns outcome
    → CanSettle (store_of k c) o.unit o.inputs outcome.shared k.next outcome.sent
can_settle fit told law needs few only keep k c before o later outcome s r b left out laws =
    let items = items_of k in
    let counted = subst (λ (os : List Pending). Each (LeftIsCounted os) items) out s.counted in
    let allowed = allowed_at k.shape (view_of k).bag before o later (subst (AllAllowed k.shape (view_of k).bag) out s.placed.allowed) in
    let after = keep k before o later outcome s out laws in
    let es = all_counted o.inputs (all_worded o.inputs outcome.shared k.entries) in
    let ss = filter has_left (all_counted o.inputs (all_worded o.inputs outcome.shared k.slots)) in
    let openings = each_parts (λ (x : Item). IsOpening x.opening) ss (born_items k.shape k.next outcome.sent) (each_parts (λ (x : Item). IsOpening x.opening) es (ss ++ born_items k.shape k.next outcome.sent) after.openings).1 in
    let fits = fit (view_of k) before o later s.good out s.placed in
    let small = next_fits fit few k before o later outcome s b out laws in
    let bound = small.0 in
    let short = small.2 in
    record {
      places = s.places;
      behind = rise_behind (length k.entries) k.next k.slots s.rises;
      there = (told_out fit told k before o later s out).there;
      apart = subst AreApart allowed.named (rise_apart o.inputs 0 k.next (view_of k).bag s.placed.rises);
      words = fits_words fit k c before o later outcome.shared s out allowed laws.shared;
      can = can_count before o later items counted;
      ends = last_waits law before o later k.slots (each_parts (LeftIsCounted (before ++ o ∷ later)) k.entries k.slots counted).1;
      puts = record {
        above = rise_below (length k.entries) k.next k.slots s.rises;
        arrive = laws.arrive;
        few = few_born k.shape k.next outcome.sent openings.1;
        free = slots_free fit needs k c before o later outcome s r left out laws;
        fits = omega (arith, bound, short);
      };
      known = fits.unit;
      reserved = λ v. (
          let a = needed only k c o.unit v s r in
          let d = r.reserved v in
          let parts = ap (λ (os : List Pending). reserved k.shape os v) out ∙ reserved_split k.shape v before o later in
          omega (arith, a, d, parts)
          );
    }

-- the room after it counts the slots in use and those reserved
pub settled_room : OnlyUnitsAreNeeded → (k l : Kept) (c : Counts) (new : Store) (before : List Pending) (o : Pending) (later : List Pending) (outcome : Outcome) → IsKept k → IsRoomOf k c → k.outs ≡ before ++ o ∷ later
    → l ≡ kept_settled k before o later outcome → IsKept l → IsHeldSound new.hold → SettlesTo (store_of k c) new o.unit o.inputs outcome.shared k.next outcome.sent → IsRoomOf l new.hold.room
settled_room only k l c new before o later outcome s r out is t held settles =
    let shape = ap (λ (x : Kept). x.shape) is in
    let width = ap (λ (x : Kept). x.width) is in
    let slots = ap (λ (x : Kept). x.slots) is in
    let outs = ap (λ (x : Kept). x.outs) is in
    let items : new.hold.items ≡ l.slots = settles.items ∙ sym slots in
    let left = subst (Each (λ (x : Item). has_left x ≡ true)) items held.left in
    let at : (u v : ℕ) → need_at new.hold.room u v ≡ need_at c u v = λ u v. ap (λ (ns : List (List Need)). (let d : Counts = record c { needs = ns } in need_at d u v)) settles.needs in
    record {
      many = ap (λ (xs : List ℕ). length xs) settles.bounds ∙ r.many ∙ ap (λ (x : Shape). length x.units) (sym shape);
      bounds = λ v h. ap (λ (xs : List ℕ). slice_index xs v) settles.bounds ∙ r.bounds v (subst (λ (x : Shape). v < length x.units) shape h) ∙ ap (λ (x : Kept). x.width * most x.shape v) (sym is);
      used = λ v. held.used v ∙ ap (count_of v) items ∙ sym (used_is l t left v);
      reserved = λ v. (
          let a = settles.reserved v in
          let b = r.reserved v in
          let n = needed only k c o.unit v s r in
          let parts = ap (λ (os : List Pending). reserved k.shape os v) out ∙ reserved_split k.shape v before o later in
          let e = ap (λ (x : Kept). reserved x.shape x.outs v) is in
          omega (arith, a, b, n, parts, e)
          );
      needs = λ u v h. at u v ∙ r.needs u v (subst (λ (x : Shape). v < length x.units) shape h) ∙ ap (λ (x : Shape). need x u v) (sym shape);
      within = λ u v some. subst (λ (x : Shape). v < length x.units) (sym shape) (r.within u v (subst (λ (n : ℕ). 0 < n) (at u v) some));
    }
