-- The launch that an entry names, by what is kept of its records.
use Rattle.std.proofs.Common.{◌≡◌, ◌⊎◌, inl, inr, ℕ, suc, ◌+◌, ◌<◌, ◌≤◌, ◌^◌, Bool, true, false, List, [], ◌∷◌, length, map, Some, None, Option, refl, ap, sym, ◌∙◌, subst, arith}
use Rattle.std.specs.Prelude.{if◌then◌else◌, ◌==◌, ◌&&◌, ◌||◌, IsTrue, drop, slice_get}
use Rattle.std.specs.List.{list_all}
use Rattle.std.proofs.lemmas.Bool.{and_parts, and_from}
use Rattle.std.proofs.lemmas.Bool.Decides.{nat_tests, leb_tells, Decides-eqb}
use Rattle.wg_words.specs.Each.{Each}
use Rattle.wg_words.specs.declared.limits.TheConstants.{GRID_BOUND}
use Rattle.wg_machine.specs.declared.launch.Entry.{Entry}
use Rattle.wg_machine.specs.declared.launch.Launch.{Launch}
use Rattle.wg_machine.specs.declared.launch.Live.{Live}
use Rattle.wg_machine.specs.declared.launch.Record.{Record}
use Rattle.wg_machine.specs.declared.shape.Shape.{Shape}
use Rattle.wg_machine.specs.Fitting.{IsFitting, BagFits}
use Rattle.wg_machine.specs.GoodShape.{IsGoodShape}
use Rattle.wg_machine.specs.Grids.{groups_in, has_group, place_of}
use Rattle.wg_machine.specs.Step.{Allows, IsReady, first_grid, has_number, is_last, launch_in, numbers_of, record_of, taken}
use Rattle.wg_machine.specs.Units.{kind_at, most_inputs, shared_at}
use Rattle.wg_records.specs.declared.live.LiveRecords.{LiveRecords}
use Rattle.wg_records.specs.declared.slot.Slot.{Slot}
use Rattle.wg_records.specs.Bags.{live_at, slot_at, IsSlotOf, Keeps, Matches, Rises}
use Rattle.wg_records.specs.Named.{grid_in, has_one_left, is_ready_at, record_at, words_in, IsNamed, NumbersRise}
use Rattle.wg_records.specs.Slots.{has_left, is_ready_slot}
use Rattle.wg_records.proofs.Groups.{has_times}
use Rattle.wg_records.proofs.Keeping.{Slotted, slotted}
use Rattle.wg_records.proofs.Lists.{none_below, not_among}

abbrev pub AreToldByNames : Type 0
AreToldByNames = (shape : Shape) (bag : List Live) (launch : Launch) (at : List ℕ) → Allows shape bag launch at → launch ≡ launch_in shape bag launch.unit at (numbers_of launch.records)

abbrev pub AreAllowed : Type 0
AreAllowed = (shape : Shape) (bag : List Live) (unit : ℕ) (at numbers : List ℕ)
    → BagFits shape bag → numbers_of (map record_of (taken numbers bag)) ≡ numbers
    → 1 ≤ length numbers → length numbers ≤ most_inputs (kind_at shape unit) → Each (IsReady unit at) (taken numbers bag)
    → Allows shape bag (launch_in shape bag unit at numbers) at

abbrev pub LieInGrids : Type 0
LieInGrids = (shape : Shape) (r : Live) (at : List ℕ)
    → IsGoodShape shape → IsFitting shape r → IsTrue (has_group r.groups at)
    → (place_of r.grid at < groups_in r.grid) × (groups_in r.grid < GRID_BOUND)

abbrev pub numbers : List Live → List ℕ
numbers xs = numbers_of (map record_of xs)

-- a record of the bag with this number
pub record IsThere (bag : List Live) (n : ℕ) : Type 0 where
  pub live : Live
  pub there : live_at n bag ≡ Some live

-- what a list of numbers takes from a rising bag

taken_none : (bag : List Live) → taken [] bag ≡ []
taken_none [] = refl
taken_none (x ∷ bag) = taken_none bag

taken_past : (n m end : ℕ) (ns : List ℕ) (bag : List Live) → Rises m bag end → n < m → taken (n ∷ ns) bag ≡ taken ns bag
taken_past n m end ns [] r h = refl
taken_past n m end ns (x ∷ bag) r h =
    let f = r.0 in
    let e : (n == x.number) ≡ false = grind (arith, nat_tests) in
    ap (λ (b : Bool). if b || has_number ns x.number then x ∷ taken (n ∷ ns) bag else taken (n ∷ ns) bag) e
    ∙ ap (λ (l : List Live). if has_number ns x.number then x ∷ l else l) (taken_past n (x.number + 1) end ns bag r.1 (omega arith))

some_none : (x : Live) → Some x ≡ None → ⊥
some_none x e = cc

-- numbers above a record's are there without it
there_past : (x : Live) (bag : List Live) (m : ℕ) (ns : List ℕ) → NumbersRise m ns → x.number < m → Each (IsThere (x ∷ bag)) ns → Each (IsThere bag) ns
there_past x bag m [] r h e = tt
there_past x bag m (n ∷ ns) r h e =
    let f = r.0 in
    let apart : (x.number == n) ≡ false = grind (arith, nat_tests) in (
      record { live = e.0.live; there = sym (ap (λ (b : Bool). if b then Some x else live_at n bag) apart) ∙ e.0.there },
      there_past x bag (n + 1) ns r.1 (omega arith) e.1,
    )

-- numbers that rise and are there are taken, all of them
pub taken_are : (low end : ℕ) (ns : List ℕ) (bag : List Live) → Rises low bag end → NumbersRise low ns → Each (IsThere bag) ns → numbers (taken ns bag) ≡ ns
taken_are low end [] bag r s e = ap numbers (taken_none bag)
taken_are low end (n ∷ ns) [] r s e = let t = e.0.there in absurd (cc)
taken_are low end (n ∷ ns) (x ∷ bag) r s e = choice (n == x.number) refl (λ ms rise there. taken_are (x.number + 1) end ms bag r.1 rise there)
  where
    cases : (a b : ℕ) → (a < b) ⊎ (b ≤ a)
    cases a b = elim (leb_tells b a) [ inl t ↦ inr t.1 | inr f ↦ inl f.1 ]

    differ : (a b : ℕ) → (a == b) ≡ false → b ≤ a → b < a
    differ a b f h = grind (arith, nat_tests)

    past : x.number < n → ((ms : List ℕ) → NumbersRise (x.number + 1) ms → Each (IsThere bag) ms → numbers (taken ms bag) ≡ ms) → numbers (taken (n ∷ ns) (x ∷ bag)) ≡ n ∷ ns
    past less rec =
        let rise : NumbersRise (x.number + 1) (n ∷ ns) = (omega (arith, less), s.1) in
        ap (λ (b : Bool). numbers (if b then x ∷ taken (n ∷ ns) bag else taken (n ∷ ns) bag)) (not_among x.number (x.number + 1) (n ∷ ns) rise (omega arith))
        ∙ rec (n ∷ ns) rise (there_past x bag (x.number + 1) (n ∷ ns) rise (omega arith) e)

    choice : (b : Bool) → (n == x.number) ≡ b → ((ms : List ℕ) → NumbersRise (x.number + 1) ms → Each (IsThere bag) ms → numbers (taken ms bag) ≡ ms) → numbers (taken (n ∷ ns) (x ∷ bag)) ≡ n ∷ ns
    choice true f rec =
        let same : n ≡ x.number = (Decides-eqb n x.number).0 f in
        let rise : NumbersRise (x.number + 1) ns = subst (λ (k : ℕ). NumbersRise (k + 1) ns) same s.1 in
        ap (λ (b : Bool). numbers (if b || has_number ns x.number then x ∷ taken (n ∷ ns) bag else taken (n ∷ ns) bag)) f
        ∙ ap (λ (l : List Live). x.number ∷ numbers l) (taken_past n (x.number + 1) end ns bag r.1 (omega (arith, same)))
        ∙ ap (λ (l : List ℕ). x.number ∷ l) (rec ns rise (there_past x bag (x.number + 1) ns rise (omega arith) e.1))
        ∙ ap (λ (k : ℕ). k ∷ ns) (sym same)
    choice false f rec =
        elim (cases n x.number) [
          | inl less ↦ absurd (some_none e.0.live (sym e.0.there ∙ none_below n x.number end (x ∷ bag) (omega arith, r.1) less))
          | inr more ↦ past (differ n x.number f more) rec
        ]

-- each record of a rising bag is the one of its number

each_later : (x : Live) (low : ℕ) (bag xs : List Live) → Each (λ (r : Live). x.number < r.number) xs → Each (λ (r : Live). live_at r.number bag ≡ Some r) xs → Each (λ (r : Live). live_at r.number (x ∷ bag) ≡ Some r) xs
each_later x low bag [] above e = tt
each_later x low bag (y ∷ xs) above e =
    let h = above.0 in
    let apart : (x.number == y.number) ≡ false = grind (arith, nat_tests) in
    (ap (λ (b : Bool). if b then Some x else live_at y.number bag) apart ∙ e.0, each_later x low bag xs above.1 e.1)

all_above : (n m end : ℕ) (xs : List Live) → Rises m xs end → n < m → Each (λ (r : Live). n < r.number) xs
all_above n m end [] r h = tt
all_above n m end (x ∷ xs) r h = let f = r.0 in (omega (arith, f, h), all_above n (x.number + 1) end xs r.1 (omega (arith, f, h)))

pub each_there : (low end : ℕ) (bag : List Live) → Rises low bag end → Each (λ (r : Live). live_at r.number bag ≡ Some r) bag
each_there low end [] r = tt
each_there low end (x ∷ bag) r =
    let here : (x.number == x.number) ≡ true = grind (arith, nat_tests) in
    (ap (λ (b : Bool). if b then Some x else live_at x.number bag) here, each_later x low bag bag (all_above x.number (x.number + 1) end bag r.1 (omega arith)) (each_there (x.number + 1) end bag r.1))

pub each_taken : (P : Live → Type 0) (ns : List ℕ) (bag : List Live) → Each P bag → Each P (taken ns bag)
each_taken P ns [] e = tt
each_taken P ns (x ∷ bag) e = choice (has_number ns x.number) (each_taken P ns bag e.1)
  where
    choice : (b : Bool) → Each P (taken ns bag) → Each P (if b then x ∷ taken ns bag else taken ns bag)
    choice true ih = (e.0, ih)
    choice false ih = ih

-- what is kept of records that are taken

abbrev IsKept : LiveRecords → Live → Type 0
IsKept k r = Slotted k r.number r

each_kept : (shape : Shape) (k : LiveRecords) (bag xs : List Live) → Keeps shape k bag → Each (λ (r : Live). live_at r.number bag ≡ Some r) xs → Each (IsKept k) xs
each_kept shape k bag [] keeps e = tt
each_kept shape k bag (x ∷ xs) keeps e =
    (slotted k x.number (slot_at k x.number) (live_at x.number bag) x refl e.0 (keeps.slots x.number), each_kept shape k bag xs keeps e.1)

pub taken_kept : (shape : Shape) (k : LiveRecords) (ns : List ℕ) (bag : List Live) → Keeps shape k bag → Each (IsKept k) (taken ns bag)
taken_kept shape k ns bag keeps = each_kept shape k bag (taken ns bag) keeps (each_taken (λ (r : Live). live_at r.number bag ≡ Some r) ns bag (each_there 0 k.next bag keeps.rises))

pub records_are : (k : LiveRecords) (xs : List Live) → Each (IsKept k) xs → map (record_at k) (numbers xs) ≡ map record_of xs
records_are k [] e = refl
records_are k (x ∷ xs) e =
    let made = λ (ws : List ℕ). (let r : Record = record { number = x.number; words = ws } in r) in
    ap (λ (r : Record). r ∷ map (record_at k) (numbers xs)) (ap made (ap words_in e.0.there ∙ e.0.is.words))
    ∙ ap (λ (rs : List Record). record_of x ∷ rs) (records_are k xs e.1)

pub last_is : (k : LiveRecords) (xs : List Live) → Each (IsKept k) xs → list_all (λ n. has_one_left (slot_at k n)) (numbers xs) ≡ list_all (λ (r : Live). length r.groups == 1) xs
last_is k [] e = refl
last_is k (x ∷ xs) e =
    ap (λ (b : Bool). b && list_all (λ n. has_one_left (slot_at k n)) (numbers xs)) (ap has_one_left e.0.there ∙ ap (λ (n : ℕ). n == 1) e.0.is.left)
    ∙ ap (λ (b : Bool). (length x.groups == 1) && b) (last_is k xs e.1)

ready_is : (unit : ℕ) (at : List ℕ) (s : Slot) (r : Live) → length at ≡ 3 → IsSlotOf s r → is_ready_slot unit at s ≡ ((r.unit == unit) && has_group r.groups at)
ready_is unit at s r three is =
    ap (λ (u : ℕ). (u == unit) && has_left s at) is.unit
    ∙ ap (λ (b : Bool). (r.unit == unit) && b) (sym (has_times at r.groups (has_left s at) (is.groups at three)))

-- the test says what is ready, both ways
pub ready_from : (k : LiveRecords) (unit : ℕ) (at : List ℕ) (xs : List Live) → length at ≡ 3 → Each (IsKept k) xs → list_all (λ n. is_ready_at unit at (slot_at k n)) (numbers xs) ≡ true → Each (IsReady unit at) xs
ready_from k unit at [] three e h = tt
ready_from k unit at (x ∷ xs) three e h =
    let p = and_parts (is_ready_at unit at (slot_at k x.number)) (list_all (λ n. is_ready_at unit at (slot_at k n)) (numbers xs)) h in
    let q = and_parts (x.unit == unit) (has_group x.groups at) (sym (ready_is unit at e.0.slot x three e.0.is) ∙ ap (is_ready_at unit at) (sym e.0.there) ∙ p.0) in
    (record { unit_is = (Decides-eqb x.unit unit).0 q.0; group_is = q.1 }, ready_from k unit at xs three e.1 p.1)

pub ready_to : (k : LiveRecords) (unit : ℕ) (at : List ℕ) (xs : List Live) → length at ≡ 3 → Each (IsKept k) xs → Each (IsReady unit at) xs → list_all (λ n. is_ready_at unit at (slot_at k n)) (numbers xs) ≡ true
ready_to k unit at [] three e h = refl
ready_to k unit at (x ∷ xs) three e h =
    and_from (is_ready_at unit at (slot_at k x.number)) (list_all (λ n. is_ready_at unit at (slot_at k n)) (numbers xs))
    (ap (is_ready_at unit at) e.0.there ∙ ready_is unit at e.0.slot x three e.0.is ∙ and_from (x.unit == unit) (has_group x.groups at) ((Decides-eqb x.unit unit).1 h.0.unit_is) h.0.group_is)
    (ready_to k unit at xs three e.1 h.1)

-- numbers that pass the test are there
there_slot : (unit : ℕ) (at : List ℕ) (bag : List Live) (n : ℕ) (o : Option Slot) (p : Option Live) → live_at n bag ≡ p → Matches o p → is_ready_at unit at o ≡ true → IsThere bag n
there_slot unit at bag n None p e m h = absurd (cc)
there_slot unit at bag n (Some s) None e m h = absurd m
there_slot unit at bag n (Some s) (Some r) e m h = record { live = r; there = e }

pub there_from : (shape : Shape) (k : LiveRecords) (unit : ℕ) (at : List ℕ) (bag : List Live) (ns : List ℕ) → Keeps shape k bag → list_all (λ n. is_ready_at unit at (slot_at k n)) ns ≡ true → Each (IsThere bag) ns
there_from shape k unit at bag [] keeps h = tt
there_from shape k unit at bag (n ∷ ns) keeps h =
    let p = and_parts (is_ready_at unit at (slot_at k n)) (list_all (λ n. is_ready_at unit at (slot_at k n)) ns) h in
    (there_slot unit at bag n (slot_at k n) (live_at n bag) refl (keeps.slots n) p.0, there_from shape k unit at bag ns keeps p.1)

first_grid_is : (k : LiveRecords) (n : ℕ) (ns : List ℕ) (xs : List Live) → Each (IsKept k) xs → numbers xs ≡ n ∷ ns → grid_in (slot_at k n) ≡ first_grid xs
first_grid_is k n ns [] e h = absurd (cc)
first_grid_is k n ns (x ∷ xs) e h =
    let same : x.number ≡ n = cc in
    ap (λ (m : ℕ). grid_in (slot_at k m)) (sym same) ∙ ap grid_in e.0.there ∙ e.0.is.grid

fitting_taken : (shape : Shape) (ns : List ℕ) (bag : List Live) → BagFits shape bag → BagFits shape (taken ns bag)
fitting_taken shape ns bag h = each_taken (IsFitting shape) ns bag h

small_first : LieInGrids → (shape : Shape) (unit : ℕ) (at : List ℕ) (n : ℕ) (ns : List ℕ) (xs : List Live) → IsGoodShape shape → numbers xs ≡ n ∷ ns → BagFits shape xs → Each (IsReady unit at) xs → place_of (first_grid xs) at < 2 ^ 32
small_first lie shape unit at n ns [] good some h ready = absurd (cc)
small_first lie shape unit at n ns (x ∷ xs) good some h ready = let p = lie shape x at good h.0 ready.0.group_is in let q = p.0 in let s = p.1 in omega arith

pub length_numbers : (rs : List Record) → length (numbers_of rs) ≡ length rs
length_numbers [] = refl
length_numbers (r ∷ rs) = ap suc (length_numbers rs)

first_of : (ns : List ℕ) (x : ℕ) → Some x ≡ slice_get ns 0 → ns ≡ x ∷ drop 1 ns
first_of [] x h = absurd (cc)
first_of (n ∷ ns) x h = let same : n ≡ x = cc in ap (λ (m : ℕ). m ∷ ns) same

-- what was tested of an entry, and the launch that was built
pub record Built (shape : Shape) (k : LiveRecords) (e : Entry) (l : Launch) : Type 0 where
  pub first : ℕ
  pub first_is : Some first ≡ slice_get e.inputs 0
  pub few : length e.inputs ≤ most_inputs (kind_at shape e.unit)
  pub ready : list_all (λ n. is_ready_at e.unit e.at (slot_at k n)) e.inputs ≡ true
  pub records : l.records ≡ map (record_at k) e.inputs
  pub grid : l.grid ≡ grid_in (slot_at k first)
  pub group : place_of l.grid e.at < 2 ^ 32 → l.group ≡ place_of l.grid e.at
  pub unit : l.unit ≡ e.unit
  pub last : l.last ≡ (shared_at shape e.unit && list_all (λ n. has_one_left (slot_at k n)) e.inputs)

pub found : AreAllowed → LieInGrids → (shape : Shape) (k : LiveRecords) (bag : List Live) (e : Entry) (l : Launch)
    → IsGoodShape shape → length e.at ≡ 3 → NumbersRise 0 e.inputs → Keeps shape k bag → BagFits shape bag → Built shape k e l → IsNamed shape bag e l
found allowed lie shape k bag e l good three rise keeps fits built =
    let rest = drop 1 e.inputs in
    let inputs : e.inputs ≡ built.first ∷ rest = first_of e.inputs built.first built.first_is in
    let xs = taken e.inputs bag in
    let are : numbers xs ≡ e.inputs = taken_are 0 k.next e.inputs bag keeps.rises rise (there_from shape k e.unit e.at bag e.inputs keeps built.ready) in
    let kept = taken_kept shape k e.inputs bag keeps in
    let ready = ready_from k e.unit e.at xs three kept (ap (list_all (λ n. is_ready_at e.unit e.at (slot_at k n))) are ∙ built.ready) in
    let records : l.records ≡ map record_of xs = built.records ∙ ap (map (record_at k)) (sym are) ∙ records_are k xs kept in
    let grid : l.grid ≡ first_grid xs = built.grid ∙ first_grid_is k built.first rest xs kept (are ∙ inputs) in
    let small : place_of l.grid e.at < 2 ^ 32 = subst (λ (g : List ℕ). place_of g e.at < 2 ^ 32) (sym grid) (small_first lie shape e.unit e.at built.first rest xs good (are ∙ inputs) (fitting_taken shape e.inputs bag fits) ready) in
    let group : l.group ≡ place_of (first_grid xs) e.at = built.group small ∙ ap (λ (g : List ℕ). place_of g e.at) grid in
    let last : l.last ≡ is_last shape e.unit xs =
    built.last ∙ ap (λ (b : Bool). shared_at shape e.unit && b) (ap (list_all (λ n. has_one_left (slot_at k n))) (sym are) ∙ last_is k xs kept) in
    let m = launch_in shape bag e.unit e.at e.inputs in
    let made = λ (u : ℕ) (rs : List Record) (p : ℕ) (g : List ℕ) (z : Bool). (let y : Launch = record { unit = u; records = rs; group = p; grid = g; last = z } in y) in
    let same : l ≡ m =
    ap (λ (u : ℕ). made u l.records l.group l.grid l.last) built.unit
    ∙ ap (λ (rs : List Record). made e.unit rs l.group l.grid l.last) records
    ∙ ap (λ (p : ℕ). made e.unit (map record_of xs) p l.grid l.last) group
    ∙ ap (λ (g : List ℕ). made e.unit (map record_of xs) (place_of (first_grid xs) e.at) g l.last) grid
    ∙ ap (λ (z : Bool). made e.unit (map record_of xs) (place_of (first_grid xs) e.at) (first_grid xs) z) last in
    let some : 1 ≤ length e.inputs = (let a = ap (λ (ns : List ℕ). length ns) inputs in omega (arith, a)) in
    subst (IsNamed shape bag e) (sym same) (record {
      unit = refl;
      inputs = are;
      allowed = allowed shape bag e.unit e.at e.inputs fits are some built.few ready;
    })

-- what an entry's launch must be

pub named_numbers : (shape : Shape) (bag : List Live) (e : Entry) (l : Launch) → IsNamed shape bag e l → numbers (taken e.inputs bag) ≡ e.inputs
named_numbers shape bag e l n =
    ap (λ (ns : List ℕ). numbers (taken ns bag)) (sym n.inputs) ∙ sym (ap numbers_of n.allowed.records) ∙ n.inputs

pub named_ready : (shape : Shape) (bag : List Live) (e : Entry) (l : Launch) → IsNamed shape bag e l → Each (IsReady e.unit e.at) (taken e.inputs bag)
named_ready shape bag e l n =
    subst (λ (u : ℕ). Each (IsReady u e.at) (taken e.inputs bag)) n.unit (subst (λ (ns : List ℕ). Each (IsReady l.unit e.at) (taken ns bag)) n.inputs n.allowed.ready)

pub named_some : (shape : Shape) (bag : List Live) (e : Entry) (l : Launch) → IsNamed shape bag e l → 1 ≤ length e.inputs
named_some shape bag e l n = let a = n.allowed.some in let b = length_numbers l.records in let c = ap (λ (ns : List ℕ). length ns) n.inputs in omega (arith, a, b, c)

pub named_few : (shape : Shape) (bag : List Live) (e : Entry) (l : Launch) → IsNamed shape bag e l → length e.inputs ≤ most_inputs (kind_at shape e.unit)
named_few shape bag e l n =
    let a = n.allowed.few in
    let b = length_numbers l.records in
    let c = ap (λ (ns : List ℕ). length ns) n.inputs in
    let d = ap (λ (u : ℕ). most_inputs (kind_at shape u)) n.unit in
    omega (arith, a, b, c, d)

pub named_test : (shape : Shape) (k : LiveRecords) (bag : List Live) (e : Entry) (l : Launch) → length e.at ≡ 3 → Keeps shape k bag → IsNamed shape bag e l → list_all (λ n. is_ready_at e.unit e.at (slot_at k n)) e.inputs ≡ true
named_test shape k bag e l three keeps n =
    let xs = taken e.inputs bag in
    ap (list_all (λ n. is_ready_at e.unit e.at (slot_at k n))) (sym (named_numbers shape bag e l n))
    ∙ ready_to k e.unit e.at xs three (taken_kept shape k e.inputs bag keeps) (named_ready shape bag e l n)

-- no entry names two launches
pub one_named : AreToldByNames → (shape : Shape) (bag : List Live) (e : Entry) (l m : Launch) → IsNamed shape bag e l → IsNamed shape bag e m → l ≡ m
one_named told shape bag e l m n o = is l n ∙ sym (is m o)
  where
    is : (l : Launch) → IsNamed shape bag e l → l ≡ launch_in shape bag e.unit e.at e.inputs
    is l n =
        told shape bag l e.at n.allowed
        ∙ ap (λ (u : ℕ). launch_in shape bag u e.at (numbers_of l.records)) n.unit
        ∙ ap (λ (ns : List ℕ). launch_in shape bag e.unit e.at ns) n.inputs
