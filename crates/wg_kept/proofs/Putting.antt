-- Records put into slots one after another.
use Rattle.std.proofs.Common.{◌≡◌, ℕ, ◌+◌, ◌<◌, ◌≤◌, Bool, true, false, cond, List, [], ◌∷◌, ◌++◌, refl, ap, sym, ◌∙◌, subst, arith}
use Rattle.std.specs.Prelude.{if◌then◌else◌, ◌==◌, slice_index, count_by}
use Rattle.std.proofs.lemmas.Bool.Decides.{nat_tests}
use Rattle.std.proofs.lemmas.List.Sums.{sum_by-cons}
use Rattle.wg_words.specs.Each.{Each}
use Rattle.wg_machine.specs.declared.launch.Sent.{Sent}
use Rattle.wg_machine.specs.declared.shape.Shape.{Shape}
use Rattle.wg_machine.specs.Grids.{grid_of, groups_in}
use Rattle.wg_machine.specs.LaunchMeaning.{Arrives}
use Rattle.wg_machine.specs.Units.{kind_at}
use Rattle.wg_keep.specs.Opening.{IsOpening}
use Rattle.wg_room.specs.Counts.{Counts}
use Rattle.wg_store.specs.declared.item.Item.{Item}
use Rattle.wg_store.specs.Items.{born_items, has_groups, item_of}
use Rattle.wg_hold.specs.Held.{Held, count_of}
use Rattle.wg_kept.specs.Moves.{CanPut, HasFewGroups, ItemsBecome}
use Rattle.wg_kept.proofs.Finding.{each_join, each_map}

pub count_cons : {X : Type 0} → (p : X → Bool) (x : X) (xs : List X) → count_by p (x ∷ xs) ≡ (if p x then 1 else 0) + count_by p xs
count_cons p x xs = sum_by-cons (λ y. cond (p y) 1 0) x xs

-- tests that are equal count alike
pub counted_as : (a b : Bool) → a ≡ b → ◌≡◌ {A = ℕ} (if a then 1 else 0) (if b then 1 else 0)
counted_as a b e = ap {B = ℕ} (λ (t : Bool). if t then 1 else 0) e

pub count_append : {X : Type 0} → (p : X → Bool) (xs ys : List X) → count_by p (xs ++ ys) ≡ count_by p xs + count_by p ys
count_append p [] ys = omega arith
count_append p (x ∷ xs) ys =
    let a = count_cons p x xs in
    let b = count_cons p x (xs ++ ys) in
    let c = count_append p xs ys in omega (arith, a, b, c)

pub append_assoc : (xs ys zs : List Item) → (xs ++ ys) ++ zs ≡ xs ++ (ys ++ zs)
append_assoc [] ys zs = refl
append_assoc (x ∷ xs) ys zs = ap (λ (rest : List Item). x ∷ rest) (append_assoc xs ys zs)

pub nil_right : (xs : List Item) → xs ++ [] ≡ xs
nil_right [] = refl
nil_right (x ∷ xs) = ap (λ (rest : List Item). x ∷ rest) (nil_right xs)

-- the first record that comes to be and the others
pub born_parts : (shape : Shape) (n : ℕ) (s : Sent) (sent : List Sent) → born_items shape n (s ∷ sent) ≡ born_items shape n (s ∷ []) ++ born_items shape (n + 1) sent
born_parts shape n s sent = go (has_groups shape s)
  where
    go : (b : Bool) → (if b then item_of shape n s ∷ born_items shape (n + 1) sent else born_items shape (n + 1) sent) ≡ (if b then item_of shape n s ∷ [] else []) ++ born_items shape (n + 1) sent
    go true = refl
    go false = refl

-- a record that comes to be is one more of its unit at most
born_count : (shape : Shape) (n v : ℕ) (s : Sent) → count_of v (born_items shape n (s ∷ [])) ≤ (if s.unit == v then 1 else 0)
born_count shape n v s = go (has_groups shape s)
  where
    go : (b : Bool) → count_of v (if b then item_of shape n s ∷ [] else []) ≤ (if s.unit == v then 1 else 0)
    go true = let c = count_cons (λ (x : Item). x.unit == v) (item_of shape n s) [] in omega (arith, c)
    go false = omega arith

born_above : (shape : Shape) (n : ℕ) (s : Sent) → Each (λ (x : Item). x.number < n + 1) (born_items shape n (s ∷ []))
born_above shape n s = go (has_groups shape s)
  where
    go : (b : Bool) → Each (λ (x : Item). x.number < n + 1) (if b then item_of shape n s ∷ [] else [])
    go true = (omega arith, tt)
    go false = tt

-- the records that are left may be put after the first
pub put_next : (h g : Held) (n : ℕ) (s : Sent) (sent : List Sent) → CanPut h n (s ∷ sent) → ItemsBecome h g (h.items ++ born_items h.shape n (s ∷ [])) → CanPut g (n + 1) sent
put_next h g n s sent can new =
    let old : Held = h in
    let items = h.items ++ born_items h.shape n (s ∷ []) in
    record {
      above = subst (Each (λ (x : Item). x.number < n + 1)) (sym new.items)
          (each_join (λ (x : Item). x.number < n + 1) h.items (born_items h.shape n (s ∷ [])) (each_map (λ (x : Item). x.number < n) (λ (x : Item). x.number < n + 1) h.items (λ x b. omega (arith, b)) can.above) (born_above h.shape n s));
      arrive = subst (λ (shape : Shape). Each (Arrives shape) sent) (sym new.shape) can.arrive.1;
      few = subst (λ (shape : Shape). Each (HasFewGroups shape) sent) (sym new.shape) can.few.1;
      free = λ v. (
          let a = count_append (λ (x : Item). x.unit == v) h.items (born_items h.shape n (s ∷ [])) in
          let b = born_count h.shape n v s in
          let c = count_cons (λ (t : Sent). t.unit == v) s sent in
          let d = can.free v in
          let e = ap (count_of v) new.items in
          let f = ap (λ (c : Counts). slice_index c.bounds v) new.room in
          omega (arith, a, b, c, d, e, f)
          );
      fits = (let f = can.fits in omega (arith, f));
    }

-- the first record has a slot
pub put_free : (h : Held) (n : ℕ) (s : Sent) (sent : List Sent) → CanPut h n (s ∷ sent) → count_of s.unit h.items < slice_index h.room.bounds s.unit
put_free h n s sent can =
    let c = count_cons (λ (t : Sent). t.unit == s.unit) s sent in
    let d = can.free s.unit in
    let q : (s.unit == s.unit) ≡ true = grind (arith, nat_tests) in
    let one = counted_as (s.unit == s.unit) true q in
    omega (arith, c, d, one)

-- the records so far with those that are left are all
pub put_more : (h g : Held) (all : List Item) (n : ℕ) (s : Sent) (sent : List Sent) → h.items ++ born_items h.shape n (s ∷ sent) ≡ all → ItemsBecome h g (h.items ++ born_items h.shape n (s ∷ [])) → g.items ++ born_items g.shape (n + 1) sent ≡ all
put_more h g all n s sent so_far new =
    ap (λ (xs : List Item). xs ++ born_items g.shape (n + 1) sent) new.items
    ∙ ap (λ (shape : Shape). (h.items ++ born_items h.shape n (s ∷ [])) ++ born_items shape (n + 1) sent) new.shape
    ∙ append_assoc h.items (born_items h.shape n (s ∷ [])) (born_items h.shape (n + 1) sent)
    ∙ ap (λ (xs : List Item). h.items ++ xs) (sym (born_parts h.shape n s sent))
    ∙ so_far

pub room_on : (a b c : Counts) → b ≡ record a { used = b.used } → c ≡ record b { used = c.used } → c ≡ record a { used = c.used }
room_on a b c e f = f ∙ ap (λ (x : Counts). (let y : Counts = record x { used = c.used } in y)) e

-- a record that comes to be and has a group
pub born_one : (shape : Shape) (n : ℕ) (s : Sent) → has_groups shape s ≡ true → born_items shape n (s ∷ []) ≡ item_of shape n s ∷ []
born_one shape n s e = rw e refl

pub born_none : (shape : Shape) (n : ℕ) (s : Sent) → has_groups shape s ≡ false → born_items shape n (s ∷ []) ≡ []
born_none shape n s e = rw e refl

-- where those with a group have few, all have
pub few_born : (shape : Shape) (n : ℕ) (sent : List Sent) → Each (λ (x : Item). IsOpening x.opening) (born_items shape n sent) → Each (HasFewGroups shape) sent
few_born shape n [] each = tt
few_born shape n (s ∷ sent) each = go (has_groups shape s) refl each (few_born shape (n + 1) sent)
  where
    go : (b : Bool) → has_groups shape s ≡ b → Each (λ (x : Item). IsOpening x.opening) (if b then item_of shape n s ∷ born_items shape (n + 1) sent else born_items shape (n + 1) sent) → (Each (λ (x : Item). IsOpening x.opening) (born_items shape (n + 1) sent) → Each (HasFewGroups shape) sent) → HasFewGroups shape s × Each (HasFewGroups shape) sent
    go true e here rest = (here.0.few, rest here.1)
    go false e here rest = ((let none : groups_in (grid_of (kind_at shape s.unit) s.words) ≡ 0 = grind (arith, nat_tests) in omega (arith, none)), rest here)
