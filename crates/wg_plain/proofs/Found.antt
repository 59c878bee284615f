-- The launch that an entry names.
use Rattle.std.proofs.Common.{◌≡◌, ℕ, zero, suc, ◌<◌, ◌≤◌, ◌^◌, Bool, true, false, ◌&&◌, ◌||◌, not, List, [], ◌∷◌, length, map, refl, ap, sym, ◌∙◌, subst, arith}
use Rattle.std.specs.Prelude.{if◌then◌else◌, ◌==◌}
use Rattle.std.specs.List.{list_all}
use Rattle.std.proofs.lemmas.Bool.{and_parts}
use Rattle.std.proofs.lemmas.Bool.Decides.{Decides-eqb}
use Rattle.wg_words.specs.Each.{Each}
use Rattle.wg_machine.specs.declared.shape.Shape.{Shape}
use Rattle.wg_machine.specs.declared.launch.Record.{Record}
use Rattle.wg_machine.specs.declared.launch.Launch.{Launch}
use Rattle.wg_machine.specs.declared.launch.Live.{Live}
use Rattle.wg_machine.specs.declared.launch.Entry.{Entry}
use Rattle.wg_machine.specs.Fitting.{BagFits}
use Rattle.wg_machine.specs.GoodShape.{IsGoodShape}
use Rattle.wg_machine.specs.Grids.{place_of, has_group}
use Rattle.wg_machine.specs.Step.{IsReady, first_grid, is_last, launch_in, numbers_of, record_of, taken, has_number}
use Rattle.wg_machine.specs.Units.{kind_at, most_inputs}
use Rattle.wg_plain.specs.Named.{all_taken, is_ready, IsNamed}
use Rattle.wg_plain.proofs.Told.{AreToldByNames, AreAllowed, LieInGrids}

one_ready : (unit : ℕ) (at : List ℕ) (r : Live) → is_ready unit at r ≡ true → IsReady unit at r
one_ready unit at r h =
    let p = and_parts (r.unit == unit) (has_group r.groups at) h in
    record { unit_is = (Decides-eqb r.unit unit).0 p.0; group_is = p.1 }

both : (a b : Bool) → a ≡ true → b ≡ true → (a && b) ≡ true
both true b h k = k
both false b h k = absurd (cc)

ready_one : (unit : ℕ) (at : List ℕ) (r : Live) → IsReady unit at r → is_ready unit at r ≡ true
ready_one unit at r h = both (r.unit == unit) (has_group r.groups at) ((Decides-eqb r.unit unit).1 h.unit_is) h.group_is

-- a test of the records with some numbers is a test of those that are taken
pub tests_taken : (passes : Live → Bool) (numbers : List ℕ) (bag : List Live) → all_taken passes numbers bag ≡ list_all passes (taken numbers bag)
tests_taken passes numbers [] = refl
tests_taken passes numbers (r ∷ bag) = choice (has_number numbers r.number) (tests_taken passes numbers bag)
  where
    choice : (b : Bool) → all_taken passes numbers bag ≡ list_all passes (taken numbers bag) → ((not b || passes r) && all_taken passes numbers bag) ≡ list_all passes (if b then r ∷ taken numbers bag else taken numbers bag)
    choice true ih = ap (λ (t : Bool). passes r && t) ih
    choice false ih = ih

all_ready : (unit : ℕ) (at : List ℕ) (T : List Live) → list_all (is_ready unit at) T ≡ true → Each (IsReady unit at) T
all_ready unit at [] h = tt
all_ready unit at (r ∷ T) h =
    let p = and_parts (is_ready unit at r) (list_all (is_ready unit at) T) h in
    (one_ready unit at r p.0, all_ready unit at T p.1)

ready_all : (unit : ℕ) (at : List ℕ) (T : List Live) → Each (IsReady unit at) T → list_all (is_ready unit at) T ≡ true
ready_all unit at [] h = refl
ready_all unit at (r ∷ T) h = both (is_ready unit at r) (list_all (is_ready unit at) T) (ready_one unit at r h.0) (ready_all unit at T h.1)

-- the test says what is ready
pub ready : (numbers : List ℕ) (unit : ℕ) (at : List ℕ) (bag : List Live) → all_taken (is_ready unit at) numbers bag ≡ true → Each (IsReady unit at) (taken numbers bag)
ready numbers unit at bag h = all_ready unit at (taken numbers bag) (sym (tests_taken (is_ready unit at) numbers bag) ∙ h)

-- what an entry's launch must be

pub named_ready : (shape : Shape) (bag : List Live) (e : Entry) (l : Launch) → IsNamed shape bag e l → all_taken (is_ready e.unit e.at) e.inputs bag ≡ true
named_ready shape bag e l n =
    let a = n.allowed in
    tests_taken (is_ready e.unit e.at) e.inputs bag
    ∙ ready_all e.unit e.at (taken e.inputs bag)
    (subst (λ (u : ℕ). Each (IsReady u e.at) (taken e.inputs bag)) n.unit (subst (λ (ns : List ℕ). Each (IsReady l.unit e.at) (taken ns bag)) n.inputs a.ready))

named_is : AreToldByNames → (shape : Shape) (bag : List Live) (e : Entry) (l : Launch) → IsNamed shape bag e l → l ≡ launch_in shape bag e.unit e.at e.inputs
named_is told shape bag e l n =
    told shape bag l e.at n.allowed
    ∙ ap (λ (u : ℕ). launch_in shape bag u e.at (numbers_of l.records)) n.unit
    ∙ ap (λ (ns : List ℕ). launch_in shape bag e.unit e.at ns) n.inputs

-- no entry names two launches
pub one_named : AreToldByNames → (shape : Shape) (bag : List Live) (e : Entry) (l m : Launch) → IsNamed shape bag e l → IsNamed shape bag e m → l ≡ m
one_named told shape bag e l m n o = named_is told shape bag e l n ∙ sym (named_is told shape bag e m o)

-- the group of the launch that an entry may name has a number of 32 bits

fitting_taken : (shape : Shape) (numbers : List ℕ) (bag : List Live) → BagFits shape bag → BagFits shape (taken numbers bag)
fitting_taken shape numbers [] h = tt
fitting_taken shape numbers (r ∷ bag) h = choice (fitting_taken shape numbers bag h.1) (has_number numbers r.number)
  where
    choice : BagFits shape (taken numbers bag) → (b : Bool) → BagFits shape (if b then r ∷ taken numbers bag else taken numbers bag)
    choice ih true = (h.0, ih)
    choice ih false = ih

small_first : LieInGrids → (shape : Shape) (unit : ℕ) (at : List ℕ) (T : List Live) → IsGoodShape shape → 1 ≤ length (map record_of T) → BagFits shape T → Each (IsReady unit at) T → place_of (first_grid T) at < 2 ^ 32
small_first lie shape unit at [] good some h ready = absurd (omega arith)
small_first lie shape unit at (r ∷ T) good some h ready = let p = lie shape r at good h.0 ready.0.group_is in let q = p.0 in let s = p.1 in omega arith

pub length_numbers : (rs : List Record) → length (numbers_of rs) ≡ length rs
length_numbers [] = refl
length_numbers (r ∷ rs) = ap suc (length_numbers rs)

pub small_place : LieInGrids → (shape : Shape) (bag : List Live) (e : Entry) → IsGoodShape shape → BagFits shape bag → 1 ≤ length e.inputs → all_taken (is_ready e.unit e.at) e.inputs bag ≡ true
    → numbers_of (map record_of (taken e.inputs bag)) ≡ e.inputs → place_of (first_grid (taken e.inputs bag)) e.at < 2 ^ 32
small_place lie shape bag e good fits some test numbers =
    let T = taken e.inputs bag in
    let a = ap (λ (ns : List ℕ). length ns) numbers in
    let b = length_numbers (map record_of T) in
    small_first lie shape e.unit e.at T good (omega arith) (fitting_taken shape e.inputs bag fits) (ready e.inputs e.unit e.at bag test)

pub found : AreAllowed → (shape : Shape) (bag : List Live) (e : Entry) (l : Launch) → BagFits shape bag → 1 ≤ length e.inputs → length e.inputs ≤ most_inputs (kind_at shape e.unit) → all_taken (is_ready e.unit e.at) e.inputs bag ≡ true
    → l.records ≡ map record_of (taken e.inputs bag) → numbers_of l.records ≡ e.inputs → l.grid ≡ first_grid (taken e.inputs bag)
    → l.unit ≡ e.unit → l.group ≡ place_of l.grid e.at → l.last ≡ is_last shape e.unit (taken e.inputs bag) → IsNamed shape bag e l
found allowed shape bag e l fits some few test is numbers grid unit group last =
    let T = taken e.inputs bag in
    let m = launch_in shape bag e.unit e.at e.inputs in
    let made = λ (u : ℕ) (rs : List Record) (p : ℕ) (g : List ℕ) (z : Bool). (let k : Launch = record { unit = u; records = rs; group = p; grid = g; last = z } in k) in
    let same : l ≡ m =
    ap (λ (u : ℕ). made u l.records l.group l.grid l.last) unit
    ∙ ap (λ (rs : List Record). made e.unit rs l.group l.grid l.last) is
    ∙ ap (λ (p : ℕ). made e.unit (map record_of T) p l.grid l.last) (group ∙ ap (λ (g : List ℕ). place_of g e.at) grid)
    ∙ ap (λ (g : List ℕ). made e.unit (map record_of T) (place_of (first_grid T) e.at) g l.last) grid
    ∙ ap (λ (z : Bool). made e.unit (map record_of T) (place_of (first_grid T) e.at) (first_grid T) z) last in
    let count = sym (ap numbers_of is) ∙ numbers in
    subst (IsNamed shape bag e) (sym same) (record {
      unit = refl;
      inputs = count;
      allowed = allowed shape bag e.unit e.at e.inputs fits count some few (ready e.inputs e.unit e.at bag test);
    })

pub not_none : (n m : ℕ) → false ≡ (n == 0) → n ≡ m → 1 ≤ m
not_none zero m h e = absurd (cc)
not_none (suc n) m h e = omega arith
