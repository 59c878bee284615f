-- The entries of a run name groups of their records' grids.
use Rattle.std.proofs.Common.{◌≡◌, ℕ, zero, suc, ◌+◌, ◌≤◌, Bool, true, false, ◌&&◌, ◌||◌, List, [], ◌∷◌, length, map, refl, ap, subst, arith}
use Rattle.std.specs.Prelude.{◌==◌, Contains, slice_index}
use Rattle.std.specs.List.{flat_map, range_with_len}
use Rattle.std.proofs.lemmas.Bool.{and_parts}
use Rattle.std.proofs.lemmas.Bool.Decides.{nat_tests, Decides-eqb}
use Rattle.wg_words.specs.Each.{Each}
use Rattle.wg_machine.specs.declared.shape.Shape.{Shape}
use Rattle.wg_machine.specs.declared.launch.Entry.{Entry}
use Rattle.wg_machine.specs.declared.launch.Record.{Record}
use Rattle.wg_machine.specs.declared.launch.Sent.{Sent}
use Rattle.wg_machine.specs.Buffers.{Buffers}
use Rattle.wg_machine.specs.Grids.{grid_of, groups_of, has_group, same_group}
use Rattle.wg_machine.specs.LaunchMeaning.{Meaning}
use Rattle.wg_machine.specs.Run.{IsRun, NamesGroup, all_born, groups_at}
use Rattle.wg_machine.specs.State.{State, born, start}
use Rattle.wg_machine.specs.Step.{Passed, has_number, numbers_of}
use Rattle.wg_machine.specs.Units.{kind_at}
use Rattle.wg_machine.proofs.Counts.{any_contained, any_counted, each_contained}
use Rattle.wg_machine.proofs.Fits.{each_append}
use Rattle.wg_machine.proofs.Groups.{times_has}
use Rattle.wg_machine.proofs.Once.{at_most_once}

each_of : {X : Type 0} (P : X → Type 0) (xs : List X) → ((x : X) → Contains xs x → P x) → Each P xs
each_of P [] h = tt
each_of {X = X} P (x ∷ xs) h = (h x (0, omega arith, refl), each_of P xs (λ y c. h y (suc c.0, (let l = c.1 in omega arith), c.2)))

-- the groups of a grid have three coordinates

abbrev HasThree : List ℕ → Type 0
HasThree g = length g ≡ 3

three_flat : (f : ℕ → List (List ℕ)) (a n : ℕ) → ((k : ℕ) → Each HasThree (f k)) → Each HasThree (flat_map f (range_with_len a n))
three_flat f a zero h = tt
three_flat f a (suc n) h = each_append HasThree (f a) (flat_map f (range_with_len (a + 1) n)) (h a) (three_flat f (a + 1) n h)

three_row : (y z a n : ℕ) → Each HasThree (map (λ (x : ℕ). x ∷ y ∷ z ∷ []) (range_with_len a n))
three_row y z a zero = tt
three_row y z a (suc n) = (refl, three_row y z (a + 1) n)

three : (grid : List ℕ) → Each HasThree (groups_of grid)
three grid = three_flat _ 0 (slice_index grid 2) (λ z. three_flat _ 0 (slice_index grid 1) (λ y. three_row y z 0 (slice_index grid 0)))

three_born : (shape : Shape) (k i : ℕ) (ss : List Sent) → Each HasThree (groups_at (born shape k ss) i)
three_born shape k i [] = tt
three_born shape k zero (s ∷ ss) = three (grid_of (kind_at shape s.unit) s.words)
three_born shape k (suc i) (s ∷ ss) = three_born shape (k + 1) i ss

-- what is the same as a group of three coordinates is that group

same_numbers : (x y z a b c : ℕ) → same_group (x ∷ y ∷ z ∷ []) (a ∷ b ∷ c ∷ []) ≡ true → x ∷ y ∷ z ∷ [] ≡ a ∷ b ∷ c ∷ []
same_numbers x y z a b c h =
    let p = and_parts ((x == a) && (y == b)) (z == c) h in
    let q = and_parts (x == a) (y == b) p.0 in
    let e = (Decides-eqb x a).0 q.0 in
    let f = (Decides-eqb y b).0 q.1 in
    let g = (Decides-eqb z c).0 p.1 in
    cc

as_many : (g at : List ℕ) → same_group g at ≡ true → length g ≡ length at
as_many g at h = grind (arith, nat_tests)

same_three : (g at : List ℕ) → HasThree g → same_group g at ≡ true → g ≡ at
same_three [] at h s = absurd (omega (arith, h))
same_three (x ∷ []) at h s = absurd (omega (arith, h))
same_three (x ∷ y ∷ []) at h s = absurd (omega (arith, h))
same_three (x ∷ y ∷ z ∷ w ∷ g) at h s = absurd (omega (arith, h))
same_three (x ∷ y ∷ z ∷ []) [] h s = absurd (let e = as_many (x ∷ y ∷ z ∷ []) [] s in omega (arith, e))
same_three (x ∷ y ∷ z ∷ []) (a ∷ []) h s = absurd (let e = as_many (x ∷ y ∷ z ∷ []) (a ∷ []) s in omega (arith, e))
same_three (x ∷ y ∷ z ∷ []) (a ∷ b ∷ []) h s = absurd (let e = as_many (x ∷ y ∷ z ∷ []) (a ∷ b ∷ []) s in omega (arith, e))
same_three (x ∷ y ∷ z ∷ []) (a ∷ b ∷ c ∷ []) h s = same_numbers x y z a b c s
same_three (x ∷ y ∷ z ∷ []) (a ∷ b ∷ c ∷ d ∷ at) h s = absurd (let e = as_many (x ∷ y ∷ z ∷ []) (a ∷ b ∷ c ∷ d ∷ at) s in omega (arith, e))

-- a group that is among groups of three coordinates is one of them
contained : (groups : List (List ℕ)) (at : List ℕ) → Each HasThree groups → has_group groups at ≡ true → HasThree at × Contains groups at
contained [] at each h = absurd (cc)
contained (g ∷ groups) at each h = choice (λ k. contained groups at each.1 k) (same_group g at) refl h
  where
    choice : (has_group groups at ≡ true → HasThree at × Contains groups at) → (b : Bool) → same_group g at ≡ b → (b || has_group groups at) ≡ true → HasThree at × Contains (g ∷ groups) at
    choice ih true e h =
        let f = same_three g at each.0 e in
        (subst HasThree f each.0, (0, omega arith, f))
    choice ih false e h =
        let r = ih h in
        (r.0, (suc r.1.0, (let l = r.1.1 in omega arith), r.1.2))

-- an entry of a run takes some records

count_numbers : (rs : List Record) → length (numbers_of rs) ≡ length rs
count_numbers [] = refl
count_numbers (r ∷ rs) = ap suc (count_numbers rs)

some_taken : (shape : Shape) (made : Meaning) (turns : ℕ) (s : State) (entries : List Entry) (trail : List Passed) (final : State) → IsRun shape made turns s entries trail final → Each (λ (e : Entry). 1 ≤ length e.inputs) entries
some_taken shape made turns s [] trail final run = tt
some_taken shape made turns s (e ∷ entries) [] final run = absurd run
some_taken shape made turns s (e ∷ entries) (p ∷ trail) final run =
    let some = run.0.allowed.some in
    let c = count_numbers p.launch.records in
    let n = ap (λ (x : Entry). length x.inputs) run.0.names in
    (omega (arith, some, c, n), some_taken shape made turns p.after entries trail final run.1)

number_itself : (numbers : List ℕ) (r : ℕ) → Contains numbers r → has_number numbers r ≡ true
number_itself numbers r c = any_contained (λ m. m == r) numbers r c (grind (arith, nat_tests))

both_true : (a b : Bool) → a ≡ true → b ≡ true → (a && b) ≡ true
both_true true b h k = k
both_true false b h k = absurd (cc)

-- a record that an entry takes has the entry's group
of_record : (shape : Shape) (made : Meaning) (turns : ℕ) (script : List Sent) (buffers : Buffers) (entries : List Entry) (trail : List Passed) (final : State) → IsRun shape made turns (start shape script buffers) entries trail final
    → (e : Entry) → Contains entries e → (r : ℕ) → Contains e.inputs r → HasThree e.at × Contains (groups_at (all_born shape script trail) r) e.at
of_record shape made turns script buffers entries trail final run e is_entry r is_input =
    let all = all_born shape script trail in
    let passes : (same_group e.at e.at && has_number e.inputs r) ≡ true = both_true (same_group e.at e.at) (has_number e.inputs r) (grind (arith, nat_tests)) (number_itself e.inputs r is_input) in
    let some = any_counted (λ (x : Entry). same_group x.at e.at && has_number x.inputs r) entries (any_contained (λ (x : Entry). same_group x.at e.at && has_number x.inputs r) entries e is_entry passes) in
    let most = at_most_once shape made turns script buffers entries trail final run r e.at in
    contained (groups_at all r) e.at (three_born shape 0 r _) (times_has (groups_at all r) e.at (omega (arith, some, most)))

first_input : (inputs : List ℕ) → 1 ≤ length inputs → (r : ℕ) × Contains inputs r
first_input [] h = absurd (omega arith)
first_input (r ∷ inputs) h = (r, (0, omega arith, refl))

pub named_groups : (shape : Shape) (made : Meaning) (turns : ℕ) (script : List Sent) (buffers : Buffers) (entries : List Entry) (trail : List Passed) (final : State) → IsRun shape made turns (start shape script buffers) entries trail final
    → Each (NamesGroup (all_born shape script trail)) entries
named_groups shape made turns script buffers entries trail final run =
    each_of (NamesGroup (all_born shape script trail)) entries (λ e c.
    (let of = of_record shape made turns script buffers entries trail final run e c in
    let some = first_input e.inputs (each_contained (λ (x : Entry). 1 ≤ length x.inputs) entries e c (some_taken shape made turns (start shape script buffers) entries trail final run)) in
    record {
      three = (of some.0 some.1).0;
      of_each = each_of (λ r. Contains (groups_at (all_born shape script trail) r) e.at) e.inputs (λ r d. (of r d).1);
    }))
