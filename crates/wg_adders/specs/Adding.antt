-- What the adders do, and that they keep to the laws of a launch.
use Rattle.std.specs.Prelude.{◌≡◌, if◌then◌else◌, ℕ, ◌≤◌, ◌<◌, ◌==◌, ◌+◌, Bool, true, false, List, [], ◌∷◌, length, slice_index, slice_get, slice_set, Option, Some, None, replicate, count_by, unwrap_or}
use Rattle.std.specs.Option.{option_and_then}
use Rattle.std.proofs.Common.{arith, refl, ap, zero, suc, subst, sym, ◌∙◌, cond, Contains}
use Rattle.std.proofs.lemmas.List.Sums.{sum_by-cons}
use Rattle.std.proofs.lemmas.Bool.Decides.{Decides-eqb}
use Rattle.std.proofs.lemmas.List.{length-set, length-replicate}
use Rattle.wg_words.specs.Each.{Each}
use Rattle.wg_machine.specs.declared.shape.Output.{Output}
use Rattle.wg_machine.specs.declared.shape.Shape.{Shape}
use Rattle.wg_machine.specs.declared.shape.Unit.{Unit}
use Rattle.wg_machine.specs.declared.launch.Launch.{Launch}
use Rattle.wg_machine.specs.declared.launch.Record.{Record}
use Rattle.wg_machine.specs.declared.launch.Sent.{Sent}
use Rattle.wg_machine.specs.declared.memory.Write.TheVariants.{Add}
use Rattle.wg_machine.specs.Buffers.{Buffers, lengths_of, buffer_at, written}
use Rattle.wg_machine.specs.GoodShape.{IsGoodShape, IsGoodOutput, IsGoodElement, IsBetween}
use Rattle.wg_machine.specs.LaunchMeaning.{Meaning, Outcome, Arrives, FitsShape, HasNewWords, KeepsBudgets, KeepsLaws}
use Rattle.wg_machine.specs.Units.{words_at, shared_at}

abbrev pub first_word : List Record → ℕ
first_word [] = 0
first_word (r ∷ rs) = slice_index r.words 0

abbrev pub first_words : List Record → List ℕ
first_words [] = []
first_words (r ∷ rs) = r.words

-- a record whose words its groups share keeps them
abbrev pub same_words : Shape → Launch → Option (List ℕ)
same_words shape l = if shared_at shape l.unit then Some (first_words l.records) else None

abbrev pub first_element : Output → Option ℕ
first_element o = unwrap_or (slice_get o.elements 0) None

-- the target of the first element of the first output
abbrev pub target_within : Unit → Option ℕ
target_within u = option_and_then first_element (slice_get u.outputs 0)

abbrev pub adder_target : Shape → ℕ → Option ℕ
adder_target shape unit = option_and_then target_within (slice_get shape.units unit)

-- a record of the target's words, each of them the word
abbrev pub adder_sends : Shape → Option ℕ → ℕ → List Sent
adder_sends shape None word = []
adder_sends shape (Some t) word = record { unit = t; words = replicate (words_at shape t) word } ∷ []

abbrev pub adder_outcome : Shape → Launch → Buffers → Outcome
adder_outcome shape l m =
    record { sent = adder_sends shape (adder_target shape l.unit) (first_word l.records); denied = 0; turns = 0; buffers = written m (Add 0 0 (first_word l.records)); shared = same_words shape l }

abbrev pub adder_made : Shape → Meaning
adder_made shape l m turns = Some (adder_outcome shape l m)

lengths_set : (m : Buffers) (c : ℕ) (y : List ℕ) → length y ≡ length (buffer_at m c) → lengths_of (slice_set m c y) ≡ lengths_of m
lengths_set [] c y h = refl
lengths_set (z ∷ m) zero y h = ap (λ (n : ℕ). n ∷ lengths_of m) h
lengths_set (z ∷ m) (suc c) y h = ap (λ (ns : List ℕ). length z ∷ ns) (lengths_set m c y h)

-- a word that is set or added to leaves the lengths
pub lengths_stay : (m : Buffers) (v : ℕ) → lengths_of (slice_set m 0 (slice_set (buffer_at m 0) 0 v)) ≡ lengths_of m
lengths_stay m v = lengths_set m 0 _ (length-set (buffer_at m 0) 0 v)

there : (units : List Unit) (t : ℕ) (n : Unit) → slice_get units t ≡ Some n → t < length units
there [] t n e = absurd (cc)
there (u ∷ units) zero n e = omega arith
there (u ∷ units) (suc t) n e = let h = there units t n e in omega arith

some_at : (ns : List ℕ) (k : ℕ) → k < length ns → Each (IsBetween 1 256) ns → 1 ≤ slice_index ns k
some_at [] k l g = absurd (omega arith)
some_at (n ∷ ns) zero l g = g.0.low
some_at (n ∷ ns) (suc k) l g = some_at ns k (omega arith) g.1

-- one record through a budget is within it
one_through : (b k : ℕ) (budgets : List ℕ) → k < length budgets → Each (IsBetween 1 256) budgets → count_by (λ c. c == b) (k ∷ []) ≤ slice_index budgets b
one_through b k budgets h good = choice (k == b) refl (sum_by-cons (λ c. cond (c == b) 1 0) k [])
  where
    choice : (t : Bool) → (k == b) ≡ t → count_by (λ c. c == b) (k ∷ []) ≡ cond (k == b) 1 0 + 0 → count_by (λ c. c == b) (k ∷ []) ≤ slice_index budgets b
    choice true e c =
        let l = subst (λ i. 1 ≤ slice_index budgets i) ((Decides-eqb k b).0 e) (some_at budgets k h good) in
        let d = subst (λ t. count_by (λ c. c == b) (k ∷ []) ≡ cond t 1 0 + 0) e c in
        omega (arith, d, l)
    choice false e c =
        let d = subst (λ t. count_by (λ c. c == b) (k ∷ []) ≡ cond t 1 0 + 0) e c in
        omega (arith, d)

first_in : {X : Type 0} → (xs : List X) (x : X) (rest : List X) → xs ≡ x ∷ rest → Contains xs x
first_in {X = X} xs x rest e = subst (λ (ys : List X). Contains ys x) (sym e) (0, omega arith, refl)

-- what the adders send keeps the budgets of a unit of a good shape, and arrives
record Fine (shape : Shape) (u : Unit) (t : Option ℕ) (word : ℕ) : Type 0 where
  pub arrive : Each (Arrives shape) (adder_sends shape t word)
  pub budgets : KeepsBudgets u (adder_sends shape t word)

none_fine : (shape : Shape) (u : Unit) (word : ℕ) → Fine shape u None word
none_fine shape u word = record { arrive = tt; budgets = record { through = []; each_goes = tt; few = λ b. (omega arith) } }

element_fine : (shape : Shape) (u : Unit) (o : Output) (word : ℕ) (rest : List Output) → u.outputs ≡ o ∷ rest → Each (IsBetween 1 256) u.budgets → IsGoodOutput shape u o → (elements : List (Option ℕ)) → o.elements ≡ elements → Each (IsGoodElement shape u o) elements → Fine shape u (unwrap_or (slice_get elements 0) None) word
element_fine shape u o word rest has budgets good [] e each = none_fine shape u word
element_fine shape u o word rest has budgets good (None ∷ elements) e each = none_fine shape u word
element_fine shape u o word rest has budgets good (Some t ∷ elements) e each =
    record {
      arrive = (record { unit = there shape.units t each.0.target each.0.there; words = length-replicate (words_at shape t) word }, tt);
      budgets = record {
        through = o.budget ∷ [];
        each_goes = (
          record {
            output = o;
            has_output = first_in u.outputs o rest has;
            on_budget = refl;
            targets = first_in o.elements (Some t) elements e;
          },
          tt,
        );
        few = λ b. one_through b o.budget u.budgets good.budget budgets;
      };
    }

output_fine : (shape : Shape) (u : Unit) (word : ℕ) → Each (IsBetween 1 256) u.budgets → (outputs : List Output) → u.outputs ≡ outputs → Each (IsGoodOutput shape u) outputs → Fine shape u (option_and_then first_element (slice_get outputs 0)) word
output_fine shape u word budgets [] e each = none_fine shape u word
output_fine shape u word budgets (o ∷ outputs) e each = element_fine shape u o word outputs e budgets each.0 o.elements refl each.0.elements

unit_there : (units : List Unit) (u : ℕ) → u < length units → (n : Unit) × (slice_get units u ≡ Some n)
unit_there [] u h = absurd (omega arith)
unit_there (n ∷ units) zero h = (n, refl)
unit_there (n ∷ units) (suc u) h = unit_there units u (omega arith)

-- the words that a record keeps are as many as its unit's
pub same_words_new : (shape : Shape) (l : Launch) → FitsShape shape l → HasNewWords (shared_at shape l.unit) (words_at shape l.unit) (same_words shape l)
same_words_new shape l fits = choice (shared_at shape l.unit)
  where
    first : (rs : List Record) → 1 ≤ length rs → Each (λ (r : Record). length r.words ≡ words_at shape l.unit) rs → length (first_words rs) ≡ words_at shape l.unit
    first [] some each = absurd (omega arith)
    first (r ∷ rs) some each = each.0

    choice : (b : Bool) → HasNewWords b (words_at shape l.unit) (if b then Some (first_words l.records) else None)
    choice true = first l.records fits.some fits.words
    choice false = tt

pub adder_lawful : (shape : Shape) (l : Launch) (m : Buffers) (turns : ℕ) → IsGoodShape shape → FitsShape shape l → KeepsLaws shape l m turns (adder_outcome shape l m)
adder_lawful shape l m turns good fits =
    let there = unit_there shape.units l.unit fits.unit in
    let u = there.0 in
    let word = first_word l.records in
    let g = good.units l.unit u there.1 in
    let fine : Fine shape u (adder_target shape l.unit) word = subst (λ (n : Option Unit). Fine shape u (option_and_then target_within n) word) (sym there.1) (output_fine shape u word g.budgets u.outputs refl g.outputs) in
    record {
      turns_few = omega arith;
      denied_few = omega arith;
      lengths = lengths_stay m _;
      arrive = fine.arrive;
      budgets = λ v e. subst (λ (w : Unit). KeepsBudgets w (adder_sends shape (adder_target shape l.unit) word)) (same_some u v (sym there.1 ∙ e)) fine.budgets;
      shared = same_words_new shape l fits;
    }
  where
    same_some : (a b : Unit) → Some a ≡ Some b → a ≡ b
    same_some a b e = cc
