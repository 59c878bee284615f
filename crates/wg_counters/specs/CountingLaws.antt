-- The counters keep to the laws of a launch.
use Rattle.std.specs.Prelude.{◌≡◌, if◌then◌else◌, ◌⊎◌, ℕ, ◌≤◌, ◌<◌, ◌==◌, ◌+◌, ◌%◌, ◌^◌, nat_lt, Bool, true, false, List, [], ◌∷◌, length, map, slice_index, slice_get, slice_set, Option, Some, None, IfSome, replicate, count_by, unwrap_or}
use Rattle.std.specs.Option.{option_map}
use Rattle.std.proofs.Common.{arith, refl, ap, zero, suc, subst, sym, ◌∙◌, cond, Contains, lit≤}
use Rattle.std.proofs.lemmas.List.Sums.{sum_by-cons}
use Rattle.std.proofs.lemmas.Bool.{ltb-false}
use Rattle.std.proofs.lemmas.Bool.Decides.{Decides-eqb}
use Rattle.std.proofs.lemmas.List.{length-set, length-replicate}
use Rattle.wg_words.specs.Each.{Each}
use Rattle.wg_machine.specs.declared.shape.Output.{Output}
use Rattle.wg_machine.specs.declared.shape.Shape.{Shape}
use Rattle.wg_machine.specs.declared.shape.Unit.{Unit}
use Rattle.wg_machine.specs.declared.launch.Launch.{Launch}
use Rattle.wg_machine.specs.declared.launch.Record.{Record}
use Rattle.wg_machine.specs.declared.launch.Sent.{Sent}
use Rattle.wg_machine.specs.Buffers.{Buffers, lengths_of, buffer_at}
use Rattle.wg_machine.specs.GoodShape.{IsGoodShape, IsGoodOutput, IsGoodElement, IsBetween}
use Rattle.wg_machine.specs.LaunchMeaning.{Arrives, AllGoThrough, GoesThrough, FitsShape, HasNewWords, KeepsBudgets, KeepsLaws}
use Rattle.wg_machine.specs.Units.{words_at, shared_at}
use Rattle.wg_counters.specs.declared.counters.Asked.{Asked}
use Rattle.wg_counters.specs.Counting.{nothing, asked, asked_at, asked_by, asked_through, copies, counter_made, counter_outcome, first_word, first_words, next_words, stays, turns_of}

lengths_set : (m : Buffers) (c : ℕ) (y : List ℕ) → length y ≡ length (buffer_at m c) → lengths_of (slice_set m c y) ≡ lengths_of m
lengths_set [] c y h = refl
lengths_set (z ∷ m) zero y h = ap (λ (n : ℕ). n ∷ lengths_of m) h
lengths_set (z ∷ m) (suc c) y h = ap (λ (ns : List ℕ). length z ∷ ns) (lengths_set m c y h)

there : (units : List Unit) (t : ℕ) (n : Unit) → slice_get units t ≡ Some n → t < length units
there [] t n e = absurd (cc)
there (u ∷ units) zero n e = omega arith
there (u ∷ units) (suc t) n e = let h = there units t n e in omega arith

each_copy : {A : Type 0} → (P : A → Type 0) (n : ℕ) (a : A) → P a → Each P (replicate n a)
each_copy P zero a h = tt
each_copy P (suc n) a h = (h, each_copy P n a h)

all_through : (u : Unit) (b n : ℕ) (s : Sent) → GoesThrough u b s → AllGoThrough u (replicate n b) (replicate n s)
all_through u b zero s h = tt
all_through u b (suc n) s h = (h, all_through u b n s h)

-- so many of one number, of which none are another one
counted_same : (b c : ℕ) → (c == b) ≡ true → (n : ℕ) → count_by (λ k. k == b) (replicate n c) ≤ n
counted_same b c e zero = omega arith
counted_same b c e (suc n) =
    let d = subst (λ t. count_by (λ k. k == b) (c ∷ replicate n c) ≡ cond t 1 0 + count_by (λ k. k == b) (replicate n c)) e (sum_by-cons (λ k. cond (k == b) 1 0) c (replicate n c)) in
    let h = counted_same b c e n in
    omega (arith, d, h)

counted_other : (b c : ℕ) → (c == b) ≡ false → (n : ℕ) → count_by (λ k. k == b) (replicate n c) ≤ 0
counted_other b c e zero = omega arith
counted_other b c e (suc n) =
    let d = subst (λ t. count_by (λ k. k == b) (c ∷ replicate n c) ≡ cond t 1 0 + count_by (λ k. k == b) (replicate n c)) e (sum_by-cons (λ k. cond (k == b) 1 0) c (replicate n c)) in
    let h = counted_other b c e n in
    omega (arith, d, h)

within : (budgets : List ℕ) (c b : ℕ) → count_by (λ k. k == b) (replicate (slice_index budgets c) c) ≤ slice_index budgets b
within budgets c b = choice (c == b) refl
  where
    choice : (t : Bool) → (c == b) ≡ t → count_by (λ k. k == b) (replicate (slice_index budgets c) c) ≤ slice_index budgets b
    choice true e =
        subst (λ i. count_by (λ k. k == b) (replicate (slice_index budgets c) c) ≤ slice_index budgets i) ((Decides-eqb c b).0 e) (counted_same b c e (slice_index budgets c))
    choice false e = let h = counted_other b c e (slice_index budgets c) in omega (arith, h)

first_in : {X : Type 0} → (xs : List X) (x : X) (rest : List X) → xs ≡ x ∷ rest → Contains xs x
first_in {X = X} xs x rest e = subst (λ (ys : List X). Contains ys x) (sym e) (0, omega arith, refl)

-- what is asked keeps the budgets of a unit of a good shape, and arrives
record Fine (shape : Shape) (u : Unit) (a : Asked) : Type 0 where
  pub denied : a.denied ≤ 1
  pub arrive : Each (Arrives shape) a.sent
  pub budgets : KeepsBudgets u a.sent

no_budgets : (u : Unit) → KeepsBudgets u []
no_budgets u = record { through = []; each_goes = tt; few = λ b. (omega arith) }

nothing_fine : (shape : Shape) (u : Unit) → Fine shape u nothing
nothing_fine shape u = record { denied = omega arith; arrive = tt; budgets = no_budgets u }

denied_fine : (shape : Shape) (u : Unit) → Fine shape u (record { sent = []; denied = 1 })
denied_fine shape u = record { denied = omega arith; arrive = tt; budgets = no_budgets u }

element_fine : (shape : Shape) (u : Unit) (o : Output) (word : ℕ) (rest : List Output) → u.outputs ≡ o ∷ rest → (elements : List (Option ℕ)) → o.elements ≡ elements → Each (IsGoodElement shape u o) elements
    → Fine shape u (asked_at shape (slice_index u.budgets o.budget) word (unwrap_or (slice_get elements 0) None))
element_fine shape u o word rest has [] e each = denied_fine shape u
element_fine shape u o word rest has (None ∷ elements) e each = denied_fine shape u
element_fine shape u o word rest has (Some t ∷ elements) e each =
    let n = slice_index u.budgets o.budget in
    let s : Sent = record { unit = t; words = replicate (words_at shape t) word } in
    let arrives : Arrives shape s = record { unit = there shape.units t each.0.target each.0.there; words = length-replicate (words_at shape t) word } in
    let goes : GoesThrough u o.budget s = record { output = o; has_output = first_in u.outputs o rest has; on_budget = refl; targets = first_in o.elements (Some t) elements e } in
    record {
      denied = omega arith;
      arrive = each_copy (Arrives shape) n s arrives;
      budgets = record {
        through = replicate n o.budget;
        each_goes = all_through u o.budget n s goes;
        few = within u.budgets o.budget;
      };
    }

output_fine : (shape : Shape) (u : Unit) (word : ℕ) (outputs : List Output) → u.outputs ≡ outputs → Each (IsGoodOutput shape u) outputs
    → Fine shape u (unwrap_or (option_map (asked_through shape u word) (slice_get outputs 0)) nothing)
output_fine shape u word [] e each = nothing_fine shape u
output_fine shape u word (o ∷ outputs) e each = element_fine shape u o word outputs e o.elements refl each.0.elements

unit_there : (units : List Unit) (u : ℕ) → u < length units → (n : Unit) × (slice_get units u ≡ Some n)
unit_there [] u h = absurd (omega arith)
unit_there (n ∷ units) zero h = (n, refl)
unit_there (n ∷ units) (suc u) h = unit_there units u (omega arith)

choose : (shape : Shape) (u : Unit) (a : Asked) (b : Bool) → Fine shape u a → Fine shape u (if b then nothing else a)
choose shape u a true h = nothing_fine shape u
choose shape u a false h = h

pub next_words_new : (shape : Shape) (l : Launch) → FitsShape shape l → HasNewWords (shared_at shape l.unit) (words_at shape l.unit) (next_words shape l)
next_words_new shape l fits = choice (shared_at shape l.unit)
  where
    longer : (words : List ℕ) → length (map (λ w. (w + 1) % 2 ^ 32) words) ≡ length words
    longer [] = refl
    longer (w ∷ words) = ap suc (longer words)

    first : (rs : List Record) → 1 ≤ length rs → Each (λ (r : Record). length r.words ≡ words_at shape l.unit) rs → length (map (λ w. (w + 1) % 2 ^ 32) (first_words rs)) ≡ words_at shape l.unit
    first [] some each = absurd (omega arith)
    first (r ∷ rs) some each = longer r.words ∙ each.0

    choice : (b : Bool) → HasNewWords b (words_at shape l.unit) (if b then Some (map (λ w. (w + 1) % 2 ^ 32) (first_words l.records)) else None)
    choice true = first l.records fits.some fits.words
    choice false = tt

outcome_lawful : (shape : Shape) (l : Launch) (m : Buffers) (turns : ℕ) → IsGoodShape shape → FitsShape shape l → turns_of l m ≤ turns → KeepsLaws shape l m turns (counter_outcome shape l m)
outcome_lawful shape l m turns good fits few =
    let there = unit_there shape.units l.unit fits.unit in
    let u = there.0 in
    let g = good.units l.unit u there.1 in
    let word = first_word l.records in
    let fine : Fine shape u (asked shape l) =
    choose shape u _ (stays shape l) (subst (λ (n : Option Unit). Fine shape u (unwrap_or (option_map (asked_by shape word) n) nothing)) (sym there.1) (output_fine shape u word u.outputs refl g.outputs)) in
    record {
      turns_few = few;
      denied_few = let h = fine.denied in omega (arith, h);
      lengths = lengths_set m 0 _ (length-set (buffer_at m 0) 0 _);
      arrive = fine.arrive;
      budgets = λ v e. subst (λ (w : Unit). KeepsBudgets w (asked shape l).sent) (same_some u v (sym there.1 ∙ e)) fine.budgets;
      shared = next_words_new shape l fits;
    }
  where
    same_some : (a b : Unit) → Some a ≡ Some b → a ≡ b
    same_some a b e = cc

pub counter_lawful : (shape : Shape) (l : Launch) (m : Buffers) (turns : ℕ) → IsGoodShape shape → FitsShape shape l → IfSome (counter_made shape l m turns) (KeepsLaws shape l m turns)
counter_lawful shape l m turns good fits = choice (nat_lt turns (turns_of l m)) refl
  where
    choice : (b : Bool) → nat_lt turns (turns_of l m) ≡ b → IfSome (if b then None else Some (counter_outcome shape l m)) (KeepsLaws shape l m turns)
    choice true e = tt
    choice false e = outcome_lawful shape l m turns good fits (ltb-false turns (turns_of l m) e)
