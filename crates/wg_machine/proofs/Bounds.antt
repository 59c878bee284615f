-- What a good shape bounds: its units, a slot's bytes, what one launch sends.
use Rattle.std.proofs.Common.{◌≡◌, ℕ, zero, suc, ◌+◌, ◌*◌, ◌≤◌, ◌<◌, Bool, true, cond, List, [], ◌∷◌, ◌++◌, length, refl, ap, ◌∙◌, arith, Option, Some, None}
use Rattle.std.specs.Prelude.{◌==◌, slice_get, slice_index, slice_index_or, unwrap_or, Contains, count_by, sum_by}
use Rattle.std.specs.Option.{option_map}
use Rattle.std.proofs.lemmas.Bool.Decides.{nat_tests}
use Rattle.std.proofs.lemmas.List.{length-map}
use Rattle.std.proofs.lemmas.List.Sums.{sum_by-cons}
use Rattle.wg_words.specs.Each.{Each}
use Rattle.wg_machine.specs.declared.shape.Output.{Output}
use Rattle.wg_machine.specs.declared.shape.Shape.{Shape}
use Rattle.wg_machine.specs.declared.shape.Unit.{Unit}
use Rattle.wg_machine.specs.declared.launch.Launch.{Launch}
use Rattle.wg_machine.specs.declared.launch.Sent.{Sent}
use Rattle.wg_machine.specs.Buffers.{Buffers}
use Rattle.wg_machine.specs.GoodShape.{IsBetween, IsGoodShape}
use Rattle.wg_machine.specs.LaunchMeaning.{Outcome, FitsShape, AllGoThrough, KeepsLaws}
use Rattle.wg_machine.specs.Units.{stride_at}
use Rattle.wg_machine.specs.Unrolling.{levels, unrolled, node_and_level}
use Rattle.wg_machine.proofs.Deeper.{there_is}

-- units

length_levels : (n d : ℕ) (rest : List (ℕ × ℕ)) → length (levels n d ++ rest) ≡ d + 1 + length rest
length_levels n zero rest = omega arith
length_levels n (suc d) rest = let h = length_levels n d rest in omega arith

length_unrolled : (n : ℕ) (depths : List ℕ) → Each (λ d. d ≤ 31) depths → length (unrolled n depths) ≤ 32 * length depths
length_unrolled n [] few = omega arith
length_unrolled n (d ∷ depths) few =
    let h = length_unrolled (n + 1) depths few.1 in
    let l = length_levels n d (unrolled (n + 1) depths) in
    let f = few.0 in
    omega arith

pub units_few : (shape : Shape) → IsGoodShape shape → length shape.units ≤ 8192
units_few shape good =
    let un = good.unrolling in
    let a = length_unrolled 0 un.depths un.few in
    let b = ap (λ (l : List (ℕ × ℕ)). length l) un.units in
    let n = good.few_nodes in
    let c = un.count in
    omega (arith, length-map shape.units node_and_level)

-- strides

pub strides_small : (shape : Shape) (u : ℕ) → IsGoodShape shape → stride_at shape u ≤ 8192
strides_small shape u good = choice (slice_get shape.units u) refl
  where
    choice : (o : Option Unit) → slice_get shape.units u ≡ o → unwrap_or (option_map (λ (n : Unit). n.stride) o) 0 ≤ 8192
    choice None e = omega arith
    choice (Some n) e = let g = good.units u n e in let s = g.stride in let w = g.words in omega arith

-- what one launch sends

-- how many of the budgets are an output's
abbrev through_output : List ℕ → Output → ℕ
through_output budgets o = count_by (λ c. c == o.budget) budgets

abbrev is_through : ℕ → Output → ℕ
is_through b o = cond (b == o.budget) 1 0

split : (b : ℕ) (budgets : List ℕ) (outputs : List Output) → sum_by (through_output (b ∷ budgets)) outputs ≡ sum_by (is_through b) outputs + sum_by (through_output budgets) outputs
split b budgets [] = refl
split b budgets (o ∷ outputs) =
    let one = sum_by-cons (through_output (b ∷ budgets)) o outputs in
    let two = sum_by-cons (is_through b) o outputs in
    let three = sum_by-cons (through_output budgets) o outputs in
    let four = sum_by-cons (λ c. cond (c == o.budget) 1 0) b budgets in
    omega (arith, one, two, three, four, split b budgets outputs)

at_least_one : (b : ℕ) (outputs : List Output) (o : Output) → Contains outputs o → o.budget ≡ b → 1 ≤ sum_by (is_through b) outputs
at_least_one b outputs o c is = go outputs c.0 c.1 c.2
  where
    here : (q : Output) → q ≡ o → is_through b q ≡ 1
    here q e = let f : q.budget ≡ b = ap (λ (x : Output). x.budget) e ∙ is in let t : (b == q.budget) ≡ true = grind (arith, nat_tests) in ap (λ (v : Bool). cond v 1 0) t

    go : (outputs : List Output) (k : ℕ) → k < length outputs → slice_index_or outputs k o ≡ o → 1 ≤ sum_by (is_through b) outputs
    go [] k l e = absurd (omega arith)
    go (q ∷ outputs) zero l e = let s = sum_by-cons (is_through b) q outputs in omega (arith, s, here q e)
    go (q ∷ outputs) (suc k) l e = let s = sum_by-cons (is_through b) q outputs in omega (arith, s, go outputs k (omega arith) e)

sent_through : (u : Unit) (budgets : List ℕ) (sent : List Sent) → AllGoThrough u budgets sent → length sent ≤ sum_by (through_output budgets) u.outputs
sent_through u [] [] all = omega arith
sent_through u [] (s ∷ sent) all = absurd all
sent_through u (b ∷ budgets) [] all = absurd all
sent_through u (b ∷ budgets) (s ∷ sent) all =
    let g = all.0 in
    omega (arith, split b budgets u.outputs, at_least_one b u.outputs g.output g.has_output g.on_budget, sent_through u budgets sent all.1)

each_few : (budgets : List ℕ) (outputs : List Output) → ((b : ℕ) → count_by (λ c. c == b) budgets ≤ 256) → sum_by (through_output budgets) outputs ≤ 256 * length outputs
each_few budgets [] h = omega arith
each_few budgets (o ∷ outputs) h =
    let s = sum_by-cons (through_output budgets) o outputs in
    omega (arith, s, h o.budget, each_few budgets outputs h)

most_of_budget : (mosts : List ℕ) (b : ℕ) → Each (IsBetween 1 256) mosts → slice_index mosts b ≤ 256
most_of_budget [] b each = omega arith
most_of_budget (m ∷ mosts) zero each = let h = each.0 in h.high
most_of_budget (m ∷ mosts) (suc b) each = most_of_budget mosts b each.1

-- 64 outputs, with budgets of at most 256
pub sent_few : (shape : Shape) (launch : Launch) (buffers : Buffers) (turns : ℕ) (o : Outcome) → IsGoodShape shape → FitsShape shape launch → KeepsLaws shape launch buffers turns o → length o.sent ≤ 16384
sent_few shape launch buffers turns o good fits laws =
    let there = there_is shape.units launch.unit fits.unit in
    let u = there.0 in
    let g = good.units launch.unit u there.1 in
    let keeps = laws.budgets u there.1 in
    let few = g.few_outputs in
    let a = sent_through u keeps.through o.sent keeps.each_goes in
    let b = each_few keeps.through u.outputs (λ b. (let m = most_of_budget u.budgets b g.budgets in let n = keeps.few b in omega arith)) in
    omega arith
