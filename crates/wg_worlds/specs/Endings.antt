-- A launch that ends in a lawful world keeps to the laws of a launch.
use Rattle.std.proofs.Common.{◌≡◌, ℕ, ◌<◌, ◌≤◌, ◌^◌, Bool, true, false, List, [], ◌∷◌, length, map, Option, Some, sym, ap, ◌∙◌, subst, arith}
use Rattle.std.specs.Prelude.{slice_get, unwrap_or}
use Rattle.std.specs.Option.{option_map}
use Rattle.wg_words.specs.Each.{Each}
use Rattle.wg_machine.specs.declared.launch.Launch.{Launch}
use Rattle.wg_machine.specs.declared.launch.Record.{Record}
use Rattle.wg_machine.specs.declared.shape.Shape.{Shape}
use Rattle.wg_machine.specs.declared.shape.Unit.{Unit as Node}
use Rattle.wg_machine.specs.Buffers.{Buffers, lengths_of}
use Rattle.wg_machine.specs.GoodShape.{IsGoodShape}
use Rattle.wg_machine.specs.LaunchMeaning.{FitsShape, HasNewWords, KeepsBudgets, KeepsLaws}
use Rattle.wg_machine.specs.Units.{shared_at, words_at}
use Rattle.wg_state.specs.Launching.{new_words, outcome_with, record_words_of}
use Rattle.wg_state.specs.Sending.{sent_through}
use Rattle.wg_state.specs.WordLists.{list_at}
use Rattle.wg_state.specs.declared.world.World.{World}
use Rattle.wg_worlds.specs.Lawful.{IsLawfulWorld}
use Rattle.wg_worlds.specs.Through.{budgets_from, all_arrive, all_go, sent_within}

inside : (a b : Node) → Some a ≡ Some b → a ≡ b
inside a b e = cc

first_length : (n : ℕ) (records : List Record) (inputs : List (List ℕ)) → 1 ≤ length records → Each (λ (r : Record). length r.words ≡ n) records
    → lengths_of inputs ≡ lengths_of (map (λ (r : Record). r.words) records) → length (list_at inputs 0) ≡ n
first_length n [] inputs some each e = absurd (omega (arith, some))
first_length n (r ∷ records) [] some each e = absurd (cc)
first_length n (r ∷ records) (x ∷ inputs) some each e = head (length x) (length r.words) (lengths_of inputs) _ e ∙ each.0
  where
    head : (a b : ℕ) (xs ys : List ℕ) → a ∷ xs ≡ b ∷ ys → a ≡ b
    head a b xs ys e = cc

has_new : (is : Bool) (n : ℕ) (inputs : List (List ℕ)) → length (list_at inputs 0) ≡ n → HasNewWords is n (new_words is inputs)
has_new true n inputs e = e
has_new false n inputs e = tt

module _ (shape : Shape) (launch : Launch) (buffers : Buffers) (turns left : ℕ) (unit : Node) (w : World) where
  pub keeps_laws : IsGoodShape shape → FitsShape shape launch → slice_get shape.units launch.unit ≡ Some unit
      → IsLawfulWorld unit (lengths_of (record_words_of launch)) (lengths_of buffers) w → length w.grants < 2 ^ 32
      → KeepsLaws shape launch buffers turns (outcome_with unit turns w left)
  keeps_laws good fits is l few =
      let own = good.units launch.unit unit is in
      let kept : KeepsBudgets unit (sent_through 0 unit.outputs w.grants) = record {
        through = budgets_from 0 unit.outputs w.grants;
        each_goes = all_go unit w.grants;
        few = λ b. (let s = sent_within b unit.outputs w.grants in let e = l.budgets b in omega (arith, s, e));
      } in
      let words : words_at shape launch.unit ≡ unit.words = ap (λ (n : Option Node). unwrap_or (option_map (λ (n : Node). n.words) n) 0) is in
      let shared : shared_at shape launch.unit ≡ unit.shared = ap (λ (n : Option Node). unwrap_or (option_map (λ (n : Node). n.shared) n) false) is in
      let first = first_length (words_at shape launch.unit) launch.records w.inputs fits.some fits.words l.inputs_stay in
      record {
        turns_few = omega arith;
        denied_few = let d = l.denied in omega (arith, d, few);
        lengths = l.buffers_stay;
        arrive = all_arrive shape unit w.grants own.outputs l.items;
        budgets = λ u e. subst (λ (v : Node). KeepsBudgets v (sent_through 0 unit.outputs w.grants)) (inside unit u (sym is ∙ e)) kept;
        shared = subst (λ b. HasNewWords (shared_at shape launch.unit) (words_at shape launch.unit) (new_words b w.inputs)) shared (has_new (shared_at shape launch.unit) (words_at shape launch.unit) w.inputs first);
      }
