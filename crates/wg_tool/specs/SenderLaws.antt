-- What wires a shape to the targets of its units, and that launches then keep to the laws of launches.
use Rattle.std.specs.Prelude.{◌≡◌, ℕ, zero, suc, ◌+◌, ◌%◌, ◌^◌, ◌<◌, ◌≤◌, ◌==◌, Bool, true, false, List, [], ◌∷◌, length, Option, Some, None, IfSome, slice_get, slice_index, unwrap_or, count_by, refl}
use Rattle.std.specs.Option.{option_map}
use Rattle.std.proofs.Common.{ap, sym, ◌∙◌, arith}
use Rattle.std.proofs.lemmas.Bool.Decides.{nat_tests}
use Rattle.wg_machine.specs.declared.launch.Launch.{Launch}
use Rattle.wg_machine.specs.declared.shape.Output.{Output}
use Rattle.wg_machine.specs.declared.shape.Shape.{Shape}
use Rattle.wg_machine.specs.declared.shape.Unit.{Unit}
use Rattle.wg_machine.specs.Buffers.{Buffers}
use Rattle.wg_machine.specs.LaunchMeaning.{HasNewWords, KeepsLaws, KeepsBudgets}
use Rattle.wg_machine.specs.Units.{shared_at, words_at}
use Rattle.wg_tool.specs.Sending.{word_of_launch, target_at, one_sent, sender}
use Rattle.wg_tool.specs.Wiring.{budgets_of, outputs_of}

abbrev pub outputs_at : Shape → ℕ → List Output
outputs_at shape u = unwrap_or (option_map (λ (n : Unit). n.outputs) (slice_get shape.units u)) []

abbrev pub budgets_at : Shape → ℕ → List ℕ
budgets_at shape u = unwrap_or (option_map (λ (n : Unit). n.budgets) (slice_get shape.units u)) []

-- a unit sends at most one record of one word, to another
pub record SendsTo (shape : Shape) (u t : ℕ) : Type 0 where
  pub within : t < length shape.units
  pub words : words_at shape t ≡ 1
  pub outputs : outputs_at shape u ≡ outputs_of (Some t)
  pub budgets : budgets_at shape u ≡ budgets_of (Some t)

-- each unit with a target sends there, and none shares its record
pub record IsWired (shape : Shape) (targets : List (Option ℕ)) : Type 0 where
  pub sends : (u t : ℕ) → target_at targets u ≡ Some t → SendsTo shape u t
  pub none_shared : (u : ℕ) → shared_at shape u ≡ false

one_through : (b : ℕ) → count_by (λ c. c == b) (0 ∷ []) ≤ slice_index (1 ∷ []) b
one_through zero = omega arith
one_through (suc b) = let other : (0 == suc b) ≡ false = grind (arith, nat_tests) in rw other (omega arith)

keeps_one : (u : Unit) (t w : ℕ) → u.outputs ≡ outputs_of (Some t) → u.budgets ≡ budgets_of (Some t) → KeepsBudgets u (one_sent (Some t) w)
keeps_one u t w outputs budgets =
    let o : Output = record { budget = 0; words = 1; elements = Some t ∷ [] } in
    record {
      through = 0 ∷ [];
      each_goes = (record { output = o; has_output = rw outputs (0, omega arith, refl); on_budget = refl; targets = (0, omega arith, refl) }, tt);
      few = rw budgets one_through;
    }

keeps_none : (u : Unit) → KeepsBudgets u []
keeps_none u = record { through = []; each_goes = tt; few = λ b. omega arith }

no_new_words : (b : Bool) (n : ℕ) → b ≡ false → HasNewWords b n None
no_new_words true n e = absurd (cc)
no_new_words false n e = tt

keeps : (shape : Shape) (targets : List (Option ℕ)) (launch : Launch) (buffers : Buffers) (turns w : ℕ) (o : Option ℕ) → IsWired shape targets → target_at targets launch.unit ≡ o → KeepsLaws shape launch buffers turns (record { sent = one_sent o w; denied = 0; turns = 0; buffers = buffers; shared = None })
keeps shape targets launch buffers turns w None wired e =
    record {
      turns_few = omega arith;
      denied_few = omega arith;
      lengths = refl;
      arrive = tt;
      budgets = λ u at. keeps_none u;
      shared = no_new_words (shared_at shape launch.unit) (words_at shape launch.unit) (wired.none_shared launch.unit);
    }
keeps shape targets launch buffers turns w (Some t) wired e =
    let sends = wired.sends launch.unit t e in
    record {
      turns_few = omega arith;
      denied_few = omega arith;
      lengths = refl;
      arrive = (record { unit = sends.within; words = sym sends.words }, tt);
      budgets = λ u at. keeps_one u t w (sym (ap (λ (n : Option Unit). unwrap_or (option_map (λ (x : Unit). x.outputs) n) []) at) ∙ sends.outputs) (sym (ap (λ (n : Option Unit). unwrap_or (option_map (λ (x : Unit). x.budgets) n) []) at) ∙ sends.budgets);
      shared = no_new_words (shared_at shape launch.unit) (words_at shape launch.unit) (wired.none_shared launch.unit);
    }

pub sender_lawful : (shape : Shape) (targets : List (Option ℕ)) (adds : List ℕ) (launch : Launch) (buffers : Buffers) (turns : ℕ) → IsWired shape targets → IfSome (sender targets adds launch buffers turns) (KeepsLaws shape launch buffers turns)
sender_lawful shape targets adds launch buffers turns wired =
    keeps shape targets launch buffers turns ((word_of_launch launch + slice_index adds launch.unit) % 2 ^ 32) (target_at targets launch.unit) wired refl
