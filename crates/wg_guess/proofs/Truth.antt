-- A guess made over one view is true of all buffers that agree with it.
use Rattle.std.proofs.Common.{◌≡◌, ℕ, List, [], length, Option, Some, None, ap, sym, ◌∙◌, subst}
use Rattle.wg_machine.specs.declared.launch.Launch.{Launch}
use Rattle.wg_machine.specs.declared.launch.Made.{Made}
use Rattle.wg_machine.specs.declared.memory.Seen.{Seen}
use Rattle.wg_machine.specs.declared.memory.Write.{Write}
use Rattle.wg_machine.specs.declared.shape.Shape.{Shape}
use Rattle.wg_machine.specs.Agreement.{Agrees, AgreesWith, Trace}
use Rattle.wg_machine.specs.Buffers.{Buffers, lengths_of, all_written}
use Rattle.wg_machine.specs.LaunchMeaning.{Meaning, Makes, Spends}
use Rattle.wg_guess.specs.declared.guesses.Guess.{Guess}
use Rattle.wg_guess.specs.Guesses.{IsFor, IsTrueOf, guessed}

-- what a guess took over from the trial that ran its launch
pub record Took (shape : Shape) (launch : Launch) (new : Trace) (answer : Option Made) (g : Guess) : Type 0 where
  pub many : length g.lengths ≡ length shape.buffers
  pub launch_is : g.launch ≡ launch
  pub lengths : g.lengths ≡ lengths_of new.over
  pub log : g.log ≡ new.log
  pub writes : g.writes ≡ new.writes
  pub answer_is : g.answer ≡ answer

agrees_too : (shape : Shape) (launch : Launch) (new : Trace) (answer : Option Made) (g : Guess) (m : Buffers) → Took shape launch new answer g → IsFor g m → AgreesWith new m
agrees_too shape launch new answer g m took agree =
    subst (λ (ns : List ℕ). Agrees ns new.log m) took.lengths (subst (λ (l : List Seen). Agrees g.lengths l m) took.log agree)

launch_at : (made : Meaning) (turns : ℕ) (launch : Launch) (writes : List Write) (g : Guess) (m : Buffers) → writes ≡ [] → g.launch ≡ launch → made g.launch m turns ≡ made launch (all_written m writes) turns
launch_at made turns launch writes g m none is = ap (λ (l : Launch). made l m turns) is ∙ ap (λ (ws : List Write). made launch (all_written m ws) turns) (sym none)

pub makes_true : (shape : Shape) (made : Meaning) (turns : ℕ) (launch : Launch) (old new : Trace) (m : Made) (g : Guess) → Makes made launch turns old new m → old.writes ≡ [] → Took shape launch new (Some m) g → IsTrueOf shape made turns g
makes_true shape made turns launch old new m g makes none took = record {
  many = took.many;
  over = λ start agree.
      launch_at made turns launch old.writes g start none took.launch_is
      ∙ makes start (agrees_too shape launch new (Some m) g start took agree)
      ∙ ap (λ (ws : List Write). guessed (Some m) ws start) (sym took.writes)
      ∙ ap (λ (a : Option Made). guessed a g.writes start) (sym took.answer_is);
}

pub spends_true : (shape : Shape) (made : Meaning) (turns : ℕ) (launch : Launch) (old new : Trace) (g : Guess) → Spends made launch turns old new → old.writes ≡ [] → Took shape launch new None g → IsTrueOf shape made turns g
spends_true shape made turns launch old new g spends none took = record {
  many = took.many;
  over = λ start agree.
      launch_at made turns launch old.writes g start none took.launch_is
      ∙ spends start (agrees_too shape launch new None g start took agree)
      ∙ ap (λ (a : Option Made). guessed a g.writes start) (sym took.answer_is);
}
