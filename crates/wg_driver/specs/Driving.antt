-- What stays while a core is driven.
use Rattle.std.specs.Prelude.{◌≡◌, ℕ, ◌++◌, ◌∷◌, List}
use Rattle.wg_words.specs.Each.{Each}
use Rattle.wg_machine.specs.declared.shape.Shape.{Shape}
use Rattle.wg_machine.specs.LaunchMeaning.{Meaning}
use Rattle.wg_guess.specs.Guesses.{IsTrueOf}
use Rattle.wg_standing.specs.declared.pending.Pending.{Pending}
use Rattle.wg_standing.specs.Core.{CoreView}
use Rattle.wg_engine.specs.Calls.{told}
use Rattle.wg_engine.specs.declared.keeping.Out.{Out}
use Rattle.wg_driver.specs.declared.calls.Ahead.{Ahead}

-- the graph and the limits stay
pub record KeepsPlan (old new : CoreView) : Type 0 where
  pub shape : new.shape ≡ old.shape
  pub limits : new.limits ≡ old.limits

-- each guess is true of the bodies
abbrev pub AreTrue : Shape → Meaning → ℕ → List Ahead → Type 0
AreTrue shape made turns guesses = Each (λ (a : Ahead). IsTrueOf shape made turns a.guess) guesses

-- the launch is out, and is told as it is now
pub record IsToldOut (core : CoreView) (out : Out) : Type 0 where
  pub before : List Pending
  pub pending : Pending
  pub later : List Pending
  pub place : core.outs ≡ before ++ pending ∷ later
  pub is : out ≡ told core pending
