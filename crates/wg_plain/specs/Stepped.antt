-- What a step of the plain program comes to.
use Rattle.std.specs.Prelude.{◌≡◌, ℕ, ◌+◌, ◌≤◌, ◌^◌, max, length, Option, Some, None}
use Rattle.wg_words.specs.declared.limits.TheConstants.{MOST_SENT}
use Rattle.wg_machine.specs.declared.shape.Shape.{Shape}
use Rattle.wg_machine.specs.declared.launch.Entry.{Entry}
use Rattle.wg_machine.specs.declared.launch.Launch.{Launch}
use Rattle.wg_machine.specs.Buffers.{Buffers}
use Rattle.wg_machine.specs.Bytes.{live_bytes}
use Rattle.wg_machine.specs.Fitting.{BagFits}
use Rattle.wg_machine.specs.LaunchMeaning.{Meaning, KeepsLaws, outcome_of}
use Rattle.wg_machine.specs.State.{State}
use Rattle.wg_machine.specs.Step.{Passed, Step}
use Rattle.wg_plain.specs.declared.steps.Ran.{Ran}
use Rattle.wg_plain.specs.declared.steps.Rest.{Rest}
use Rattle.wg_plain.specs.Sizes.{AreShort}

abbrev pub state_of : Rest → State
state_of rest = record { bag = rest.bag; next = rest.next; buffers = rest.buffers }

-- what holds of what each run leaves
pub record IsSound (shape : Shape) (rest : Rest) : Type 0 where
  pub fitting : BagFits shape rest.bag
  pub short : AreShort rest.buffers
  pub few : length rest.bag ≤ rest.next

-- what a launch did, or that it was spent
abbrev pub RanIs : Shape → Meaning → ℕ → Launch → Buffers → Option Ran → Type 0
RanIs shape made turns launch buffers None = made launch buffers turns ≡ None
RanIs shape made turns launch buffers (Some ran) =
    (made launch buffers turns ≡ Some (outcome_of ran.made ran.buffers)) × KeepsLaws shape launch buffers turns (outcome_of ran.made ran.buffers)

-- what a step that was passed leaves of what was left before it
pub record Advances (shape : Shape) (handed : ℕ) (old new : Rest) (p : Passed) : Type 0 where
  pub after : p.after ≡ state_of new
  pub denied : new.denied ≡ old.denied + p.outcome.denied
  pub peak : new.peak ≡ max old.peak (live_bytes shape handed p.after)
  pub sound : IsSound shape new
  pub next_few : new.next ≤ old.next + MOST_SENT
  pub denied_few : new.denied ≤ old.denied + 2 ^ 32

-- the step of an entry, or that it is none
abbrev pub Steps : Shape → Meaning → ℕ → ℕ → Rest → Entry → Option Rest → Type 0
Steps shape made turns handed old e None = (p : Passed) → Step shape made turns (state_of old) e p → ⊥
Steps shape made turns handed old e (Some new) = (p : Passed) × Step shape made turns (state_of old) e p × Advances shape handed old new p
