-- What holds of every run in rounds; each law is the contract of a function of this crate.
use Rattle.std.specs.Prelude.{◌≡◌, ℕ}
use Rattle.wg_machine.specs.LaunchMeaning.{Meaning}
use Rattle.wg_standing.specs.declared.pending.Pending.{Pending}
use Rattle.wg_standing.specs.Core.{CoreView}
use Rattle.wg_rounds.specs.Rounds.{RunsOut, StopsAt}

-- a run in rounds that comes to its end has one end
abbrev pub RunsOutOnce : Type 0
RunsOutOnce = (made : Meaning) (workers : ℕ) (old new other : CoreView)
    → RunsOut made workers old new → RunsOut made workers old other → new ≡ other

-- one that stops stops at one launch
abbrev pub StopsOnce : Type 0
StopsOnce = (made : Meaning) (workers : ℕ) (old new other : CoreView) (o p : Pending)
    → StopsAt made workers old new o → StopsAt made workers old other p → (new ≡ other) × (o ≡ p)

-- and none does both
abbrev pub NeverBoth : Type 0
NeverBoth = (made : Meaning) (workers : ℕ) (old new other : CoreView) (o : Pending)
    → RunsOut made workers old new → StopsAt made workers old other o → ⊥
