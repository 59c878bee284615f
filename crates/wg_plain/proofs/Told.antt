-- The machine's laws that the plain program calls, by names.
use Rattle.std.proofs.Common.{◌≡◌, ℕ, ◌≤◌, ◌<◌, List, length, map}
use Rattle.std.specs.Prelude.{IsTrue}
use Rattle.wg_words.specs.Each.{Each}
use Rattle.wg_words.specs.declared.limits.TheConstants.{GRID_BOUND, MOST_SENT}
use Rattle.wg_machine.specs.declared.shape.Shape.{Shape}
use Rattle.wg_machine.specs.declared.launch.Launch.{Launch}
use Rattle.wg_machine.specs.declared.launch.Live.{Live}
use Rattle.wg_machine.specs.declared.launch.Entry.{Entry}
use Rattle.wg_machine.specs.declared.launch.Sent.{Sent}
use Rattle.wg_machine.specs.Buffers.{Buffers, lengths_of}
use Rattle.wg_machine.specs.Fitting.{IsFitting, BagFits, StateFits, IsLawful}
use Rattle.wg_machine.specs.GoodShape.{IsGoodShape}
use Rattle.wg_machine.specs.Grids.{groups_in, has_group, place_of}
use Rattle.wg_machine.specs.LaunchMeaning.{Meaning, Outcome, Arrives, FitsShape, KeepsLaws}
use Rattle.wg_machine.specs.Run.{IsRun, EachState}
use Rattle.wg_machine.specs.State.{State, start}
use Rattle.wg_machine.specs.Step.{Passed, Step, Allows, IsReady, launch_in, numbers_of, record_of, taken}
use Rattle.wg_machine.specs.Units.{kind_at, most_inputs}

abbrev pub AreToldByNames : Type 0
AreToldByNames = (shape : Shape) (bag : List Live) (launch : Launch) (at : List ℕ) → Allows shape bag launch at → launch ≡ launch_in shape bag launch.unit at (numbers_of launch.records)

abbrev pub AreAllowed : Type 0
AreAllowed = (shape : Shape) (bag : List Live) (unit : ℕ) (at numbers : List ℕ)
    → BagFits shape bag → numbers_of (map record_of (taken numbers bag)) ≡ numbers
    → 1 ≤ length numbers → length numbers ≤ most_inputs (kind_at shape unit) → Each (IsReady unit at) (taken numbers bag)
    → Allows shape bag (launch_in shape bag unit at numbers) at

abbrev pub LieInGrids : Type 0
LieInGrids = (shape : Shape) (r : Live) (at : List ℕ)
    → IsGoodShape shape → IsFitting shape r → IsTrue (has_group r.groups at)
    → (place_of r.grid at < groups_in r.grid) × (groups_in r.grid < GRID_BOUND)

abbrev pub SendFew : Type 0
SendFew = (shape : Shape) (launch : Launch) (buffers : Buffers) (turns : ℕ) (o : Outcome)
    → IsGoodShape shape → FitsShape shape launch → KeepsLaws shape launch buffers turns o → length o.sent ≤ MOST_SENT

abbrev pub StepsFit : Type 0
StepsFit = (shape : Shape) (made : Meaning) (turns : ℕ) (lengths : List ℕ) (s : State) (e : Entry) (p : Passed)
    → IsGoodShape shape → IsLawful shape made → StateFits shape lengths s → Step shape made turns s e p
    → StateFits shape lengths p.after

abbrev pub RunsFit : Type 0
RunsFit = (shape : Shape) (made : Meaning) (turns : ℕ) (script : List Sent) (buffers : Buffers)
    (entries : List Entry) (trail : List Passed) (final : State)
    → IsGoodShape shape → IsLawful shape made → Each (Arrives shape) script
    → IsRun shape made turns (start shape script buffers) entries trail final
    → EachState (StateFits shape (lengths_of buffers)) (start shape script buffers) trail
