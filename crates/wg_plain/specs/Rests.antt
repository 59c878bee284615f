-- What the plain program answers: that entries are a run, with what it leaves, or where they stop to be one.
use Rattle.std.specs.Prelude.{◌≡◌, ⊤, ℕ, ◌<◌, List, length, take, slice_get, Some}
use Rattle.wg_machine.specs.declared.shape.Shape.{Shape}
use Rattle.wg_machine.specs.declared.launch.Entry.{Entry}
use Rattle.wg_machine.specs.declared.launch.Sent.{Sent}
use Rattle.wg_machine.specs.Buffers.{Buffers}
use Rattle.wg_machine.specs.Bytes.{peak}
use Rattle.wg_machine.specs.LaunchMeaning.{Meaning}
use Rattle.wg_machine.specs.Run.{IsRun, denied_of}
use Rattle.wg_machine.specs.State.{State, start}
use Rattle.wg_machine.specs.Step.{Passed, Step}
use Rattle.wg_plain.specs.declared.replays.Replayed.{Replayed}
use Rattle.wg_plain.specs.declared.replays.Replayed.TheVariants.{Run, NoStep}
use Rattle.wg_plain.specs.declared.steps.Rest.{Rest}

-- The entries are a run from the start of a script, and this is what it leaves.
pub record Leaves (shape : Shape) (made : Meaning) (turns : ℕ) (script : List Sent) (buffers : Buffers) (entries : List Entry) (rest : Rest) : Type 0 where
  pub trail : List Passed
  pub final : State
  pub run : IsRun shape made turns (start shape script buffers) entries trail final
  pub bag : rest.bag ≡ final.bag
  pub next : rest.next ≡ final.next
  pub buffers_are : rest.buffers ≡ final.buffers
  pub denied : rest.denied ≡ denied_of trail
  pub peak_is : rest.peak ≡ peak shape (length script) (start shape script buffers) trail

-- The first k entries are a run from the start of a script, and the next one is no step after it.
pub record StopsAt (shape : Shape) (made : Meaning) (turns : ℕ) (script : List Sent) (buffers : Buffers) (entries : List Entry) (k : ℕ) : Type 0 where
  pub within : k < length entries
  pub trail : List Passed
  pub final : State
  pub run : IsRun shape made turns (start shape script buffers) (take k entries) trail final
  pub no_step : (e : Entry) (p : Passed) → slice_get entries k ≡ Some e → Step shape made turns final e p → ⊥

-- no way makes the entries a run from the start of a script
abbrev pub IsNoRun : Shape → Meaning → ℕ → List Sent → Buffers → List Entry → Type 0
IsNoRun shape made turns script buffers entries =
    (trail : List Passed) (final : State) → IsRun shape made turns (start shape script buffers) entries trail final → ⊥

-- a fact of what a run leaves, where the answer is one
abbrev pub IfRun : (Rest → Type 0) → Replayed → Type 0
IfRun P (Run rest) = P rest
IfRun P (NoStep k) = ⊤

-- a fact of the entry that is no step, where the answer names one
abbrev pub IfNoStep : (ℕ → Type 0) → Replayed → Type 0
IfNoStep P (Run rest) = ⊤
IfNoStep P (NoStep k) = P k
