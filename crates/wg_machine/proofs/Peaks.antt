-- A run whose states keep the slots of a plan has its peak within the plan's bytes.
use Rattle.std.proofs.Common.{◌≤◌, ℕ, List, [], ◌∷◌, arith}
use Rattle.wg_machine.specs.declared.shape.Shape.{Shape}
use Rattle.wg_machine.specs.Bytes.{KeepsSlots, peak, plan_bytes}
use Rattle.wg_machine.specs.Run.{EachState}
use Rattle.wg_machine.specs.State.{State}
use Rattle.wg_machine.specs.Step.{Passed}
use Rattle.wg_machine.proofs.Slots.{bytes_held}

pub peak_held : (shape : Shape) (width entries : ℕ) (s : State) (trail : List Passed) → EachState (KeepsSlots shape width entries) s trail → peak shape entries s trail ≤ plan_bytes shape width
peak_held shape width entries s [] keeps = bytes_held shape width entries s keeps
peak_held shape width entries s (p ∷ trail) keeps =
    let here = bytes_held shape width entries s keeps.0 in
    let later = peak_held shape width entries p.after trail keeps.1 in
    omega arith
