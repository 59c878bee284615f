use Rattle.std.proofs.Common.{◌-◌, IsTrue, List, length}
use Rattle.wg_machine.specs.declared.launch.Sent.{Sent}
use Rattle.wg_machine.specs.Buffers.{Buffers}
use Rattle.wg_standing.specs.declared.pending.Pending.{Pending}
use Rattle.wg_standing.specs.Standing.{StandsFor}
use Rattle.wg_rounds.specs.Ends.{KeepsEachGuess, NoneIsShared}
use Rattle.wg_rounds.proofs.Running.{RanSoFar}
use Rattle.wg_rounds.proofs.rounds.run_rounds.Given as goal

-- the rounds that ran so far
abbrev pub invariant-loop-why : goal.invariant-loop-why
invariant-loop-why g l =
    (rounds : List (List Pending))
    × RanSoFar (g.B.Bodies.made l.bodies) l.workers l.fn.core l.core rounds
    × (IsTrue (g.B.Bodies.quiet l.bodies) → NoneIsShared l.fn.core.shape → KeepsEachGuess l.fn.core l.core)
    × ((script : List Sent) (start : Buffers) → StandsFor (g.B.Bodies.made l.bodies) script start l.fn.core → StandsFor (g.B.Bodies.made l.bodies) script start l.core)

abbrev pub decreases-loop-why : goal.decreases-loop-why
decreases-loop-why g l = l.core.limits.launches - length l.core.journal
