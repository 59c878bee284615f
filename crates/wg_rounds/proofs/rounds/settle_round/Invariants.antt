use Rattle.std.proofs.Common.{List, length}
use Rattle.wg_machine.specs.declared.launch.Sent.{Sent}
use Rattle.wg_machine.specs.Buffers.{Buffers}
use Rattle.wg_standing.specs.declared.pending.Pending.{Pending}
use Rattle.wg_standing.specs.Standing.{StandsFor}
use Rattle.wg_rounds.proofs.Running.{SettlesSoFar}
use Rattle.wg_rounds.proofs.rounds.settle_round.Given as goal

-- the launches that settled so far, and the guesses of the others
abbrev pub invariant-loop-next : goal.invariant-loop-next
invariant-loop-next g l =
    (front : List Pending) × (later : List Pending)
    × SettlesSoFar (g.B.Bodies.made l.bodies) l.fn.core l.core front later l.fn.round.items l.queue.items
    × ((script : List Sent) (start : Buffers) → StandsFor (g.B.Bodies.made l.bodies) script start l.fn.core → StandsFor (g.B.Bodies.made l.bodies) script start l.core)

abbrev pub decreases-loop-next : goal.decreases-loop-next
decreases-loop-next g l = length l.queue.items
