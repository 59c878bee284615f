use Rattle.std.proofs.Common.{◌≤◌, ◌-◌, IsTrue, List, length}
use Rattle.wg_machine.specs.declared.launch.Sent.{Sent}
use Rattle.wg_machine.specs.Buffers.{Buffers}
use Rattle.wg_machine.specs.LaunchMeaning.{Meaning}
use Rattle.wg_standing.specs.declared.pending.Pending.{Pending}
use Rattle.wg_standing.specs.Standing.{StandsFor}
use Rattle.wg_rounds.specs.Ahead.{NothingRead}
use Rattle.wg_rounds.proofs.Opening.{OpensSoFar}
use Rattle.wg_rounds.proofs.rounds.open_round.Given as goal

-- the launches opened so far, with a guess of each
abbrev pub invariant-loop-core : goal.invariant-loop-core
invariant-loop-core g l =
    (os : List Pending)
    × OpensSoFar (g.B.Bodies.made l.bodies) l.fn.core l.core os l.round.items
    × (length l.round.items ≤ l.workers)
    × (IsTrue (g.B.Bodies.quiet l.bodies) → NothingRead l.round.items)
    × ((made : Meaning) (script : List Sent) (start : Buffers) → StandsFor made script start l.fn.core → StandsFor made script start l.core)

abbrev pub decreases-loop-core : goal.decreases-loop-core
decreases-loop-core g l = l.workers - length l.round.items
