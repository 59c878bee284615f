use Rattle.wg_driver.specs.Driving.{AreTrue, KeepsPlan}
use Rattle.wg_driver.proofs.calls.call_all.Given as goal

-- the graph and the limits stay, and each guess is true
abbrev pub invariant-loop-command : goal.invariant-loop-command
invariant-loop-command g l =
    KeepsPlan l.fn.core l.core × AreTrue (g.B.Bodies.graph l.bodies) (g.B.Bodies.made l.bodies) l.fn.core.limits.turns l.guesses.items
