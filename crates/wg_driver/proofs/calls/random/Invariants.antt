use Rattle.wg_driver.specs.Driving.{AreTrue, KeepsPlan}
use Rattle.wg_driver.proofs.calls.random.Given as goal

-- the graph and the limits stay, and each guess is true
abbrev pub invariant-loop : goal.invariant-loop
invariant-loop g l =
    KeepsPlan l.fn.core l.core × AreTrue (g.B.Bodies.graph l.bodies) (g.B.Bodies.made l.bodies) l.fn.core.limits.turns l.guesses.items
