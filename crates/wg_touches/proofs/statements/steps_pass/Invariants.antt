use Rattle.std.proofs.Common.{◌≡◌, drop}
use Rattle.wg_touches.specs.Passing.{steps_pass}
use Rattle.wg_touches.proofs.statements.steps_pass.Given as goal

abbrev pub invariant-loop-step : goal.invariant-loop-step
invariant-loop-step l = steps_pass l.stores l.functions (drop l.step-index l.steps) ≡ steps_pass l.stores l.functions l.steps
