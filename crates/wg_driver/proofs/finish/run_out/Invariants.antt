use Rattle.wg_driver.specs.Driving.{KeepsPlan}
use Rattle.wg_driver.proofs.finish.run_out.Given as goal

abbrev pub invariant-loop : goal.invariant-loop
invariant-loop g l = KeepsPlan l.fn.core l.core
