use Rattle.std.proofs.Common.{subst, sym}
use Rattle.wg_machine.specs.LaunchMeaning.{FitsShape}
use Rattle.wg_exchangers.specs.Graph.{forms_shape}
use Rattle.wg_exchangers.proofs.GoodGraph.{launch_fits}
use Rattle.wg_exchangers.proofs.graph.form_launch.Goals as goal

pub returns-clause-fits : goal.returns-clause-fits
returns-clause-fits c = subst (FitsShape forms_shape) (sym c.in_ok-launch.ensures) (launch_fits c.args.word)
