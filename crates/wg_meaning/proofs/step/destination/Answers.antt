use Rattle.std.proofs.Common.{sym, subst}
use Rattle.wg_semantics.specs.StepMeaning.{destination_of}
use Rattle.wg_values.specs.Pieces.{setting_of}
use Rattle.wg_evaluation.specs.Says.{Says, callees_in}
use Rattle.wg_meaning.proofs.step.destination.Goals as goal

pub returns-in-Raw-clause-says : goal.returns-in-Raw-clause-says
returns-in-Raw-clause-says g c =
    subst (λ d. Says (destination_of (setting_of c.args.setting.now) (callees_in (g.C.Calls.reach c.args.calls.now) c.args.setting.now) d c.args.run.now.state c.args.run.now.turns) c.raw_destination.result c.raw_destination.new.run.state c.raw_destination.new.run.turns)
    (sym c.in-Raw.is) c.raw_destination.ensures.says
