use Rattle.std.proofs.Common.{sym, subst}
use Rattle.wg_semantics.specs.StepMeaning.{step_does}
use Rattle.wg_values.specs.Pieces.{setting_of}
use Rattle.wg_evaluation.specs.Says.{Says, callees_in}
use Rattle.wg_meaning.proofs.step.step.Goals as goal

pub returns-in-Store-clause-says : goal.returns-in-Store-clause-says
returns-in-Store-clause-says g c =
    subst (λ s. Says (step_does (setting_of c.args.setting.now) (callees_in (g.C.Calls.reach c.args.calls.now) c.args.setting.now) s c.args.run.now.state c.args.run.now.turns) c.raw_store.result c.raw_store.new.run.state c.raw_store.new.run.turns)
    (sym c.in-Store.is) c.raw_store.ensures.says
