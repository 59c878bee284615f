use Rattle.wg_evaluation.proofs.expr.read_components.Goals as goal

pub returns : goal.returns
returns c = c.in_ok-at.ensures c.args.run.now.turns
