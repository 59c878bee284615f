use Rattle.wg_graph.proofs.Listings.{budget_more}
use Rattle.wg_graph.proofs.budgets.budgets_of.Goals as goal

pub loop-budget-preserved : goal.loop-budget-preserved
loop-budget-preserved c = budget_more c.args.outputs.now c.loop-budget.budget c.loop-budget.budgets c.push.new.self c.most_of.result c.loop-budget.invariant c.most_of.ensures c.in_ok-push.ensures.ok
