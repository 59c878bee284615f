use Rattle.wg_graph_rules.proofs.SetFlags.{Marked}
use Rattle.wg_graph_rules.proofs.links.mark.Given as goal

abbrev pub invariant-loop-e : goal.invariant-loop-e
invariant-loop-e l = Marked l.directory l.o l.fn.row l.e l.row
