use Rattle.std.proofs.Common.{◌≡◌, drop}
use Rattle.wg_code.specs.Valid.{are_valid_nodes}
use Rattle.wg_code.proofs.nodes.nodes_fit.Given as goal

abbrev pub invariant-loop-at : goal.invariant-loop-at
invariant-loop-at l = are_valid_nodes l.code l.at (drop l.at l.code.nodes) ≡ are_valid_nodes l.code 0 l.code.nodes
