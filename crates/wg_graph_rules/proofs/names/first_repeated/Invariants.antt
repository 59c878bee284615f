use Rattle.std.proofs.Common.{◌≡◌, take, drop}
use Rattle.wg_shapes.specs.TwoOfOneName.{named_before, two_of_one_name}
use Rattle.wg_graph_rules.specs.Faults.{first_of}
use Rattle.wg_graph_rules.proofs.names.first_repeated.Given as goal

-- the first repeated name is among the nodes that are left
abbrev pub invariant-loop-n : goal.invariant-loop-n
invariant-loop-n l = first_of (named_before l.typed (take l.n l.nodes) (drop l.n l.nodes)) ≡ first_of (two_of_one_name l.typed l.nodes)
