use Rattle.std.proofs.Common.{◌≡◌, ◌++◌, drop}
use Rattle.std.specs.Prelude.{map}
use Rattle.wg_tool.specs.Wiring.{node_of}
use Rattle.wg_tool.proofs.wiring.nodes_of.Given as goal

-- the nodes so far, and those of the pairs that are left
abbrev pub invariant-loop-pair : goal.invariant-loop-pair
invariant-loop-pair l = l.nodes ++ map node_of (drop l.pair-index l.pairs) ≡ map node_of l.pairs
