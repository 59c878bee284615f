use Rattle.std.proofs.Common.{◌≡◌, ◌<◌, ℕ, List, length, take}
use Rattle.std.specs.List.{list_any}
use Rattle.wg_machine.specs.Need.{is_target}
use Rattle.wg_node_attributes.specs.declared.attributes.NodeAttrs.{NodeAttrs}
use Rattle.wg_node_attributes.specs.declared.attributes.OutputAttr.{OutputAttr}
use Rattle.wg_shapes.specs.Naming.{elements_of}
use Rattle.wg_chains.specs.Rows.{flag}
use Rattle.wg_directories.specs.Listed.{IsDirectory}
use Rattle.wg_graph_rules.proofs.links.row.Given as goal

abbrev pub invariant-loop-o : goal.invariant-loop-o
invariant-loop-o l = record {
  size : length l.row.items ≡ l.count;
  flags : (nodes : List NodeAttrs) → IsDirectory nodes l.directory → (m : ℕ) → m < l.count → flag l.row.items m ≡ list_any (λ (o : OutputAttr). list_any (is_target m) (elements_of nodes o)) (take l.o-index l.outputs);
}
