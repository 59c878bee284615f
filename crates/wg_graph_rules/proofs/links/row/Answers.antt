use Rattle.std.proofs.Common.{◌∙◌, ◌≤◌, length, ap, arith}
use Rattle.std.specs.List.{list_any}
use Rattle.wg_machine.specs.Need.{is_target}
use Rattle.wg_chains.specs.Rows.{flag}
use Rattle.wg_node_attributes.specs.declared.attributes.OutputAttr.{OutputAttr}
use Rattle.wg_shapes.specs.Naming.{elements_of}
use Rattle.wg_graph_rules.proofs.SetFlags.{take_all}
use Rattle.wg_graph_rules.proofs.links.row.Goals as goal

pub returns-clause-flags : goal.returns-clause-flags
returns-clause-flags c nodes is m lt =
    ap (λ r. flag r m) c.from_vec.ensures
    ∙ (c.loop-o.invariant.flags nodes is m lt
    ∙ ap (list_any (λ (o : OutputAttr). list_any (is_target m) (elements_of nodes o))) (take_all c.args.outputs.now c.loop-o.o-index (let e : length c.args.outputs.now ≤ c.loop-o.o-index = omega arith in e)))
