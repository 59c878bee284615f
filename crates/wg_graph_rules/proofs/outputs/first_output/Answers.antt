use Rattle.std.proofs.Common.{◌∙◌, sym, ap, arith}
use Rattle.wg_shapes.specs.Places.{outputs_where}
use Rattle.wg_graph_rules.specs.Faults.{first_of}
use Rattle.wg_graph_rules.specs.OutputRules.{is_broken}
use Rattle.wg_graph_rules.proofs.FirstOnes.{node_passes}
use Rattle.wg_graph_rules.proofs.outputs.first_output.Goals as goal

pub returns-in-Some : goal.returns-in-Some
returns-in-Some c =
    sym (node_passes c.args.typed.now (is_broken c.args.typed.now c.args.nodes.now c.args.rule) c.args.nodes.now c.loop-a.a-index c.a-item.result c.in-Some.place (omega arith) c.a-item.is
    (sym c.in-Some.is ∙ (c.first_in.ensures ∙ ap (λ os. first_of (outputs_where c.args.typed.now (is_broken c.args.typed.now c.args.nodes.now c.args.rule c.a-item.result) c.a-item.result os)) c.as_slice-outputs.ensures)))
    ∙ c.loop-a.invariant
