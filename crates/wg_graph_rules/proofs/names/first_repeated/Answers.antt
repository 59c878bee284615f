use Rattle.std.proofs.Common.{◌≡◌, ◌∙◌, ◌<◌, Some, true, false, length, ap, sym, arith}
use Rattle.wg_machine.specs.Need.{is_target}
use Rattle.wg_shapes.specs.Naming.{node_named}
use Rattle.wg_directories.specs.Listed.{listed_at}
use Rattle.wg_graph_rules.specs.Faults.{first_of}
use Rattle.wg_graph_rules.proofs.Repeats.{repeated, not_repeated}
use Rattle.wg_graph_rules.proofs.names.first_repeated.Goals as goal

pub returns-then-not-is_at : goal.returns-then-not-is_at
returns-then-not-is_at c =
    let a = c.index-nodes-n.result in
    let n = c.loop-n.n in
    let lt : n < length c.args.nodes.now = omega arith in
    let found : c.find-found.result ≡ node_named c.args.nodes.now a.name a.index = c.find-found.ensures ∙ (ap (λ name. listed_at c.args.directory.now name a.index) c.as_slice.ensures ∙ c.requires a.name a.index) in
    let not_there : is_target n (node_named c.args.nodes.now a.name a.index) ≡ false = ap (is_target n) (sym found) ∙ (sym c.is_at.ensures ∙ c.if-not-is_at.true) in
    ap (λ p. Some p) c.node_place.ensures ∙ (sym (repeated c.args.typed.now c.args.nodes.now n a lt c.index-nodes-n.is not_there) ∙ c.loop-n.invariant)

pub loop-n-preserved : goal.loop-n-preserved
loop-n-preserved c =
    let a = c.index-nodes-n.result in
    let n = c.loop-n.n in
    let lt : n < length c.args.nodes.now = omega arith in
    let found : c.find-found.result ≡ node_named c.args.nodes.now a.name a.index = c.find-found.ensures ∙ (ap (λ name. listed_at c.args.directory.now name a.index) c.as_slice.ensures ∙ c.requires a.name a.index) in
    let there : is_target n (node_named c.args.nodes.now a.name a.index) ≡ true = ap (is_target n) (sym found) ∙ (sym c.is_at.ensures ∙ c.if-not-is_at.false) in
    ap first_of (sym (not_repeated c.args.typed.now c.args.nodes.now n a lt c.index-nodes-n.is there)) ∙ c.loop-n.invariant
