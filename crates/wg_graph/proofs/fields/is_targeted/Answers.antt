use Rattle.std.proofs.Common.{◌≡◌, ◌∙◌, ◌+◌, ◌&&◌, ◌==◌, not, sym, ap, length, arith}
use Rattle.wg_shapes.specs.Naming.{targets}
use Rattle.wg_graph.proofs.Listings.{one_passes, none_passes, passes_here}
use Rattle.wg_graph.proofs.fields.is_targeted.Goals as goal

pub returns-then-m-n : goal.returns-then-m-n
returns-then-m-n c =
    sym (one_passes (λ m. not (m == c.args.n) && targets c.args.nodes.now m c.args.n) 0 (length c.args.nodes.now) c.loop-m.m (omega arith)
    (passes_here c.args.nodes.now c.loop-m.m c.args.n c.leads.result (c.leads.ensures ∙ c.requires.links.same c.loop-m.m c.args.n) c.if-m-n.true))

pub returns : goal.returns
returns c = sym (none_passes (λ m. not (m == c.args.n) && targets c.args.nodes.now m c.args.n) 0 (length c.args.nodes.now) (λ i lt. let z : 0 + i ≡ i = omega arith in ap (λ k. not (k == c.args.n) && targets c.args.nodes.now k c.args.n) z ∙ c.loop-m.invariant i (omega (arith, lt))))
