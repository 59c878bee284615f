use Rattle.std.proofs.Common.{◌∙◌, ◌+◌, arith}
use Rattle.wg_graph.proofs.Fullness.{no_levels, more_levels}
use Rattle.wg_graph.proofs.Tables.{top_there}
use Rattle.wg_graph.proofs.filling.add_units.Goals as goal

pub loop-left-init : goal.loop-left-init
loop-left-init c =
    let t = c.at-left.ensures ∙ top_there c.args.nodes.now c.args.known.now.levels.tops c.args.n c.requires.known.tops c.requires.within in
    no_levels c.args.typed.now c.args.nodes.now c.args.n (c.at-left.result + 1) c.args.units.now (omega (arith, t))

pub loop-left-preserved : goal.loop-left-preserved
loop-left-preserved c =
    more_levels c.args.typed.now c.args.nodes.now c.args.n c.loop-left.left _ c.args.units.now c.loop-left.units c.push.new.self c.in_ok-made.made c.loop-left.invariant (omega arith) c.in_ok-made.ensures.place c.in_ok-made.ensures.right c.in_ok-push.ensures.ok
