use Rattle.std.proofs.Common.{◌∙◌, ◌+◌, ◌-◌, ℕ, slice_get, unwrap_or, ap₂, sym, subst, arith}
use Rattle.wg_shapes.specs.Chain.{IsLongest}
use Rattle.wg_shapes.specs.Level.{Sends}
use Rattle.wg_graph.proofs.Tables.{depth_small, depth_there, top_there, top_low}
use Rattle.wg_graph.proofs.fields.depth.Goals as goal

pub overflow_sub-result : goal.overflow_sub-result
overflow_sub-result c =
    let t = c.at-2.ensures ∙ top_there c.args.nodes.now c.args.known.now.levels.tops c.args.n c.requires.known.tops c.requires.within in
    let l = c.requires.level in
    omega (arith, t, l)

pub overflow_add-result : goal.overflow_add-result
overflow_add-result c =
    let t = c.at-2.ensures ∙ top_there c.args.nodes.now c.args.known.now.levels.tops c.args.n c.requires.known.tops c.requires.within in
    let low = top_low c.args.nodes.now c.args.known.now.levels.tops c.args.n c.requires.known.tops c.requires.known.levels.low c.requires.within in
    let d = c.at.ensures in
    let small = depth_small c.args.nodes.now c.args.known.now.graph.depths c.args.n c.requires.known.depths c.requires.known.kept.none c.requires.within in
    omega (arith, t, low, d, small)

pub returns : goal.returns
returns c =
    let t = c.at-2.ensures ∙ top_there c.args.nodes.now c.args.known.now.levels.tops c.args.n c.requires.known.tops c.requires.within in
    subst (λ (k : ℕ). IsLongest (Sends c.args.nodes.now) k (c.args.n, c.args.level))
    (sym (ap₂ (λ (d : ℕ) (top : ℕ). d + (top - c.args.level)) c.at.ensures t))
    (c.lower_levels_are_deeper.ensures.deeper c.args.nodes.now c.args.known.now.graph.depths c.args.n (unwrap_or (slice_get c.args.known.now.graph.depths c.args.n) 0) c.args.level c.requires.known.depths c.requires.known.kept.none
    (depth_there c.args.nodes.now c.args.known.now.graph.depths c.args.n c.requires.known.depths c.requires.within) c.requires.level)
