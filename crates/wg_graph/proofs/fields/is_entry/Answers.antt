use Rattle.std.proofs.Common.{◌∙◌, ◌&&◌, ◌||◌, ◌==◌, ℕ, Bool, not, ap₂}
use Rattle.wg_graph.proofs.Tables.{top_there}
use Rattle.wg_graph.proofs.fields.is_entry.Goals as goal

pub returns : goal.returns
returns c =
    ap₂ (λ (top : ℕ) (b : Bool). (c.args.level == top) && (c.args.a.now.marked || not b))
    (c.at.ensures ∙ top_there c.args.nodes.now c.args.known.now.levels.tops c.args.n c.requires.known.tops c.requires.within) c.is_targeted.ensures
