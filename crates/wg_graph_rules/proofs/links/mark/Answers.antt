use Rattle.std.proofs.Common.{◌+◌, ◌∙◌, ap}
use Rattle.wg_directories.specs.Listed.{listed_at}
use Rattle.wg_graph_rules.proofs.SetFlags.{more_marked}
use Rattle.wg_graph_rules.proofs.links.mark.Goals as goal

pub loop-e-preserved : goal.loop-e-preserved
loop-e-preserved c =
    more_marked c.args.directory.now c.args.o.now c.args.row.now c.loop-e.e c.loop-e.row c.set.new.row c.find.result c.loop-e.invariant
    (c.find.ensures ∙ ap (λ name. listed_at c.args.directory.now name (c.args.o.now.index + c.loop-e.e)) c.as_slice.ensures)
    c.set.ensures.size c.set.ensures.flags
