use Rattle.wg_graph_rules.proofs.SameRecords.{lengths_differ}
use Rattle.wg_graph_rules.proofs.records.same_fields.Goals as goal

pub returns-then-fs-gs : goal.returns-then-fs-gs
returns-then-fs-gs c = lengths_differ c.args.fs.now c.args.gs.now c.if-fs-gs.true
