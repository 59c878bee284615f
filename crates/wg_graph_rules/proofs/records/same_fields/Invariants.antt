use Rattle.std.proofs.Common.{◌≡◌, drop}
use Rattle.wg_graph_rules.specs.RecordDiffers.{same_fields}
use Rattle.wg_graph_rules.proofs.records.same_fields.Given as goal

abbrev pub invariant-loop-i : goal.invariant-loop-i
invariant-loop-i l = same_fields (drop l.i l.fs) (drop l.i l.gs) ≡ same_fields l.fs l.gs
