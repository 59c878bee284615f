use Rattle.std.proofs.Common.{◌≡◌, ◌+◌, ◌<◌, ℕ, false}
use Rattle.wg_directories.specs.Listed.{listed_at}
use Rattle.wg_graph_rules.specs.RecordDiffers.{refuses_at}
use Rattle.wg_graph_rules.proofs.records.differs.Given as goal

abbrev pub invariant-loop-e : goal.invariant-loop-e
invariant-loop-e l = (i : ℕ) → i < l.e → refuses_at l.typed l.nodes l.sent (listed_at l.directory l.o.name (l.o.index + i)) ≡ false
