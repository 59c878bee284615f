use Rattle.std.proofs.Common.{◌≡◌}
use Rattle.wg_keep.specs.Entries.{left_from}
use Rattle.wg_keep.proofs.entries.next_entry.Given as goal

abbrev pub invariant-loop-place : goal.invariant-loop-place
invariant-loop-place l = left_from l.shape l.place l.entries ≡ left_from l.shape l.fn.from l.entries
