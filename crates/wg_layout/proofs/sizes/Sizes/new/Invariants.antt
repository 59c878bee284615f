use Rattle.std.proofs.Common.{◌≡◌, [], drop}
use Rattle.wg_layout.proofs.Capping.{table_after}
use Rattle.wg_layout.proofs.sizes.Sizes.new.Given as goal

abbrev pub invariant-loop-of : goal.invariant-loop-of
invariant-loop-of l = table_after l.sizes (drop l.of-index l.of-items) ≡ table_after [] l.structs
