use Rattle.std.proofs.Common.{◌&&◌, ◌||◌, length}
use Rattle.wg_chains.specs.Rows.{leads}
use Rattle.wg_chains.proofs.Squares.{RowsFilled}
use Rattle.wg_chains.proofs.closure.through.Given as goal

abbrev pub invariant-loop-i : goal.invariant-loop-i
invariant-loop-i l = RowsFilled (λ i j. leads l.rows i j || (leads l.rows i l.k && leads l.rows l.k j)) (length l.rows) l.i l.next
