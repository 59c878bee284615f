use Rattle.std.proofs.Common.{◌&&◌, ◌==◌, not}
use Rattle.wg_chains.specs.Rows.{flag}
use Rattle.wg_chains.proofs.Squares.{Filled}
use Rattle.wg_chains.proofs.cycles.joined.Given as goal

abbrev pub invariant-loop-m : goal.invariant-loop-m
invariant-loop-m l = Filled (λ j. flag l.row j && not (l.n == j && l.declared)) l.m l.flags
