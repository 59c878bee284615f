use Rattle.std.proofs.Common.{◌||◌, ◌&&◌}
use Rattle.wg_chains.specs.Rows.{flag}
use Rattle.wg_chains.proofs.Squares.{Filled}
use Rattle.wg_chains.proofs.closure.either.Given as goal

abbrev pub invariant-loop-m : goal.invariant-loop-m
invariant-loop-m l = Filled (λ j. flag l.row j || (l.by && flag l.other j)) l.m l.flags
