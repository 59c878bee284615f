use Rattle.std.proofs.Common.{◌≡◌}
use Rattle.wg_meaning.specs.Reach.{reach_of}
use Rattle.wg_meaning.proofs.depth.depth_of.Given as goal

abbrev pub invariant-loop-i : goal.invariant-loop-i
invariant-loop-i l = reach_of l.depth ≡ l._i
