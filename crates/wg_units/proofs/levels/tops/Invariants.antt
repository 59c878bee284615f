use Rattle.std.proofs.Common.{◌≡◌, map}
use Rattle.std.specs.List.{range_with_len}
use Rattle.wg_shapes.specs.Level.{top_level}
use Rattle.wg_units.proofs.levels.tops.Given as goal

abbrev pub invariant-loop-n : goal.invariant-loop-n
invariant-loop-n l = l.tops ≡ map (top_level l.nodes) (range_with_len 0 l.n)
