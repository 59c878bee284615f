use Rattle.std.proofs.Common.{◌≡◌, map}
use Rattle.std.specs.List.{range_with_len}
use Rattle.wg_units.specs.Numbers.{first_unit}
use Rattle.wg_units.proofs.levels.firsts.Given as goal

abbrev pub invariant-loop-n : goal.invariant-loop-n
invariant-loop-n l = record { list : l.firsts ≡ map (first_unit l.tops) (range_with_len 0 l.n); at : l.at ≡ first_unit l.tops l.n }
