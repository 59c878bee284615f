use Rattle.std.proofs.Common.{◌≡◌, map, take}
use Rattle.wg_semantics.specs.LaunchMeaning.{first_value}
use Rattle.wg_launch.proofs.start.values_at_first.Given as goal

abbrev pub invariant-loop-v : goal.invariant-loop-v
invariant-loop-v l = l.list ≡ map (first_value l.structs l.at.group l.at.threads l.at.lane) (take l.v-index l.v-items)
