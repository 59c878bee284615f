use Rattle.std.proofs.Common.{◌≡◌, take}
use Rattle.wg_semantics.specs.LaunchMeaning.{first_shared}
use Rattle.wg_launch.proofs.start.shared.Given as goal

abbrev pub invariant-loop-v : goal.invariant-loop-v
invariant-loop-v l = l.list ≡ first_shared l.structs (take l.v-index l.variables)
