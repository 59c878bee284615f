use Rattle.std.proofs.Common.{◌≡◌, ◌++◌, ◌-◌}
use Rattle.wg_semantics.specs.LaunchMeaning.{first_values, first_lanes}
use Rattle.wg_launch.proofs.group.lanes_of.Given as goal

abbrev pub invariant-loop-lane : goal.invariant-loop-lane
invariant-loop-lane l =
    let values = first_values l.entry.text.now.structs l.entry.function.now l.group l.entry.threads in
    l.list ++ first_lanes values l.lane (l.count - l.lane) ≡ first_lanes values 0 l.count
