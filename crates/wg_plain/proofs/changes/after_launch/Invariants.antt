use Rattle.std.proofs.Common.{◌≡◌}
use Rattle.wg_machine.specs.Step.{left_after}
use Rattle.wg_plain.proofs.changes.after_launch.Given as goal

abbrev pub invariant-loop-live : goal.invariant-loop-live
invariant-loop-live l = l.left ≡ left_after l.numbers l.at l.new l.yielded
