use Rattle.std.proofs.Common.{◌≡◌}
use Rattle.wg_code.specs.FrameMeaning.{with_words}
use Rattle.wg_lane.proofs.lane.records_with.Given as goal

abbrev pub invariant-loop-words : goal.invariant-loop-words
invariant-loop-words l = l.list ≡ with_words l.records l.yielded
