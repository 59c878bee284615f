use Rattle.std.proofs.Common.{◌≡◌, take}
use Rattle.wg_hold.specs.Parts.{slots_in}
use Rattle.wg_hold.proofs.steps.total.Given as goal

abbrev pub invariant-loop-count : goal.invariant-loop-count
invariant-loop-count l = l.total ≡ slots_in (take l.count-index l.counts)
