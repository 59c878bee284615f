use Rattle.std.proofs.Common.{◌≡◌, drop}
use Rattle.wg_machine.specs.Step.{first_grid, taken}
use Rattle.wg_plain.proofs.bag.grid_of_first.Given as goal

abbrev pub invariant-loop-live : goal.invariant-loop-live
invariant-loop-live l = first_grid (taken l.numbers (drop l.live-index l.bag)) ≡ first_grid (taken l.numbers l.bag)
