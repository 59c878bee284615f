use Rattle.std.proofs.Common.{◌≡◌, take}
use Rattle.wg_machine.specs.Step.{numbers_of}
use Rattle.wg_plain.proofs.bag.are_numbers.Given as goal

abbrev pub invariant-loop-i : goal.invariant-loop-i
invariant-loop-i l = take l.i (numbers_of l.records) ≡ take l.i l.numbers
