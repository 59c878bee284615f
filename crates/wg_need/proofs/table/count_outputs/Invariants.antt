use Rattle.std.proofs.Common.{◌≡◌, ◌-◌, ◌^◌, length, take}
use Rattle.std.specs.Prelude.{min}
use Rattle.std.specs.List.{sum_by}
use Rattle.wg_machine.specs.declared.shape.Unit.{Unit}
use Rattle.wg_need.proofs.table.count_outputs.Given as goal

-- the outputs of the units so far are counted
abbrev pub invariant-loop-unit : goal.invariant-loop-unit
invariant-loop-unit l = l.count ≡ min (sum_by (λ (unit : Unit). length unit.outputs) (take l.unit-index l.units)) (2 ^ 64 - 1)
