use Rattle.std.proofs.Common.{◌≡◌, ◌++◌, drop}
use Rattle.wg_node_attributes.specs.Budgets.{owners}
use Rattle.wg_node_reading.proofs.budgets.owners.Given as goal

abbrev pub invariant-loop-number : goal.invariant-loop-number
invariant-loop-number l = l.owners ++ owners l.parameters (drop l.number-index l.outputs) ≡ owners l.parameters l.outputs
