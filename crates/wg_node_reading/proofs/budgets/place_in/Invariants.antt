use Rattle.std.proofs.Common.{◌≡◌, ◌+◌, drop}
use Rattle.wg_node_attributes.specs.Budgets.{place_in}
use Rattle.wg_node_reading.proofs.budgets.place_in.Given as goal

abbrev pub invariant-loop-other : goal.invariant-loop-other
invariant-loop-other l = l.place + place_in (drop l.other-index l.list) l.number ≡ place_in l.list l.number
