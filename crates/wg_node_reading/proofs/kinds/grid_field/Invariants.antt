use Rattle.std.proofs.Common.{◌≡◌, drop}
use Rattle.wg_node_attributes.specs.Kinds.{grid_field_from}
use Rattle.wg_node_reading.proofs.kinds.grid_field.Given as goal

abbrev pub invariant-loop-number : goal.invariant-loop-number
invariant-loop-number l = grid_field_from l.number (drop l.number l.fields) ≡ grid_field_from 0 l.fields
