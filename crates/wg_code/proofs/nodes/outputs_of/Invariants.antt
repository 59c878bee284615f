use Rattle.std.proofs.Common.{◌≡◌, ◌≤◌, ◌^◌, min, drop}
use Rattle.wg_code.specs.Valid.{outputs_of}
use Rattle.wg_code.proofs.nodes.outputs_of.Given as goal

abbrev pub invariant-loop-unit : goal.invariant-loop-unit
invariant-loop-unit l =
    (min l.least (outputs_of (drop l.unit-index l.units) l.node) ≡ outputs_of l.units l.node) × (l.least ≤ 2 ^ 32)
