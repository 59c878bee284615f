use Rattle.std.proofs.Common.{◌≡◌, drop}
use Rattle.wg_typing.specs.AttributeSites.{record_fields}
use Rattle.wg_attribute_rules.proofs.walk.record_fields.Given as goal

abbrev pub invariant-loop-p : goal.invariant-loop-p
invariant-loop-p l = record_fields l.structs (drop l.p-index l.parameters) ≡ record_fields l.structs l.parameters
