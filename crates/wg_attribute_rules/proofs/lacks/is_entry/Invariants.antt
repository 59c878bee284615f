use Rattle.std.proofs.Common.{◌≡◌, drop}
use Rattle.wg_typing.specs.AttributeArguments.{is_entry}
use Rattle.wg_attribute_rules.proofs.lacks.is_entry.Given as goal

abbrev pub invariant-loop-a : goal.invariant-loop-a
invariant-loop-a l = is_entry (drop l.a-index l.list) ≡ is_entry l.list
