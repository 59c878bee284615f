use Rattle.std.proofs.Common.{◌≡◌, drop}
use Rattle.wg_typing.specs.AttributeArguments.{first_named}
use Rattle.wg_attribute_arguments.proofs.names.first_named.Given as goal

abbrev pub invariant-loop-a : goal.invariant-loop-a
invariant-loop-a l = first_named l.name (drop l.a-index l.list) ≡ first_named l.name l.list
