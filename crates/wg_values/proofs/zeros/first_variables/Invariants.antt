use Rattle.std.proofs.Common.{◌≡◌, ◌++◌, take}
use Rattle.wg_semantics.specs.FunctionMeaning.{fresh}
use Rattle.wg_values.proofs.zeros.first_variables.Given as goal

abbrev pub invariant-loop-local : goal.invariant-loop-local
invariant-loop-local l = l.list ≡ l.fn.values ++ fresh l.structs (take l.local-index l.local-items)
