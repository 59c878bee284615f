use Rattle.std.proofs.Common.{◌≡◌, drop}
use Rattle.std.specs.List.{list_all}
use Rattle.wg_code.specs.Valid.{is_valid_function}
use Rattle.wg_code.proofs.nodes.functions_fit.Given as goal

abbrev pub invariant-loop-function : goal.invariant-loop-function
invariant-loop-function l = list_all (is_valid_function l.code) (drop l.function-index l.code.functions) ≡ list_all (is_valid_function l.code) l.code.functions
