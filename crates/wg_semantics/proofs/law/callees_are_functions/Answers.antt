use Rattle.wg_semantics.proofs.Callees.{function_found, function_missing}
use Rattle.wg_semantics.proofs.law.callees_are_functions.Goals as goal

pub returns : goal.returns
returns c = record { found = function_found; missing = function_missing }
