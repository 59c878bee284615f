use Rattle.std.proofs.Common.{◌≡◌, drop}
use Rattle.wg_code.specs.Given.{scope_of}
use Rattle.wg_code.specs.Valid.{parts_valid}
use Rattle.wg_code.proofs.nodes.+parts.Given as goal

abbrev pub invariant-parts_fit-loop-part : goal.invariant-parts_fit-loop-part
invariant-parts_fit-loop-part l = parts_valid (scope_of l.k) (drop l.part-index l.parts) ≡ parts_valid (scope_of l.k) l.parts
