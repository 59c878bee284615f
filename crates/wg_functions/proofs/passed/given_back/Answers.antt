use Rattle.std.proofs.Common.{◌∙◌, sym, arith}
use Rattle.wg_functions.proofs.Returned.{given_over}
use Rattle.wg_functions.proofs.passed.given_back.Goals as goal

pub returns : goal.returns
returns c = sym (given_over c.loop-part.parameters.now c.args.parts.now c.loop-part.part-index c.loop-part.notes.list (omega (arith, c.loop-part-test.false))) ∙ c.loop-part.invariant
