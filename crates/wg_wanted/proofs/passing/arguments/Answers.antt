use Rattle.std.proofs.Common.{◌≡◌, ◌∙◌, sym, arith}
use Rattle.wg_wanted.proofs.After.{passed_over}
use Rattle.wg_wanted.proofs.passing.arguments.Goals as goal

pub returns : goal.returns
returns c = sym (passed_over c.loop-part.parameters.now c.args.parts.now c.loop-part.part-index c.loop-part.notes.list (omega (arith, c.loop-part-test.false))) ∙ c.loop-part.invariant
