use Rattle.std.proofs.Common.{◌≡◌, ◌∙◌, sym, arith}
use Rattle.wg_wanted.proofs.After.{goals_over}
use Rattle.wg_wanted.proofs.fitting.goals.Goals as goal

pub returns : goal.returns
returns c = sym (goals_over c.loop-part.types.now c.args.parts.now c.loop-part.part-index c.loop-part.notes.list (omega (arith, c.loop-part-test.false))) ∙ c.loop-part.invariant
