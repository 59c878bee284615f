use Rattle.std.proofs.Common.{subst, sym}
use Rattle.wg_machine.specs.declared.shape.Shape.{Shape}
use Rattle.wg_machine.specs.GoodShape.{IsGoodShape}
use Rattle.wg_machine.specs.LaunchMeaning.{FitsShape}
use Rattle.wg_outcomes.proofs.answer.answer_of.Goals as goal

pub guessed-requires-clause-good : goal.guessed-requires-clause-good
guessed-requires-clause-good c = subst IsGoodShape (sym c.into_code.ensures) c.in-Ok.ensures

pub guessed-requires-clause-fits : goal.guessed-requires-clause-fits
guessed-requires-clause-fits c = subst (λ (s : Shape). FitsShape s c.in-Some.launch) (sym c.into_code.ensures) c.in-Some.ensures
