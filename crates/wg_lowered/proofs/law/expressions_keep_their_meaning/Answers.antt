use Rattle.wg_lowered.proofs.Expressions.{values_are_left}
use Rattle.wg_lowered.proofs.law.expressions_keep_their_meaning.Goals as goal

pub returns : goal.returns
returns c = record { value = values_are_left }
