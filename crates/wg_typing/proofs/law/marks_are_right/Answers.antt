use Rattle.wg_typing.proofs.Marks.{functions_are_marked}
use Rattle.wg_typing.proofs.law.marks_are_right.Goals as goal

pub returns : goal.returns
returns c = record { marked = functions_are_marked }
