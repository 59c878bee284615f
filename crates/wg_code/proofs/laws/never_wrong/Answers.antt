use Rattle.wg_code.proofs.NeverWrong.{never_wrong}
use Rattle.wg_code.proofs.laws.never_wrong.Goals as goal

pub returns : goal.returns
returns c = never_wrong
