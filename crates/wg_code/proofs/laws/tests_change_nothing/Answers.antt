use Rattle.wg_code.proofs.NeverWrong.{launch_alike}
use Rattle.wg_code.proofs.laws.tests_change_nothing.Goals as goal

pub returns : goal.returns
returns c = λ code launch buffers turns checked good fits. (launch_alike code launch buffers turns checked good fits).0
