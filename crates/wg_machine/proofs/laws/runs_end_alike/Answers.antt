use Rattle.wg_machine.proofs.Confluence.{same_end}
use Rattle.wg_machine.proofs.laws.runs_end_alike.Goals as goal

pub returns : goal.returns
returns c = same_end
