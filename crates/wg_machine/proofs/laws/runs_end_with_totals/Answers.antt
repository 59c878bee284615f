use Rattle.wg_machine.proofs.Confluence.{ends}
use Rattle.wg_machine.proofs.laws.runs_end_with_totals.Goals as goal

pub returns : goal.returns
returns c = ends
