use Rattle.wg_machine.proofs.Named.{named_groups}
use Rattle.wg_machine.proofs.laws.entries_name_groups.Goals as goal

pub returns : goal.returns
returns c = named_groups
