use Rattle.wg_tree.proofs.TextFaults.{sound, whole}
use Rattle.wg_tree.proofs.law.reads_what_is_spelled.Goals as goal

pub returns-clause-only : goal.returns-clause-only
returns-clause-only c = sound

pub returns-clause-each : goal.returns-clause-each
returns-clause-each c = whole
