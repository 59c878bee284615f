use Rattle.wg_typing.proofs.FirstFault.{first_is_break, first_leads, none_first}
use Rattle.wg_typing.proofs.law.first_fault_is_least.Goals as goal

pub returns : goal.returns
returns c = record { broken = first_is_break; least = first_leads; none = none_first }
