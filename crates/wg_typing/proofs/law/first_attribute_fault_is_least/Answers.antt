use Rattle.wg_typing.proofs.FirstFault.{first_attribute_is_break, first_attribute_leads, none_first_attribute}
use Rattle.wg_typing.proofs.law.first_attribute_fault_is_least.Goals as goal

pub returns : goal.returns
returns c = record { broken = first_attribute_is_break; least = first_attribute_leads; none = none_first_attribute }
