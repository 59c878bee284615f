use Rattle.wg_additive.proofs.Additions.{quiet_if_additive}
use Rattle.wg_additive.proofs.law.additive_is_quiet.Goals as goal

pub returns : goal.returns
returns c = record { quiet = quiet_if_additive }
