use Rattle.wg_typing.proofs.Texts.{has_typed}
use Rattle.wg_typing.proofs.law.well_typed_has_its_form.Goals as goal

pub returns : goal.returns
returns c = record { form = has_typed }
