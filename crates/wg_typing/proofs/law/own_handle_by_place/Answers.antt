use Rattle.wg_typing.proofs.Handles.{own_handle_is}
use Rattle.wg_typing.proofs.law.own_handle_by_place.Goals as goal

pub returns : goal.returns
returns c = record { own = own_handle_is }
