use Rattle.wg_typing.proofs.Sizes.{extents_grow, struct_size_is, clashes_are}
use Rattle.wg_typing.proofs.law.what_stood_before_says.Goals as goal

pub returns : goal.returns
returns c = record { extents = extents_grow; size = struct_size_is; twice = clashes_are }
