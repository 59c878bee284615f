use Rattle.std.proofs.Common.{◌≡◌, drop}
use Rattle.wg_typed.specs.Layout.{extents_after, extents_of}
use Rattle.wg_values.proofs.structs.extents.Given as goal

abbrev pub invariant-loop-s : goal.invariant-loop-s
invariant-loop-s l = extents_after l.list (drop l.s-index l.structs) ≡ extents_of l.structs
