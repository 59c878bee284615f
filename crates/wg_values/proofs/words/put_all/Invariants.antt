use Rattle.std.proofs.Common.{◌≡◌, ◌++◌, drop}
use Rattle.wg_typed.specs.Layout.{put}
use Rattle.wg_values.proofs.words.put_all.Given as goal

abbrev pub invariant-loop-part : goal.invariant-loop-part
invariant-loop-part l = l.list ++ put (drop l.part-index l.part-items) ≡ put l.part-items
