use Rattle.std.proofs.Common.{◌≡◌}
use Rattle.wg_semantics.specs.Places.{words_from}
use Rattle.wg_values.proofs.words.cut.Given as goal

abbrev pub invariant-loop-i : goal.invariant-loop-i
invariant-loop-i l = l.list ≡ words_from l.words l.from l.i
