use Rattle.std.proofs.Common.{◌≡◌, ◌++◌, drop}
use Rattle.wg_values.proofs.words.put_one.Given as goal

abbrev pub invariant-loop-word : goal.invariant-loop-word
invariant-loop-word l = l.list ++ drop l.word-index l.more ≡ l.initial.list ++ l.more
