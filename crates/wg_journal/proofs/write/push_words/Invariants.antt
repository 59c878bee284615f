use Rattle.std.proofs.Common.{◌≡◌, ◌++◌, drop}
use Rattle.wg_journal.specs.Texts.{all_spaced}
use Rattle.wg_journal.proofs.write.push_words.Given as goal

-- the line so far and what is left make the whole line
abbrev pub invariant-loop-n : goal.invariant-loop-n
invariant-loop-n l = l.line.items ++ all_spaced (drop l.n-index l.words) ≡ l.fn.line.items ++ all_spaced l.words
