use Rattle.std.proofs.Common.{◌≡◌, ◌∷◌, drop}
use Rattle.wg_journal.specs.Reading.{is_some_rising}
use Rattle.wg_journal.proofs.lines.is_some_rising.Given as goal

-- all rises where what is left rises from the last number on
abbrev pub invariant-loop-n : goal.invariant-loop-n
invariant-loop-n l = is_some_rising (l.last ∷ drop l.n-index l.rest) ≡ is_some_rising l.numbers
