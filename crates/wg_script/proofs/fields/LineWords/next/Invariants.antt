use Rattle.std.proofs.Common.{◌≡◌, length}
use Rattle.std.specs.List.{filter}
use Rattle.wg_script.specs.Words.{is_some_text}
use Rattle.wg_script.proofs.fields.LineWords.next.Given as goal

-- what was passed was empty
abbrev pub invariant-loop-piece : goal.invariant-loop-piece
invariant-loop-piece l = filter is_some_text l.self-inside.pieces ≡ l.fn.self

abbrev pub decreases-loop-piece : goal.decreases-loop-piece
decreases-loop-piece l = length l.self-inside.pieces
