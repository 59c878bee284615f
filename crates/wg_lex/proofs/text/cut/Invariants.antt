use Rattle.std.proofs.Common.{◌≡◌, ◌≤◌, ◌-◌, length, take}
use Rattle.wg_tokens.specs.LexicalRules.{most_bytes}
use Rattle.wg_lex.specs.Positions.{position_after}
use Rattle.wg_lex.proofs.Cutting.{SoFar}
use Rattle.wg_lex.proofs.text.cut.Given as goal

abbrev pub invariant-loop-at : goal.invariant-loop-at
invariant-loop-at l = (length l.text ≤ most_bytes) × SoFar l.text l.at l.tokens.items × (l.position ≡ position_after (take l.at l.text))

abbrev pub decreases-loop-at : goal.decreases-loop-at
decreases-loop-at l = length l.text - l.at
