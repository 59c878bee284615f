use Rattle.std.proofs.Common.{◌≡◌, ◌-◌, ◌+◌, ◌*◌}
use Rattle.wg_tokens.specs.Classes.{class}
use Rattle.wg_grammar.specs.Productions.{of, list}
use Rattle.wg_grammar.specs.Reading.{many_from}
use Rattle.wg_expressions.specs.Levels.{link_starts, read_above}
use Rattle.wg_tree.specs.GrammarExpr.{link}
use Rattle.wg_cursor.specs.Turns.{with_front}
use Rattle.wg_expressions.proofs.inner.Inner.+level.Given as goal

abbrev pub decreases-level : goal.decreases-level
decreases-level g l = 4 * l.level + 3

abbrev pub decreases-chain : goal.decreases-chain
decreases-chain g l = 4 * l.level + 2

abbrev pub decreases-links : goal.decreases-links
decreases-links g l = 4 * l.level + 1

abbrev pub decreases-link : goal.decreases-link
decreases-link g l = 4 * l.level

abbrev pub invariant-links-loop-turn : goal.invariant-links-loop-turn
invariant-links-loop-turn g l = with_front l.found.items (many_from (of class (link_starts l.self.kind (l.level - 1) l.level)) (read_above l.self.kind l.self.room (l.level - 1) (link l.level)) (l._turn-end - l._turn) l.cursor) ≡ read_above l.self.kind l.self.room (l.level - 1) (list (link l.level)) l.fn.cursor
