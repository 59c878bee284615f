use Rattle.std.proofs.Common.{◌≡◌, ◌+◌, ◌-◌, ◌*◌}
use Rattle.wg_grammar.specs.Reading.{many, many_from}
use Rattle.wg_grammar.specs.Productions.{of}
use Rattle.wg_tokens.specs.Classes.{class}
use Rattle.wg_tree.specs.ReadsStmt as reads
use Rattle.wg_cursor.specs.Turns.{with_front}
use Rattle.wg_statements.proofs.body.+stmt.Given as goal

abbrev pub decreases-block : goal.decreases-block
decreases-block l = 8 * l.depth

abbrev pub decreases-body : goal.decreases-body
decreases-body l = 8 * l.depth + 1

abbrev pub decreases-for_stmt : goal.decreases-for_stmt
decreases-for_stmt l = 8 * l.depth + 2

abbrev pub decreases-if_stmt : goal.decreases-if_stmt
decreases-if_stmt l = 8 * l.depth + 2

abbrev pub decreases-while_stmt : goal.decreases-while_stmt
decreases-while_stmt l = 8 * l.depth + 2

abbrev pub decreases-unbraced : goal.decreases-unbraced
decreases-unbraced l = 8 * l.depth + 3

abbrev pub decreases-stmt : goal.decreases-stmt
decreases-stmt l = 8 * l.depth + 4

abbrev pub decreases-stmts : goal.decreases-stmts
decreases-stmts l = 8 * l.depth + 5

abbrev pub invariant-stmts-loop-turn : goal.invariant-stmts-loop-turn
invariant-stmts-loop-turn l =
    with_front l.found.items (many_from (of class reads.stmt_starts) (reads.read_stmt l.room (reads.below_at l.room l.depth)) (l._turn-end - l._turn) l.cursor) ≡ many (of class reads.stmt_starts) (reads.read_stmt l.room (reads.below_at l.room l.depth)) l.fn.cursor
