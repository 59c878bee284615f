use Rattle.std.proofs.Common.{◌∙◌, sym, subst, ap}
use Rattle.std.proofs.lemmas.Result.{err_from_is_err_and}
use Rattle.wg_grammar.specs.Productions.{of}
use Rattle.wg_grammar.specs.Reading.{Got}
use Rattle.wg_tokens.specs.Classes.{class}
use Rattle.wg_tree.specs.ReadsStmt as reads
use Rattle.wg_cursor.specs.IsReading.{IsReading}
use Rattle.wg_statements.proofs.Bodies.{is_if, is_while, is_for}
use Rattle.wg_statements.proofs.body.+stmt.Goals as goal

pub stmts-returns-then-not-sees : goal.stmts-returns-then-not-sees
stmts-returns-then-not-sees t c =
    let item = reads.read_stmt c.args.room (reads.below_at c.args.room c.args.depth) in
    c.read_by_turns.ensures.ends _ item _ _ c.loop-turn.found.items c.loop-turn.cursor _ c.loop-turn-test.true c.loop-turn.invariant (sym c.sees.ensures ∙ c.if-not-sees.true)
    ∙ ap (λ z. Got z c.loop-turn.cursor) (sym c.fitted.ensures)

pub stmts-returns-in_err-stmt : goal.stmts-returns-in_err-stmt
stmts-returns-in_err-stmt t c =
    let item = reads.read_stmt c.args.room (reads.below_at c.args.room c.args.depth) in
    let p = err_from_is_err_and c.from_residual.result c.from_residual.ensures.1 in
    rw (p.1, p.2) (c.read_by_turns.ensures.halts (of class reads.stmt_starts) item _ _ c.loop-turn.found.items c.loop-turn.cursor _ c.loop-turn-test.true c.loop-turn.invariant _ c.in_err-stmt.field-0.0 (sym c.sees.ensures ∙ c.if-not-sees.false) c.in_err-stmt.ensures)

pub stmts-loop-turn-preserved : goal.stmts-loop-turn-preserved
stmts-loop-turn-preserved t c =
    let item = reads.read_stmt c.args.room (reads.below_at c.args.room c.args.depth) in
    c.read_by_turns.ensures.goes_on (of class reads.stmt_starts) item _ _ c.loop-turn.found.items c.loop-turn.cursor _ c.loop-turn-test.true c.loop-turn.invariant c.stmt.new.cursor c.in_ok-stmt.field-0 _
    c.in_ok-push.ensures.items (sym c.sees.ensures ∙ c.if-not-sees.false) c.in_ok-stmt.ensures

pub unbraced-returns-then-sees : goal.unbraced-returns-then-sees
unbraced-returns-then-sees t c =
    let same = is_if c.args.room (reads.below_at c.args.room c.args.depth).body c.args.cursor.now c.attributes.new.cursor c.in_ok-attributes.attributes (sym c.sees.ensures ∙ c.if-not-sees.false) c.in_ok-attributes.ensures
    (sym c.sees-2.ensures ∙ c.if-sees.true) in
    subst (λ o. IsReading o c.if_stmt.result c.if_stmt.new.cursor) (sym same) c.if_stmt.ensures

pub unbraced-returns-then-sees-2 : goal.unbraced-returns-then-sees-2
unbraced-returns-then-sees-2 t c =
    let same = is_while c.args.room (reads.below_at c.args.room c.args.depth).body c.args.cursor.now c.attributes.new.cursor c.in_ok-attributes.attributes (sym c.sees.ensures ∙ c.if-not-sees.false) c.in_ok-attributes.ensures
    (sym c.sees-2.ensures ∙ c.if-sees.false) (sym c.sees-else-sees.ensures ∙ c.if-sees-2.true) in
    subst (λ o. IsReading o c.while_stmt.result c.while_stmt.new.cursor) (sym same) c.while_stmt.ensures

pub unbraced-returns-else-sees-2 : goal.unbraced-returns-else-sees-2
unbraced-returns-else-sees-2 t c =
    let same = is_for c.args.room (reads.below_at c.args.room c.args.depth).body c.args.cursor.now c.attributes.new.cursor c.in_ok-attributes.attributes (sym c.sees.ensures ∙ c.if-not-sees.false) c.in_ok-attributes.ensures
    (sym c.sees-2.ensures ∙ c.if-sees.false) (sym c.sees-else-sees.ensures ∙ c.if-sees-2.false) in
    subst (λ o. IsReading o c.for_stmt.result c.for_stmt.new.cursor) (sym same) c.for_stmt.ensures
