use Rattle.std.proofs.Common.{true, false, ◌-◌, sym, subst, arith, ◌∙◌, ap}
use Rattle.std.proofs.lemmas.Result.{err_from_is_err_and}
use Rattle.wg_tokens.specs.Classes.{class}
use Rattle.wg_grammar.specs.Productions.{of, list}
use Rattle.wg_grammar.specs.Reading.{Got}
use Rattle.wg_cursor.specs.ClassSets.{numbers}
use Rattle.wg_cursor.specs.IsReading.{IsReading}
use Rattle.wg_expressions.specs.Levels.{link_starts, read_above}
use Rattle.wg_tree.specs.GrammarExpr.{link}
use Rattle.wg_expressions.proofs.LevelSteps.{reads_chain, sees_link}
use Rattle.wg_expressions.proofs.inner.Inner.+level.Goals as goal

pub level-returns-else-level-eq0 : goal.level-returns-else-level-eq0
level-returns-else-level-eq0 g t c =
    subst (λ o. IsReading o c.chain.result c.chain.new.cursor) (sym (reads_chain c.args.self.now.kind c.args.self.now.room c.args.level c.args.cursor.now (omega arith))) c.chain.ensures

pub links-returns-then-not-sees : goal.links-returns-then-not-sees
links-returns-then-not-sees g t c =
    let k = c.args.self.now.kind in
    let room = c.args.self.now.room in
    let level = c.args.level in
    let ts = c.loop-turn.cursor in
    c.read_by_turns.ensures.ends (of class (link_starts k (level - 1) level)) (read_above k room (level - 1) (link level)) c.left-turn-end.result c.loop-turn._turn c.loop-turn.found.items ts (read_above k room (level - 1) (list (link level)) c.args.cursor.now) c.loop-turn-test.true c.loop-turn.invariant
    (sees_link k (level - 1) level ts (numbers c.operators.result.now) c.sees.result false c.operators.ensures c.sees.ensures c.if-not-sees.true)
    ∙ ap (λ z. Got z ts) (sym c.fitted.ensures)

pub links-returns-in_err-link : goal.links-returns-in_err-link
links-returns-in_err-link g t c =
    let k = c.args.self.now.kind in
    let room = c.args.self.now.room in
    let level = c.args.level in
    let ts = c.loop-turn.cursor in
    let p = err_from_is_err_and c.from_residual.result c.from_residual.ensures.1 in
    rw (p.1, p.2)
    (c.read_by_turns.ensures.halts (of class (link_starts k (level - 1) level)) (read_above k room (level - 1) (link level)) c.left-turn-end.result c.loop-turn._turn c.loop-turn.found.items ts (read_above k room (level - 1) (list (link level)) c.args.cursor.now) c.loop-turn-test.true c.loop-turn.invariant
    _ _ (sees_link k (level - 1) level ts (numbers c.operators.result.now) c.sees.result true c.operators.ensures c.sees.ensures c.if-not-sees.false) c.in_err-link.ensures)

pub links-loop-turn-preserved : goal.links-loop-turn-preserved
links-loop-turn-preserved g t c =
    let k = c.args.self.now.kind in
    let room = c.args.self.now.room in
    let level = c.args.level in
    let ts = c.loop-turn.cursor in
    c.read_by_turns.ensures.goes_on (of class (link_starts k (level - 1) level)) (read_above k room (level - 1) (link level)) c.left-turn-end.result c.loop-turn._turn c.loop-turn.found.items ts (read_above k room (level - 1) (list (link level)) c.args.cursor.now) c.loop-turn-test.true c.loop-turn.invariant
    _ _ _ c.in_ok-push.ensures.items (sees_link k (level - 1) level ts (numbers c.operators.result.now) c.sees.result true c.operators.ensures c.sees.ensures c.if-not-sees.false) c.in_ok-link.ensures
