use Rattle.std.proofs.lemmas.Result.{err_from_is_err_and}
use Rattle.std.proofs.Common.{arith, sym, subst, refl, ◌∙◌}
use Rattle.wg_values.specs.Pieces.{setting_of}
use Rattle.wg_evaluation.specs.Says.{Says, callees_in}
use Rattle.wg_meaning.proofs.Branches.{if_stops, if_then, if_else, while_runs, for_runs}
use Rattle.wg_meaning.proofs.Loops.{body_leaves, go_round}
use Rattle.wg_meaning.proofs.stmt.+stmt.Goals as goal

pub for_loop-returns-in-Some-clause-says : goal.for_loop-returns-in-Some-clause-says
for_loop-returns-in-Some-clause-says g t c =
    body_leaves _ _ _ _ _ _ _ c.turns.invariant.0 c.in_ok-go.go c.test.new.run.state c.test.new.run.turns c.in_ok-go.ensures.says c.if-go-eq0.false c.in_ok-end.end c.enter.new.run.state c.enter.new.run.turns c.in_ok-end.ensures.says
    c.in-Some.end (sym c.left.ensures ∙ c.in-Some.is)

pub for_loop-turns-preserved : goal.for_loop-turns-preserved
for_loop-turns-preserved g t c = (
  go_round _ _ _ _ _ _ _ c.turns.invariant.0 c.in_ok-go.go c.test.new.run.state c.test.new.run.turns c.in_ok-go.ensures.says c.if-go-eq0.false c.in_ok-end.end c.enter.new.run.state c.enter.new.run.turns c.in_ok-end.ensures.says
      (sym c.left.ensures ∙ c.in-None.is) tt c.steps.new.run.state c.steps.new.run.turns c.in_ok-steps.ensures.says
      (omega (arith, c.test.ensures.turns, c.in_ok-end.ensures.takes, c.steps.ensures.turns)),
  omega (arith, c.turns.invariant.1, c.test.ensures.turns, c.enter.ensures.turns, c.steps.ensures.turns),
)

pub while_loop-returns-in-Some-clause-says : goal.while_loop-returns-in-Some-clause-says
while_loop-returns-in-Some-clause-says g t c =
    body_leaves _ _ _ _ _ _ _ c.turns.invariant.0 c.in_ok-go.go c.word.new.run.state c.word.new.run.turns c.in_ok-go.ensures.says c.if-go-eq0.false c.in_ok-end.end c.enter.new.run.state c.enter.new.run.turns c.in_ok-end.ensures.says
    c.in-Some.end (sym c.left.ensures ∙ c.in-Some.is)

pub while_loop-turns-preserved : goal.while_loop-turns-preserved
while_loop-turns-preserved g t c = (
  go_round _ _ _ _ _ _ _ c.turns.invariant.0 c.in_ok-go.go c.word.new.run.state c.word.new.run.turns c.in_ok-go.ensures.says c.if-go-eq0.false c.in_ok-end.end c.enter.new.run.state c.enter.new.run.turns c.in_ok-end.ensures.says
      (sym c.left.ensures ∙ c.in-None.is) tt c.enter.new.run.state c.enter.new.run.turns refl
      (omega (arith, c.word.ensures.turns, c.in_ok-end.ensures.takes)),
  omega (arith, c.turns.invariant.1, c.word.ensures.turns, c.enter.ensures.turns),
)

pub stmt-returns-in_err-c-in-If-clause-says : goal.stmt-returns-in_err-c-in-If-clause-says
stmt-returns-in_err-c-in-If-clause-says g t c =
    let p = err_from_is_err_and c.from_residual.result c.from_residual.ensures.1 in
    rw (p.1, p.2)
    (if_stops (setting_of c.args.setting.now) (callees_in (g.C.Calls.reach c.args.calls.now) c.args.setting.now) c.args.s.now c.args.run.now.state c.args.run.now.turns c.in-If.then c.in-If.then refl
    c.in-If.attributes c.in-If.collective c.in-If.test c.in-If.other c.in-If.is c.in_err-c-in-If.field-0.0 c.in_err-c-in-If.ensures.says)

pub stmt-returns-then-c-ne0-clause-says : goal.stmt-returns-then-c-ne0-clause-says
stmt-returns-then-c-ne0-clause-says g t c =
    subst (λ o. Says o c.stmt.result c.stmt.new.run.state c.stmt.new.run.turns)
    (sym (if_then (setting_of c.args.setting.now) (callees_in (g.C.Calls.reach c.args.calls.now) c.args.setting.now) c.args.s.now c.args.run.now.state c.args.run.now.turns c.in-If.then c.get.result.now c.get.ensures
    c.in-If.attributes c.in-If.collective c.in-If.test c.in-If.other c.in-If.is c.in_ok-c-in-If.c c.word.new.run.state c.word.new.run.turns c.in_ok-c-in-If.ensures.says c.if-c-ne0.true))
    c.stmt.ensures.says

pub stmt-returns-else-c-ne0-clause-says : goal.stmt-returns-else-c-ne0-clause-says
stmt-returns-else-c-ne0-clause-says g t c =
    subst (λ o. Says o c.other_branch.result c.other_branch.new.run.state c.other_branch.new.run.turns)
    (sym (if_else (setting_of c.args.setting.now) (callees_in (g.C.Calls.reach c.args.calls.now) c.args.setting.now) c.args.s.now c.args.run.now.state c.args.run.now.turns c.in-If.then c.in-If.then refl
    c.in-If.attributes c.in-If.collective c.in-If.test c.in-If.other c.in-If.is c.in_ok-c-in-If.c c.word.new.run.state c.word.new.run.turns c.in_ok-c-in-If.ensures.says c.if-c-ne0.false))
    c.other_branch.ensures.says

pub stmt-returns-in-While-clause-says : goal.stmt-returns-in-While-clause-says
stmt-returns-in-While-clause-says g t c =
    subst (λ o. Says o c.while_loop.result c.while_loop.new.run.state c.while_loop.new.run.turns)
    (sym (while_runs (setting_of c.args.setting.now) (callees_in (g.C.Calls.reach c.args.calls.now) c.args.setting.now) c.args.s.now c.args.run.now.state c.args.run.now.turns c.in-While.attributes c.in-While.test c.in-While.body c.in-While.is))
    c.while_loop.ensures.says

pub stmt-returns-in-For-clause-says : goal.stmt-returns-in-For-clause-says
stmt-returns-in-For-clause-says g t c =
    subst (λ o. Says o c.for_statement.result c.for_statement.new.run.state c.for_statement.new.run.turns)
    (sym (for_runs (setting_of c.args.setting.now) (callees_in (g.C.Calls.reach c.args.calls.now) c.args.setting.now) c.args.s.now c.args.run.now.state c.args.run.now.turns c.in-For.attributes c.in-For.start c.in-For.test c.in-For.steps c.in-For.body c.in-For.is))
    c.for_statement.ensures.says
