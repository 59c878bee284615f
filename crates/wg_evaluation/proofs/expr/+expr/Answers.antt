use Rattle.std.proofs.lemmas.Result.{err_from_is_err_and}
use Rattle.std.proofs.Common.{arith, drop, map, take, sym, ap, subst, ◌∙◌}
use Rattle.std.specs.Option.{option_copied}
use Rattle.wg_state.specs.Turns.{Done, Action}
use Rattle.wg_semantics.specs.declared.state.State.{State}
use Rattle.wg_semantics.specs.declared.state.Spot.{Spot}
use Rattle.wg_semantics.specs.Calls.{all_passed}
use Rattle.wg_semantics.specs.ExprMeaning.{seen}
use Rattle.wg_semantics.specs.FunctionMeaning.{callees_of}
use Rattle.wg_values.specs.Pieces.{setting_of}
use Rattle.wg_evaluation.specs.Says.{Says, callees_in}
use Rattle.wg_evaluation.proofs.Calling.{passed_end, calls_nothing, run_stops, call_ends}
use Rattle.wg_evaluation.proofs.KindLayers.{says_spot, does_element, does_load, choice_stops, choice_first, choice_other}
use Rattle.wg_evaluation.proofs.expr.+expr.Goals as goal

pub call-returns-in-None-clause-says : goal.call-returns-in-None-clause-says
call-returns-in-None-clause-says g t c =
    calls_nothing (setting_of c.args.setting.now) (take (g.C.Calls.reach c.args.calls.now) c.args.setting.now.earlier.now) c.args.function (map (seen (setting_of c.args.setting.now) (callees_in (g.C.Calls.reach c.args.calls.now) c.args.setting.now)) c.args.arguments.now) c.args.run.now.state c.args.run.now.turns (c.callees_are_functions.ensures.missing (setting_of c.args.setting.now) (take (g.C.Calls.reach c.args.calls.now) c.args.setting.now.earlier.now) c.args.function (sym (c.function_at.ensures.value (g.C.Calls.reach c.args.calls.now) c.reaches.ensures) ∙ ap option_copied c.in-None.is))
    ∙ ap (λ w. Done w c.args.run.now.state c.args.run.now.turns) (sym c.new.ensures)

pub call-returns-in_err-back-clause-says : goal.call-returns-in_err-back-clause-says
call-returns-in_err-back-clause-says g t c =
    let p = err_from_is_err_and c.from_residual-in_err-back.result c.from_residual-in_err-back.ensures.1 in
    rw (p.1, p.2)
    (run_stops (setting_of c.args.setting.now) (take (g.C.Calls.reach c.args.calls.now) c.args.setting.now.earlier.now) c.args.function (map (seen (setting_of c.args.setting.now) (callees_in (g.C.Calls.reach c.args.calls.now) c.args.setting.now)) c.args.arguments.now) c.args.run.now.state c.args.run.now.turns
    c.in-Some.callee.now (callees_of (setting_of c.args.setting.now) (take c.args.function (take (g.C.Calls.reach c.args.calls.now) c.args.setting.now.earlier.now))) (c.callees_are_functions.ensures.found (setting_of c.args.setting.now) (take (g.C.Calls.reach c.args.calls.now) c.args.setting.now.earlier.now) c.args.function c.in-Some.callee.now (sym (c.function_at.ensures.value (g.C.Calls.reach c.args.calls.now) c.reaches.ensures) ∙ ap option_copied c.in-Some.is))
    c.in_ok-given.given c.pass_all.new.run.state c.pass_all.new.run.turns c.in_ok-given.ensures.says c.in_ok-values.values c.in_err-back.field-0.0 c.in_ok-values.ensures c.in_err-back.ensures.says)

pub call-returns-clause-says : goal.call-returns-clause-says
call-returns-clause-says g t c =
    call_ends (setting_of c.args.setting.now) (take (g.C.Calls.reach c.args.calls.now) c.args.setting.now.earlier.now) c.args.function (map (seen (setting_of c.args.setting.now) (callees_in (g.C.Calls.reach c.args.calls.now) c.args.setting.now)) c.args.arguments.now) c.args.run.now.state c.args.run.now.turns
    c.in-Some.callee.now (callees_of (setting_of c.args.setting.now) (take c.args.function (take (g.C.Calls.reach c.args.calls.now) c.args.setting.now.earlier.now))) (c.callees_are_functions.ensures.found (setting_of c.args.setting.now) (take (g.C.Calls.reach c.args.calls.now) c.args.setting.now.earlier.now) c.args.function c.in-Some.callee.now (sym (c.function_at.ensures.value (g.C.Calls.reach c.args.calls.now) c.reaches.ensures) ∙ ap option_copied c.in-Some.is))
    c.in_ok-given.given c.pass_all.new.run.state c.pass_all.new.run.turns c.in_ok-given.ensures.says c.in_ok-values.values c.in_ok-back.back c.call.new.run.state c.copy_all_back.new.state c.call.new.run.turns c.in_ok-values.ensures c.in_ok-back.ensures.says (c.copy_all_back.ensures c.call.new.run.turns)

pub pass_all-returns-clause-says : goal.pass_all-returns-clause-says
pass_all-returns-clause-says g t c =
    sym (ap (λ ps. all_passed c.args.setting.now.structs.now ps (map (seen (setting_of c.args.setting.now) (callees_in (g.C.Calls.reach c.args.calls.now) c.args.setting.now)) c.args.arguments.now) c.args.run.now.state c.args.run.now.turns) c.as_slice-parameters.ensures)
    ∙ sym (ap (λ es. all_passed c.args.setting.now.structs.now c.as_slice-parameters.result.now (map (seen (setting_of c.args.setting.now) (callees_in (g.C.Calls.reach c.args.calls.now) c.args.setting.now)) es) c.args.run.now.state c.args.run.now.turns) c.as_slice-e-items.ensures)
    ∙ passed_end c.args.setting.now.structs.now (seen (setting_of c.args.setting.now) (callees_in (g.C.Calls.reach c.args.calls.now) c.args.setting.now)) (drop c.loop-e.at c.as_slice-parameters.result.now) c.as_slice-e-items.result.now c.loop-e.e-index c.loop-e.list c.loop-e.run.state c.loop-e.run.turns _
    (omega (arith, c.loop-e-test.false)) c.loop-e.invariant.0

pub kind-returns-in-Element-clause-says : goal.kind-returns-in-Element-clause-says
kind-returns-in-Element-clause-says g t c =
    subst (λ o. Says o c.buffer_element.result c.buffer_element.new.run.state c.buffer_element.new.run.turns)
    (ap (λ (m : Action State Spot). m c.args.run.now.state c.args.run.now.turns) (sym (does_element (setting_of c.args.setting.now) (callees_in (g.C.Calls.reach c.args.calls.now) c.args.setting.now) c.args.kind.now c.args.t c.in-Element.buffer c.in-Element.index c.in-Element.is)))
    c.buffer_element.ensures.says

pub kind-returns-in-Load-clause-says : goal.kind-returns-in-Load-clause-says
kind-returns-in-Load-clause-says g t c =
    subst (λ o. Says o c.load.result c.load.new.run.state c.load.new.run.turns)
    (ap (λ (m : Action State Spot). m c.args.run.now.state c.args.run.now.turns) (sym (does_load (setting_of c.args.setting.now) (callees_in (g.C.Calls.reach c.args.calls.now) c.args.setting.now) c.args.kind.now c.args.t c.in-Load.buffer c.in-Load.address c.in-Load.is)))
    c.load.ensures.says

pub kind-returns-in_err-c-in-Choice-clause-says : goal.kind-returns-in_err-c-in-Choice-clause-says
kind-returns-in_err-c-in-Choice-clause-says g t c =
    let p = err_from_is_err_and c.from_residual-in_err-c-in-Choice.result c.from_residual-in_err-c-in-Choice.ensures.1 in
    rw (p.1, p.2)
    (choice_stops (setting_of c.args.setting.now) (callees_in (g.C.Calls.reach c.args.calls.now) c.args.setting.now) c.args.kind.now c.args.t c.args.run.now.state c.args.run.now.turns c.in-Choice.test c.in-Choice.then c.in-Choice.other c.get-in-Choice.result.now c.in-Choice.is c.get-in-Choice.ensures
    c.in_err-c-in-Choice.field-0.0 c.in_err-c-in-Choice.ensures.says)

pub kind-returns-then-c-ne0-clause-says : goal.kind-returns-then-c-ne0-clause-says
kind-returns-then-c-ne0-clause-says g t c =
    subst (λ o. Says o c.as_spot-then-c-ne0.result c.value-then-c-ne0.new.run.state c.value-then-c-ne0.new.run.turns)
    (sym (choice_first (setting_of c.args.setting.now) (callees_in (g.C.Calls.reach c.args.calls.now) c.args.setting.now) c.args.kind.now c.args.t c.args.run.now.state c.args.run.now.turns c.in-Choice.test c.in-Choice.then c.in-Choice.other c.get-in-Choice.result.now c.in-Choice.is c.get-in-Choice.ensures
    c.in_ok-c-in-Choice.c c.word.new.run.state c.word.new.run.turns c.in_ok-c-in-Choice.ensures.says c.get-then-c-ne0.result.now c.if-c-ne0.true c.get-then-c-ne0.ensures))
    (says_spot _ c.value-then-c-ne0.result c.as_spot-then-c-ne0.result c.value-then-c-ne0.new.run.state c.value-then-c-ne0.new.run.turns c.as_spot-then-c-ne0.ensures c.value-then-c-ne0.ensures.says)

pub kind-returns-else-c-ne0-clause-says : goal.kind-returns-else-c-ne0-clause-says
kind-returns-else-c-ne0-clause-says g t c =
    subst (λ o. Says o c.as_spot-else-c-ne0.result c.value-else-c-ne0.new.run.state c.value-else-c-ne0.new.run.turns)
    (sym (choice_other (setting_of c.args.setting.now) (callees_in (g.C.Calls.reach c.args.calls.now) c.args.setting.now) c.args.kind.now c.args.t c.args.run.now.state c.args.run.now.turns c.in-Choice.test c.in-Choice.then c.in-Choice.other c.get-in-Choice.result.now c.in-Choice.is c.get-in-Choice.ensures
    c.in_ok-c-in-Choice.c c.word.new.run.state c.word.new.run.turns c.in_ok-c-in-Choice.ensures.says c.get-else-c-ne0.result.now c.if-c-ne0.false c.get-else-c-ne0.ensures))
    (says_spot _ c.value-else-c-ne0.result c.as_spot-else-c-ne0.result c.value-else-c-ne0.new.run.state c.value-else-c-ne0.new.run.turns c.as_spot-else-c-ne0.ensures c.value-else-c-ne0.ensures.says)
