use Rattle.std.proofs.Common.{suc, [], take, sym, ap, subst, ◌∙◌}
use Rattle.std.specs.Option.{option_copied}
use Rattle.wg_state.specs.Turns.{Done}
use Rattle.wg_values.specs.Pieces.{setting_of}
use Rattle.wg_evaluation.specs.Says.{Says}
use Rattle.wg_meaning.proofs.Numbered.{nothing_runs, runs_number}
use Rattle.wg_meaning.proofs.functions.numbered.Goals as goal

pub returns-in-None-clause-says : goal.returns-in-None-clause-says
returns-in-None-clause-says g c =
    nothing_runs (setting_of c.args.setting.now) c.args.setting.now.earlier.now (g.C.Calls.reach c.args.calls.now) c.args.number c.args.values c.args.run.now.state c.args.run.now.turns (c.callees_are_functions.ensures.missing (setting_of c.args.setting.now) (take (suc (g.C.Calls.reach c.args.calls.now)) c.args.setting.now.earlier.now) c.args.number (sym (c.function_at.ensures.value (suc (g.C.Calls.reach c.args.calls.now)) c.reaches_next.ensures) ∙ ap option_copied c.in-None.is))
    ∙ ap (λ words. Done (words, []) c.args.run.now.state c.args.run.now.turns) (sym c.new.ensures)
    ∙ ap (λ lists. Done (c.new.result, lists) c.args.run.now.state c.args.run.now.turns) (sym c.new-in-None.ensures)

pub returns-clause-says : goal.returns-clause-says
returns-clause-says g c =
    subst (λ o. Says o c.function.result c.function.new.run.state c.function.new.run.turns)
    (runs_number (setting_of c.args.setting.now) c.args.setting.now.earlier.now (g.C.Calls.reach c.args.calls.now) c.args.number c.args.values c.args.run.now.state c.args.run.now.turns
    c.in-Some.f.now (sym (c.function_at.ensures.value (suc (g.C.Calls.reach c.args.calls.now)) c.reaches_next.ensures) ∙ ap option_copied c.in-Some.is) (c.callees_are_functions.ensures.found (setting_of c.args.setting.now) (take (suc (g.C.Calls.reach c.args.calls.now)) c.args.setting.now.earlier.now) c.args.number c.in-Some.f.now (sym (c.function_at.ensures.value (suc (g.C.Calls.reach c.args.calls.now)) c.reaches_next.ensures) ∙ ap option_copied c.in-Some.is)))
    c.function.ensures.says
