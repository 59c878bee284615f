use Rattle.std.proofs.Common.{ap, sym, subst, ◌∙◌}
use Rattle.std.proofs.lemmas.Result.{err_from_is_err_and}
use Rattle.wg_semantics.specs.LaunchMeaning.{entry_test}
use Rattle.wg_launch.specs.FirstLane.{IsFirst, with_first}
use Rattle.wg_launch.proofs.LaneRuns.{tests_first, tests_stop}
use Rattle.wg_launch.proofs.lanes.test_first.Goals as goal

pub returns-in_err-word : goal.returns-in_err-word
returns-in_err-word c =
    let m = entry_test c.args.entry.now.text.now c.args.entry.now.function.now c.args.entry.now.unit.now c.args.entry.now.last c.args.e.now in
    let first = subst (IsFirst c.swap_first.result) c.into_vec-list.ensures c.swap_first.ensures.value in
    let p = err_from_is_err_and c.from_residual.result c.from_residual.ensures.1 in
    rw (p.1, p.2)
    (tests_stop m c.args.lanes c.swap_first.result c.args.run.now.state.world c.args.run.now.turns first c.in_err-word.field-0.0 c.in_err-word.ensures)

pub returns : goal.returns
returns c =
    let m = entry_test c.args.entry.now.text.now c.args.entry.now.function.now c.args.entry.now.unit.now c.args.entry.now.last c.args.e.now in
    let first = subst (IsFirst c.swap_first.result) c.into_vec-list.ensures c.swap_first.ensures.value in
    tests_first m c.args.lanes c.swap_first.result c.args.run.now.state.world c.args.run.now.turns first c.in_ok-word.word c.run_test.new.run.state c.run_test.new.run.turns c.new.result c.swap_first.new.list.items c.from_vec-2.result c.in_ok-word.ensures
    (c.swap_first.ensures.after ∙ ap (with_first c.new.result) c.into_vec-list.ensures)
    (c.from_vec-2.ensures ∙ c.swap_first-empty.ensures.after ∙ ap (λ f. with_first f c.swap_first.new.list.items) c.replace-variables.ensures.value)
