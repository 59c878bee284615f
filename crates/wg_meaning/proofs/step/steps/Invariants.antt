use Rattle.std.proofs.Common.{◌≡◌, ◌≤◌, map, drop}
use Rattle.wg_state.specs.Turns.{all}
use Rattle.wg_semantics.specs.StepMeaning.{step_does}
use Rattle.wg_values.specs.Pieces.{setting_of}
use Rattle.wg_evaluation.specs.Says.{callees_in}
use Rattle.wg_meaning.proofs.step.steps.Given as goal

abbrev pub invariant-loop-s : goal.invariant-loop-s
invariant-loop-s g l =
    (all (map (step_does (setting_of l.setting) (callees_in (g.C.Calls.reach l.calls) l.setting)) (drop l.s-index l.s-items)) l.run.state l.run.turns ≡ all (map (step_does (setting_of l.setting) (callees_in (g.C.Calls.reach l.calls) l.setting)) l.s-items) l.initial.run.state l.initial.run.turns)
    × (l.run.turns ≤ l.initial.run.turns)
