use Rattle.std.proofs.Common.{◌≡◌, ◌≤◌, map, drop}
use Rattle.wg_state.specs.Turns.{all}
use Rattle.wg_semantics.specs.StepMeaning.{declared_as}
use Rattle.wg_values.specs.Pieces.{setting_of}
use Rattle.wg_evaluation.specs.Says.{callees_in}
use Rattle.wg_meaning.proofs.step.declare_all.Given as goal

abbrev pub invariant-loop-d : goal.invariant-loop-d
invariant-loop-d g l =
    (all (map (declared_as (setting_of l.setting) (callees_in (g.C.Calls.reach l.calls) l.setting)) (drop l.d-index l.d-items)) l.run.state l.run.turns ≡ all (map (declared_as (setting_of l.setting) (callees_in (g.C.Calls.reach l.calls) l.setting)) l.d-items) l.initial.run.state l.initial.run.turns)
    × (l.run.turns ≤ l.initial.run.turns)
