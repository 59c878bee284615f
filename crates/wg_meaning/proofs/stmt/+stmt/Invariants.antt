use Rattle.std.proofs.Common.{◌≡◌, ◌≤◌, map, drop}
use Rattle.wg_state.specs.Turns.{pure}
use Rattle.wg_semantics.specs.ExprMeaning.{seen, word_of}
use Rattle.wg_semantics.specs.StepMeaning.{steps_do}
use Rattle.wg_semantics.specs.StmtMeaning.{block, does, test_of}
use Rattle.wg_values.specs.Pieces.{setting_of}
use Rattle.wg_evaluation.specs.Says.{callees_in}
use Rattle.wg_meaning.proofs.Loops.{LoopGoesOn}
use Rattle.wg_meaning.proofs.stmt.+stmt.Given as goal

abbrev pub invariant-block-loop-s : goal.invariant-block-loop-s
invariant-block-loop-s g l =
    (block (map (does (setting_of l.setting) (callees_in (g.C.Calls.reach l.calls) l.setting)) (drop l.s-index l.body)) l.run.state l.run.turns ≡ block (map (does (setting_of l.setting) (callees_in (g.C.Calls.reach l.calls) l.setting)) l.body) l.initial.run.state l.initial.run.turns)
    × (l.run.turns ≤ l.initial.run.turns)

abbrev pub invariant-while_loop-turns : goal.invariant-while_loop-turns
invariant-while_loop-turns g l =
    LoopGoesOn (word_of (setting_of l.setting) (seen (setting_of l.setting) (callees_in (g.C.Calls.reach l.calls) l.setting) l.e)) (does (setting_of l.setting) (callees_in (g.C.Calls.reach l.calls) l.setting) l.body) (pure tt) l.initial.run.state l.initial.run.turns l.run.state l.run.turns
    × (l.run.turns ≤ l.initial.run.turns)

abbrev pub decreases-while_loop-turns : goal.decreases-while_loop-turns
decreases-while_loop-turns g l = l.run.turns

abbrev pub invariant-for_loop-turns : goal.invariant-for_loop-turns
invariant-for_loop-turns g l =
    LoopGoesOn (test_of (setting_of l.setting) (callees_in (g.C.Calls.reach l.calls) l.setting) l.e) (does (setting_of l.setting) (callees_in (g.C.Calls.reach l.calls) l.setting) l.body) (steps_do (setting_of l.setting) (callees_in (g.C.Calls.reach l.calls) l.setting) l.list) l.initial.run.state l.initial.run.turns l.run.state l.run.turns
    × (l.run.turns ≤ l.initial.run.turns)

abbrev pub decreases-for_loop-turns : goal.decreases-for_loop-turns
decreases-for_loop-turns g l = l.run.turns
