use Rattle.std.proofs.Common.{◌≡◌, ◌≤◌, map, drop}
use Rattle.wg_state.specs.Turns.{and_then, each}
use Rattle.wg_semantics.specs.Calls.{value_of, all_passed}
use Rattle.wg_semantics.specs.ExprMeaning.{seen, follows, links, followed, chained}
use Rattle.wg_values.specs.Pieces.{setting_of}
use Rattle.wg_evaluation.specs.Says.{callees_in}
use Rattle.wg_evaluation.proofs.Sequences.{gives}
use Rattle.wg_evaluation.proofs.expr.+expr.Given as goal

abbrev pub invariant-values-loop-e : goal.invariant-values-loop-e
invariant-values-loop-e g l =
    (and_then (each (map (value_of l.setting.structs.now) (map (seen (setting_of l.setting) (callees_in (g.C.Calls.reach l.calls) l.setting)) (drop l.e-index l.e-items))) l.run.state l.run.turns) (gives l.list) ≡ each (map (value_of l.setting.structs.now) (map (seen (setting_of l.setting) (callees_in (g.C.Calls.reach l.calls) l.setting)) l.e-items)) l.initial.run.state l.initial.run.turns)
    × (l.run.turns ≤ l.initial.run.turns)

abbrev pub invariant-follow-loop-form : goal.invariant-follow-loop-form
invariant-follow-loop-form g l =
    (followed (map (follows (setting_of l.setting) (callees_in (g.C.Calls.reach l.calls) l.setting)) (drop l.form-index l.form-items)) l.t l.at l.run.state l.run.turns ≡ followed (map (follows (setting_of l.setting) (callees_in (g.C.Calls.reach l.calls) l.setting)) l.form-items) l.initial.t l.initial.at l.initial.run.state l.initial.run.turns)
    × (l.run.turns ≤ l.initial.run.turns)

abbrev pub invariant-chain-loop-link : goal.invariant-chain-loop-link
invariant-chain-loop-link g l =
    (chained (map (links (setting_of l.setting) (callees_in (g.C.Calls.reach l.calls) l.setting)) (drop l.link-index l.link-items)) l.t l.words l.run.state l.run.turns ≡ chained (map (links (setting_of l.setting) (callees_in (g.C.Calls.reach l.calls) l.setting)) l.link-items) l.initial.t l.initial.words l.initial.run.state l.initial.run.turns)
    × (l.run.turns ≤ l.initial.run.turns)

abbrev pub invariant-pass_all-loop-e : goal.invariant-pass_all-loop-e
invariant-pass_all-loop-e g l =
    (and_then (all_passed l.setting.structs.now (drop l.at l.parameters) (map (seen (setting_of l.setting) (callees_in (g.C.Calls.reach l.calls) l.setting)) (drop l.e-index l.e-items)) l.run.state l.run.turns) (gives l.list) ≡ all_passed l.setting.structs.now l.parameters (map (seen (setting_of l.setting) (callees_in (g.C.Calls.reach l.calls) l.setting)) l.e-items) l.initial.run.state l.initial.run.turns)
    × (l.at ≡ l.e-index)
    × (l.run.turns ≤ l.initial.run.turns)
