use Rattle.std.proofs.Common.{ℕ, Bool, List, ap, sym, ◌∙◌, subst}
use Rattle.wg_semantics.specs.LaunchMeaning.{OnLanes, entry_doing, body_runs, first_lanes, first_values}
use Rattle.wg_state.specs.Lanes.{coordinates_of, lanes_in}
use Rattle.wg_state.specs.Launching.{outcome_after}
use Rattle.std.specs.Prelude.{Some}
use Rattle.wg_semantics.specs.declared.state.Lane.{Lane}
use Rattle.wg_typed.specs.declared.typed_stmt.TypedStmt.{TypedStmt}
use Rattle.wg_evaluation.specs.Says.{Stops}
use Rattle.wg_launch.proofs.LaneRuns.{launch_stops}
use Rattle.wg_launch.proofs.group.run_entry.Goals as goal

pub returns-in-Err : goal.returns-in-Err
returns-in-Err c =
    let entry = c.args.entry.now in
    let runs : Bool → List TypedStmt → OnLanes = λ last body. body_runs (entry_doing entry.text.now entry.function.now entry.unit.now last) body in
    let same = ap (λ last. runs last c.as_slice.result.now) c.requires.last ∙ ap (runs c.args.launch.now.last) c.as_slice.ensures in
    let run = body_runs (entry_doing entry.text.now entry.function.now entry.unit.now c.args.launch.now.last) entry.function.now.body in
    let lanes_on : List ℕ → List Lane = λ group. first_lanes (first_values entry.text.now.structs entry.function.now group entry.threads) 0 (lanes_in entry.threads) in
    let values = first_values entry.text.now.structs entry.function.now c.coordinates-group.result entry.threads in
    let lanes = c.in_ok-lanes.ensures ∙ ap (first_lanes values 0) c.in-Some.ensures ∙ ap lanes_on c.coordinates-group.ensures in
    launch_stops entry.unit.now c.args.turns _ c.in-Err.halt
    (subst (λ w. Stops (run (lanes_on (coordinates_of c.args.launch.now.grid c.args.launch.now.group)) w c.args.turns) c.in-Err.halt) c.in_ok-world.ensures
    (subst (λ l. Stops (run l c.in_ok-world.world c.args.turns) c.in-Err.halt) lanes (subst (λ (m : OnLanes). Stops (m c.in_ok-lanes.lanes c.in_ok-world.world c.args.turns) c.in-Err.halt) same c.in-Err.ensures)))

pub returns : goal.returns
returns c =
    let entry = c.args.entry.now in
    let runs : Bool → List TypedStmt → OnLanes = λ last body. body_runs (entry_doing entry.text.now entry.function.now entry.unit.now last) body in
    let same = ap (λ last. runs last c.as_slice.result.now) c.requires.last ∙ ap (runs c.args.launch.now.last) c.as_slice.ensures in
    let run = body_runs (entry_doing entry.text.now entry.function.now entry.unit.now c.args.launch.now.last) entry.function.now.body in
    let lanes_on : List ℕ → List Lane = λ group. first_lanes (first_values entry.text.now.structs entry.function.now group entry.threads) 0 (lanes_in entry.threads) in
    let values = first_values entry.text.now.structs entry.function.now c.coordinates-group.result entry.threads in
    let lanes = c.in_ok-lanes.ensures ∙ ap (first_lanes values 0) c.in-Some.ensures ∙ ap lanes_on c.coordinates-group.ensures in
    let ran = sym (ap (λ l. run l c.in_ok-world.world c.args.turns) lanes ∙ ap (λ w. run (lanes_on (coordinates_of c.args.launch.now.grid c.args.launch.now.group)) w c.args.turns) c.in_ok-world.ensures) ∙ sym (ap (λ (m : OnLanes). m c.in_ok-lanes.lanes c.in_ok-world.world c.args.turns) same) ∙ c.in-Ok.ensures in
    ap (outcome_after entry.unit.now c.args.turns) ran ∙ ap Some c.in_ok-made_by.ensures
