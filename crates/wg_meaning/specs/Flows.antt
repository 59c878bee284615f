-- What statements and loops do after a part of them has ended.
use Rattle.std.specs.Prelude.{ℕ, Bool, true, false, List, Option, Some, None, Result, Ok, Err}
use Rattle.wg_state.specs.Turns.{Action, ◌>>=◌, ◌>>◌, pure, turn}
use Rattle.wg_semantics.specs.declared.state.State.{State}
use Rattle.wg_semantics.specs.declared.state.Flow.{Flow}
use Rattle.wg_semantics.specs.declared.state.Flow.TheVariants as flow
use Rattle.wg_semantics.specs.declared.state.Spot.{Spot}
use Rattle.wg_semantics.specs.Places.{Setting}
use Rattle.wg_semantics.specs.Calls.{Seen}
use Rattle.wg_semantics.specs.ExprMeaning.{word_of}
use Rattle.wg_semantics.specs.StepMeaning.{raw_word, steps_do}
use Rattle.wg_semantics.specs.StmtMeaning.{does, loop, test_of}
use Rattle.wg_typed.specs.declared.typed_expr.TypedExpr.{TypedExpr}
use Rattle.wg_typed.specs.declared.typed_stmt.TypedStep.{TypedStep}
use Rattle.wg_typed.specs.declared.typed_stmt.TypedStmt.{TypedStmt}
use Rattle.wg_machine.specs.declared.bodies.Halt.{Halt}
use Rattle.wg_values.specs.declared.place.Setting.{Setting as Given}
use Rattle.wg_evaluation.specs.Says.{within}

-- whether the statements after one run
abbrev pub goes_on : Flow → Bool
goes_on flow.Next = true
goes_on flow.Broke = false
goes_on flow.Continued = false
goes_on (flow.Returned words) = false

-- what a `for` begins with, then its loop
abbrev pub begun : Action State (Unit {0}) → Action State Flow → Action State Flow
begun start loop = start >> loop

-- the loop of a `for` by its parts, where calls reach so many functions
abbrev pub for_looped : ℕ → Given → Option TypedExpr → TypedStmt → List TypedStep → Action State Flow
for_looped reach s test body steps = loop (within reach s test_of test) (within reach s does body) (within reach s steps_do steps)

-- a loop's body takes a turn
abbrev pub entered : Action State Flow → Action State Flow
entered body = turn >> body

-- how a loop ends after its body, if it does
abbrev pub loop_left : Flow → Option Flow
loop_left flow.Next = None
loop_left flow.Continued = None
loop_left flow.Broke = Some flow.Next
loop_left (flow.Returned words) = Some (flow.Returned words)

abbrev pub next_result : Result (Unit {0}) Halt → Result Flow Halt
next_result (Ok u) = Ok flow.Next
next_result (Err h) = Err h

-- the word of a raw buffer that an interlocked form changes
abbrev pub raw_destination_of : Setting → ℕ → Seen → Action State Spot
raw_destination_of setting buffer address = do
  at ← word_of setting address
  pure (raw_word buffer at)
