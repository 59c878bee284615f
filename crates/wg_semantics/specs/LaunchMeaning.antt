-- What a launch of a node does, on the typed text (Work Graphs, "Thread launch nodes", "Output records"). That a launch runs in phases,
-- in each of which its lanes go one after another, is this project's own rule.
use Rattle.std.specs.Prelude.{ℕ, zero, suc, Bool, true, false, if◌then◌else◌, List, [], ◌∷◌, ◌++◌, map, slice_get, take, ◌||◌, Option, Some, None}
use Rattle.wg_machine.specs.declared.launch.Launch.{Launch}
use Rattle.wg_machine.specs.declared.shape.Shape.{Shape}
use Rattle.wg_machine.specs.declared.shape.Unit.{Unit as Node}
use Rattle.wg_machine.specs.LaunchMeaning.{Meaning}
use Rattle.wg_state.specs.Lanes.{coordinates_of, dispatch_of, lanes_in}
use Rattle.wg_state.specs.Launching.{world_before, outcome_after, does_nothing}
use Rattle.wg_state.specs.Turns.{Ending, Spent, Done, Action, ◌>>=◌, pure}
use Rattle.wg_state.specs.WordLists.{zeros}
use Rattle.wg_state.specs.declared.world.World.{World}
use Rattle.wg_words.specs.Truth.{is_true}
use Rattle.wg_semantics.specs.declared.state.Body.{Body}
use Rattle.wg_semantics.specs.declared.state.State.{State}
use Rattle.wg_semantics.specs.declared.state.Flow.{Flow}
use Rattle.wg_semantics.specs.declared.state.Flow.TheVariants as flow
use Rattle.wg_semantics.specs.declared.state.Lane.{Lane}
use Rattle.wg_typed.specs.declared.typed.Typed.{Typed}
use Rattle.wg_typed.specs.declared.typed.TypedFunction.{TypedFunction}
use Rattle.wg_typed.specs.declared.typed.TypedVariable.{TypedVariable}
use Rattle.wg_typed.specs.declared.typed.TypedShared.{TypedShared}
use Rattle.wg_typed.specs.declared.typed.TypedStruct.{TypedStruct}
use Rattle.wg_typed.specs.declared.typed.SystemValue.{SystemValue}
use Rattle.wg_typed.specs.declared.typed.SystemValue.TheVariants as system
use Rattle.wg_typed.specs.declared.typed_expr.TypedExpr.{TypedExpr}
use Rattle.wg_typed.specs.declared.typed_stmt.TypedDeclarator.{TypedDeclarator}
use Rattle.wg_typed.specs.declared.typed_stmt.TypedStmt.{TypedStmt, roll-TypedStmt, map-TypedStmt}
use Rattle.wg_typed.specs.declared.typed_stmt.TypedStmt.TheFolds.{fold-TypedStmt}
use Rattle.wg_typed.specs.declared.typed_stmt.TypedStmt.TheOpen.{TypedStmt-F}
use Rattle.wg_typed.specs.Layout.{words_of}
use Rattle.wg_typed.specs.Uniform.{is_finished}
use Rattle.wg_semantics.specs.Places.{Setting}
use Rattle.wg_semantics.specs.Calls.{Callee}
use Rattle.wg_semantics.specs.ExprMeaning.{seen, word_of}
use Rattle.wg_semantics.specs.StmtMeaning.{body_does}
use Rattle.wg_semantics.specs.FunctionMeaning.{callees_of}

-- ---- lanes

abbrev pub has_returned : Flow → Bool
has_returned flow.Next = false
has_returned flow.Broke = false
has_returned flow.Continued = false
has_returned (flow.Returned words) = true

abbrev pub lane_after : Ending State Flow → Ending World Lane
lane_after Spent = Spent
lane_after (Done end s t) = Done (record { variables = s.variables; returned = has_returned end }) s.world t

abbrev pub lane_runs : Action State Flow → Lane → Action World Lane
lane_runs body lane = if lane.returned then pure lane else (λ w t. lane_after (body (record { variables = lane.variables; world = w }) t))

-- what is done on a lane, by its number
abbrev pub LaneActions : Type 0
LaneActions = ℕ → Action State Flow

-- the lanes one after another, from a number on
abbrev pub lanes_run : LaneActions → ℕ → List Lane → Action World (List Lane)
lanes_run bodies at [] = pure []
lanes_run bodies at (lane ∷ rest) = do
  first ← lane_runs (bodies at) lane
  others ← lanes_run bodies (suc at) rest
  pure (first ∷ others)

-- ---- the phases of a block

-- what a launch does on all its lanes
abbrev pub OnLanes : Type 0
OnLanes = List Lane → Action World (List Lane)

-- what each lane does with statements, and the word of a test on lane 0
pub record Doing : Type 0 where
  pub body : List TypedStmt → LaneActions
  pub test : TypedExpr → Action State ℕ

-- a statement with whether it is a phase of its own, and with what it does on all lanes where it stands alone
pub record Part : Type 0 where
  pub statement : TypedStmt
  pub phase : Bool
  pub runs : OnLanes

-- a run of statements, if there are any, before other phases
abbrev pub after_run : Doing → List TypedStmt → List OnLanes → List OnLanes
after_run doing [] phases = phases
after_run doing (s ∷ run) phases = lanes_run (doing.body (s ∷ run)) 0 ∷ phases

abbrev pub phases_after : Doing → List TypedStmt → List Part → List OnLanes
phases_after doing run [] = after_run doing run []
phases_after doing run (p ∷ rest) =
    if p.phase then after_run doing run (p.runs ∷ phases_after doing [] rest) else phases_after doing (run ++ p.statement ∷ []) rest

abbrev pub phases_run : List OnLanes → OnLanes
phases_run [] lanes = pure lanes
phases_run (phase ∷ rest) lanes = phase lanes >>= phases_run rest

-- Each phase of a block is a statement that is one of its own, or a run of statements between two of them.
abbrev pub block_runs : Doing → List Part → OnLanes
block_runs doing parts = phases_run (phases_after doing [] parts)

-- ---- the choice of a collective `if`

abbrev pub tested : Lane → List Lane → Ending State ℕ → Ending World (ℕ × List Lane)
tested lane rest Spent = Spent
tested lane rest (Done word s t) = Done (word, record { variables = s.variables; returned = lane.returned } ∷ rest) s.world t

-- a test's word on lane 0, and the lanes after the test; 0 where there is no lane
abbrev pub first_test : Action State ℕ → List Lane → Action World (ℕ × List Lane)
first_test test [] = pure (0, [])
first_test test (lane ∷ rest) = λ w t. tested lane rest (test (record { variables = lane.variables; world = w }) t)

-- one of two by a word, on the lanes after the test
abbrev pub by_word : OnLanes → OnLanes → ℕ × List Lane → Action World (List Lane)
by_word first other test = if is_true test.0 then first test.1 else other test.1

-- a collective `if` takes the block that its condition's value on lane 0 chooses
abbrev pub chosen : Action State ℕ → OnLanes → OnLanes → OnLanes
chosen test first other lanes = first_test test lanes >>= by_word first other

-- ---- what a statement is to a launch

-- a part of a run, a block, a phase of its own, or a collective `if`
pub data Form (A : Type 0) : Type 0 where
  Plain : Form A
  Nested : List A → Form A
  Collective : Form A
  Chosen : TypedExpr → A → Option A → Form A

-- whether a start value is `FinishedCrossGroupSharing()`
abbrev pub starts_last : Option TypedExpr → Bool
starts_last None = false
starts_last (Some e) = is_finished e.kind

abbrev pub declares_last : List TypedDeclarator → Bool
declares_last [] = false
declares_last (d ∷ rest) = starts_last d.value || declares_last rest

-- Collective are a handle's request, an increment, an `OutputComplete`, a barrier that syncs, and the declaration that starts with
-- `FinishedCrossGroupSharing()`; an `if` where it is marked.
abbrev pub form_of : {A : Type 0} → TypedStmt-F A → Form A
form_of (TypedStmt-F.Block body) = Nested body
form_of TypedStmt-F.Empty = Plain
form_of (TypedStmt-F.Declare declared) = if declares_last declared then Collective else Plain
form_of (TypedStmt-F.Request handle group output element amount) = Collective
form_of (TypedStmt-F.Increment group output element amount) = Collective
form_of (TypedStmt-F.Complete handle) = Collective
form_of (TypedStmt-F.Barrier syncs) = if syncs then Collective else Plain
form_of (TypedStmt-F.Step step) = Plain
form_of TypedStmt-F.Break = Plain
form_of TypedStmt-F.Continue = Plain
form_of (TypedStmt-F.Return value) = Plain
form_of (TypedStmt-F.If attributes collective test first other) = if collective then Chosen test first other else Plain
form_of (TypedStmt-F.While attributes test body) = Plain
form_of (TypedStmt-F.For attributes start test steps body) = Plain

abbrev pub is_phase : Form Part → Bool
is_phase Plain = false
is_phase (Nested body) = false
is_phase Collective = true
is_phase (Chosen test first other) = true

-- an `if` without `else` does nothing else
abbrev pub other_runs : Option Part → OnLanes
other_runs None = pure
other_runs (Some p) = p.runs

abbrev pub form_runs : Doing → TypedStmt → Form Part → OnLanes
form_runs doing statement Plain = lanes_run (doing.body (statement ∷ [])) 0
form_runs doing statement (Nested body) = block_runs doing body
form_runs doing statement Collective = lanes_run (doing.body (statement ∷ [])) 0
form_runs doing statement (Chosen test first other) = chosen (doing.test test) first.runs (other_runs other)

abbrev pub statement_of : TypedStmt-F Part → TypedStmt
statement_of layer = roll-TypedStmt (map-TypedStmt Part TypedStmt (λ p. p.statement) layer)

abbrev pub part_step : Doing → TypedStmt-F Part → Part
part_step doing layer = record {
  statement = statement_of layer;
  phase = is_phase (form_of layer);
  runs = form_runs doing (statement_of layer) (form_of layer);
}

abbrev pub part_of : Doing → TypedStmt → Part
part_of doing = fold-TypedStmt Part (part_step doing)

-- the body of an entry function
abbrev pub body_runs : Doing → List TypedStmt → OnLanes
body_runs doing body = block_runs doing (map (part_of doing) body)

-- ---- what a lane begins with

abbrev pub system_words : List ℕ → List ℕ → ℕ → SystemValue → List ℕ
system_words group threads lane system.DispatchThreadId = dispatch_of group threads lane
system_words group threads lane system.GroupId = group
system_words group threads lane system.GroupThreadId = coordinates_of threads lane
system_words group threads lane system.GroupIndex = lane ∷ []

-- so many words of a variable: the first components of its system value, or zeros where it has none
abbrev pub begins_with : List ℕ → List ℕ → ℕ → ℕ → Option SystemValue → List ℕ
begins_with group threads lane words None = zeros words
begins_with group threads lane words (Some value) = take words (system_words group threads lane value)

abbrev pub first_value : List TypedStruct → List ℕ → List ℕ → ℕ → TypedVariable → List ℕ
first_value structs group threads lane v = begins_with group threads lane (words_of structs v.of) v.system

-- the variables of an entry function
abbrev pub first_values : List TypedStruct → TypedFunction → List ℕ → List ℕ → ℕ → List (List ℕ)
first_values structs f group threads lane = map (first_value structs group threads lane) f.variables

abbrev pub first_lanes : (ℕ → List (List ℕ)) → ℕ → ℕ → List Lane
first_lanes values at zero = []
first_lanes values at (suc n) = record { variables = values at; returned = false } ∷ first_lanes values (suc at) n

-- groupshared words start as zeros at each launch; own
abbrev pub first_shared : List TypedStruct → List TypedShared → List (List ℕ)
first_shared structs variables = map (λ (v : TypedShared). zeros (words_of structs v.of)) variables

-- ---- a launch

abbrev pub entry_setting : Typed → TypedFunction → Node → Bool → ℕ → Setting
entry_setting text f unit last lane =
    record { structs = text.structs; handles = f.handles; outputs = unit.outputs; level = unit.level; last = last; lane = lane }

abbrev pub entry_callees : Typed → TypedFunction → Node → Bool → ℕ → List Callee
entry_callees text f unit last lane = callees_of (entry_setting text f unit last lane) text.functions

-- what statements of an entry function do on each lane
abbrev pub entry_does : Typed → TypedFunction → Node → Bool → List TypedStmt → LaneActions
entry_does text f unit last body lane = body_does (entry_setting text f unit last lane) (entry_callees text f unit last lane) body

-- the word of an expression of it on lane 0
abbrev pub entry_test : Typed → TypedFunction → Node → Bool → TypedExpr → Action State ℕ
entry_test text f unit last e = word_of (entry_setting text f unit last 0) (seen (entry_setting text f unit last 0) (entry_callees text f unit last 0) e)

abbrev pub entry_doing : Typed → TypedFunction → Node → Bool → Doing
entry_doing text f unit last = record { body = entry_does text f unit last; test = entry_test text f unit last }

abbrev pub entry_lanes : Typed → TypedFunction → List ℕ → Launch → List Lane
entry_lanes text f threads launch =
    first_lanes (first_values text.structs f (coordinates_of launch.grid launch.group) threads) 0 (lanes_in threads)

abbrev pub entry_runs : Typed → TypedFunction → List ℕ → Node → Launch → Action World (List Lane)
entry_runs text f threads unit launch = body_runs (entry_doing text f unit launch.last) f.body (entry_lanes text f threads launch)

-- a body of an unknown function does nothing
abbrev pub function_made : Typed → Option TypedFunction → List ℕ → Node → Meaning
function_made text None threads unit launch buffers turns = does_nothing unit.shared launch buffers turns
function_made text (Some f) threads unit launch buffers turns =
    outcome_after unit turns (entry_runs text f threads unit launch (world_before (first_shared text.structs text.shared) unit launch buffers) turns)

-- nor does a node without a body
abbrev pub body_made : Typed → Option Body → Node → Meaning
body_made text None unit = does_nothing unit.shared
body_made text (Some body) unit = function_made text (slice_get text.functions body.function) body.threads unit

-- nor does an unknown unit
abbrev pub unit_made : Typed → List Body → Option Node → Meaning
unit_made text bodies None launch buffers turns = does_nothing false launch buffers turns
unit_made text bodies (Some unit) launch buffers turns = body_made text (slice_get bodies unit.node) unit launch buffers turns

-- What a launch on a shape does to the buffers within so many turns, where its nodes have these bodies by their numbers; none where it is
-- spent: where it would make one turn more.
abbrev pub made : Typed → List Body → Shape → Meaning
made text bodies shape launch buffers turns = unit_made text bodies (slice_get shape.units launch.unit) launch buffers turns
