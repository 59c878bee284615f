-- What is marked in the typed form of a function, on its finished body: the variables that have one value on all lanes of a
-- launch, and the collective `if`s. Own.
use Rattle.std.specs.Prelude.{ℕ, ◌==◌, Bool, true, false, ◌&&◌, ◌||◌, not, nat_lt, if◌then◌else◌, List, [], ◌∷◌, ◌++◌, length, map, Option, Some, None}
use Rattle.wg_typed.specs.Uniform.{UniformSetting, is_uniform, is_uniform_start, any_read}
use Rattle.wg_typed.specs.declared.typed.SystemValue.{SystemValue}
use Rattle.wg_typed.specs.declared.typed.SystemValue.TheVariants as system
use Rattle.wg_typed.specs.declared.typed.TypedVariable.{TypedVariable}
use Rattle.wg_typed.specs.declared.typed.TypedParameter.{TypedParameter}
use Rattle.wg_typed.specs.declared.typed_expr.TypedExpr.{TypedExpr}
use Rattle.wg_typed.specs.declared.typed_stmt.TypedStmt.{TypedStmt}
use Rattle.wg_typed.specs.declared.typed_stmt.TypedStmt.TheVariants as t
use Rattle.wg_typed.specs.declared.typed_stmt.TypedStmt.TheFolds.{fold-TypedStmt}
use Rattle.wg_typed.specs.declared.typed_stmt.TypedStmt.TheOpen.{TypedStmt-F}
use Rattle.wg_typing.specs.declared.context.Around.{Around}
use Rattle.wg_typing.specs.declared.context.VariableForm.{VariableForm}
use Rattle.wg_typing.specs.declared.event.Event.{Event}
use Rattle.wg_typing.specs.declared.context.Around.TheVariants as surrounding
use Rattle.wg_typing.specs.declared.event.Event.TheVariants as event

-- ---- variables

-- whether the body changes the variable of a number
abbrev pub is_changed : ℕ → List Event → Bool
is_changed variable [] = false
is_changed variable (event.Declares name words ∷ rest) = is_changed variable rest
is_changed variable (event.Requested name handle ∷ rest) = is_changed variable rest
is_changed variable (event.Completed handle ∷ rest) = is_changed variable rest
is_changed variable (event.Collective call path ∷ rest) = is_changed variable rest
is_changed variable (event.Returns place ∷ rest) = is_changed variable rest
is_changed variable (event.Calls chain ∷ rest) = is_changed variable rest
is_changed variable (event.Changes other ∷ rest) = other == variable || is_changed variable rest

abbrev pub is_group_id : SystemValue → Bool
is_group_id system.DispatchThreadId = false
is_group_id system.GroupId = true
is_group_id system.GroupThreadId = false
is_group_id system.GroupIndex = false

abbrev pub is_uniform_value : UniformSetting → Option TypedExpr → Bool
is_uniform_value u None = false
is_uniform_value u (Some e) = is_uniform_start u e

-- a parameter that takes a system value, or another variable with a value that is uniform or not
abbrev pub is_uniform_of : Option SystemValue → Bool → Bool → Bool
is_uniform_of None is_left value = value
is_uniform_of (Some s) is_left value = is_group_id s && is_left

-- A parameter is uniform where it is `SV_GroupID` and the body leaves it alone; a local where it is `const` and its start value is, by the
-- variables before it.
abbrev pub is_uniform_variable : UniformSetting → List Event → ℕ → VariableForm → Bool
is_uniform_variable u events number v = is_uniform_of v.system (not (is_changed number events)) (v.constant && is_uniform_value u v.value)

abbrev pub marked_variable : UniformSetting → List Event → VariableForm → TypedVariable
marked_variable u events v = record { of = v.of; system = v.system; uniform = is_uniform_variable u events (length u.variables) v }

abbrev pub with_variable : UniformSetting → List Event → VariableForm → UniformSetting
with_variable u events v = record u { variables = u.variables ++ marked_variable u events v ∷ [] }

abbrev pub with_variables : UniformSetting → List Event → List VariableForm → UniformSetting
with_variables u events [] = u
with_variables u events (v ∷ rest) = with_variables (with_variable u events v) events rest

-- what is uniform in a function with these parameters, in which this happens and which has these variables
abbrev pub setting_of : List TypedParameter → List Event → List VariableForm → UniformSetting
setting_of parameters events variables = with_variables (record { variables = []; reads_input = any_read parameters }) events variables

-- ---- statements

-- A statement where it stands, directly in the body or in a block of a collective `if`, or not; as a block of a collective `if`; whether it
-- holds a collective statement; and whether it is a block.
pub record MarkedStmt : Type 0 where
  pub here : Bool → TypedStmt
  pub branch : TypedStmt
  pub holds : Bool
  pub block : Bool

abbrev pub any_holds : List MarkedStmt → Bool
any_holds [] = false
any_holds (s ∷ rest) = s.holds || any_holds rest

abbrev pub all_here : Bool → List MarkedStmt → List TypedStmt
all_here direct body = map (λ (s : MarkedStmt). s.here direct) body

abbrev pub plain_stmt : Bool → TypedStmt → MarkedStmt
plain_stmt holds s = record { here = λ direct. s; branch = s; holds = holds; block = false }

abbrev pub else_holds : Option MarkedStmt → Bool
else_holds None = false
else_holds (Some s) = s.holds

abbrev pub else_block : Option MarkedStmt → Bool
else_block None = true
else_block (Some s) = s.block

abbrev pub else_branch : Bool → Option MarkedStmt → Option TypedStmt
else_branch is_marked None = None
else_branch is_marked (Some s) = Some (if is_marked then s.branch else s.here false)

-- whether an `if` that stands directly in the body, or in a block of a collective `if`, is collective
abbrev pub is_collective_if : UniformSetting → TypedExpr → MarkedStmt → Option MarkedStmt → Bool
is_collective_if u test first other = is_uniform u test && (first.holds || else_holds other) && first.block && else_block other

abbrev pub mark_step : UniformSetting → TypedStmt-F MarkedStmt → MarkedStmt
mark_step u (TypedStmt-F.Block body) =
    record { here = λ direct. t.Block (all_here false body); branch = t.Block (all_here true body); holds = any_holds body; block = true }
mark_step u TypedStmt-F.Empty = plain_stmt false t.Empty
mark_step u (TypedStmt-F.Declare declared) = plain_stmt false (t.Declare declared)
mark_step u (TypedStmt-F.Request handle group output element amount) = plain_stmt true (t.Request handle group output element amount)
mark_step u (TypedStmt-F.Increment group output element amount) = plain_stmt true (t.Increment group output element amount)
mark_step u (TypedStmt-F.Complete handle) = plain_stmt true (t.Complete handle)
mark_step u (TypedStmt-F.Barrier syncs) = plain_stmt syncs (t.Barrier syncs)
mark_step u (TypedStmt-F.Step step) = plain_stmt false (t.Step step)
mark_step u TypedStmt-F.Break = plain_stmt false t.Break
mark_step u TypedStmt-F.Continue = plain_stmt false t.Continue
mark_step u (TypedStmt-F.Return value) = plain_stmt false (t.Return value)
mark_step u (TypedStmt-F.If attributes marked test first other) =
    let if_where = λ (c : Bool). t.If attributes c test (if c then first.branch else first.here false) (else_branch c other) in
    record {
      here = λ direct. if_where (direct && is_collective_if u test first other);
      branch = if_where false;
      holds = first.holds || else_holds other;
      block = false;
    }
mark_step u (TypedStmt-F.While attributes test body) =
    record { here = λ direct. t.While attributes test (body.here false); branch = t.While attributes test (body.here false); holds = body.holds; block = false }
mark_step u (TypedStmt-F.For attributes start test steps body) =
    record { here = λ direct. t.For attributes start test steps (body.here false); branch = t.For attributes start test steps (body.here false); holds = body.holds; block = false }

abbrev pub marked_stmt : UniformSetting → TypedStmt → MarkedStmt
marked_stmt u = fold-TypedStmt MarkedStmt (mark_step u)

-- in a node of one lane no `if` is marked, nor in a plain function
abbrev pub marks_ifs : Around → Bool
marks_ifs (surrounding.Entry lanes) = nat_lt 1 lanes
marks_ifs surrounding.Plain = false
marks_ifs surrounding.Const = false
marks_ifs (surrounding.Attribute allowed) = false

abbrev pub marked_body : Around → UniformSetting → List TypedStmt → List TypedStmt
marked_body around u body = if marks_ifs around then all_here true (map (marked_stmt u) body) else body
