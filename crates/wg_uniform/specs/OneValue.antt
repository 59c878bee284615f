-- What it is for an expression to have one value on all lanes of a launch, by what it means on a lane. Own.
use Rattle.std.specs.Prelude.{◌≡◌, ℕ, Bool, true, false, List, length, slice_get, Some}
use Rattle.wg_state.specs.Turns.{Action, Done}
use Rattle.wg_state.specs.WordLists.{list_at}
use Rattle.wg_semantics.specs.declared.state.State.{State}
use Rattle.wg_semantics.specs.declared.state.Store.{Store}
use Rattle.wg_semantics.specs.declared.state.Store.TheVariants as store
use Rattle.wg_semantics.specs.Places.{Setting}
use Rattle.wg_semantics.specs.Calls.{Callee, value_of}
use Rattle.wg_semantics.specs.ExprMeaning.{seen}
use Rattle.wg_typed.specs.declared.typed.SystemValue.TheVariants as system
use Rattle.wg_typed.specs.declared.typed.SystemValue.{SystemValue}
use Rattle.wg_typed.specs.declared.typed.TypedVariable.{TypedVariable}
use Rattle.wg_typed.specs.declared.typed_expr.TypedExpr.{TypedExpr}
use Rattle.wg_typed.specs.Uniform.{UniformSetting, is_marked}

-- the words of an expression, by the settings of its lane and by what the functions do there
abbrev pub words_on : Setting → List Callee → TypedExpr → Action State (List ℕ)
words_on setting callees e = value_of setting.structs (seen setting callees e)

-- the lanes of a launch have one setting, but for their numbers
abbrev pub on_lane : Setting → ℕ → Setting
on_lane setting lane = record setting { lane = lane }

-- Two lanes, each when it comes to an expression, have come there through equal choices: what stands in marked variables is the same, so is
-- the number of input records, and so are these where they are only read.
pub record AreAlike (u : UniformSetting) (s other : State) : Type 0 where
  pub variables : (number : ℕ) → is_marked (slice_get u.variables number) ≡ true → list_at s.variables number ≡ list_at other.variables number
  pub count : length s.world.inputs ≡ length other.world.inputs
  pub inputs : u.reads_input ≡ true → s.world.inputs ≡ other.world.inputs

-- an action that ends with these words, and leaves the state and the turns as they were
abbrev pub IsStill : Action State (List ℕ) → State → List ℕ → Type 0
IsStill m s words = (turns : ℕ) → m s turns ≡ Done words s turns

-- on any two lanes that are alike the evaluation ends with the same words, and changes nothing
abbrev pub HasOneValue : UniformSetting → TypedExpr → Type 0
HasOneValue u e = (setting : Setting) (lane other : ℕ) (callees others : List Callee) (s r : State) → AreAlike u s r
    → (words : List ℕ) × (IsStill (words_on (on_lane setting lane) callees e) s words × IsStill (words_on (on_lane setting other) others e) r words)

-- ---- how lanes come to be alike

-- of the variables with a system value none is marked but those with `SV_GroupID`
abbrev pub MarksGroupIds : List TypedVariable → Type 0
MarksGroupIds variables = (number : ℕ) (v : TypedVariable) (value : SystemValue) → slice_get variables number ≡ Some v → v.uniform ≡ true → v.system ≡ Some value → value ≡ system.GroupId

-- a step that ends on both lanes, and leaves them alike
pub record StayAlike (u : UniformSetting) (m n : Action State (Unit {0})) (s r : State) : Type 0 where
  pub after : State
  pub other_after : State
  pub runs : (turns : ℕ) → m s turns ≡ Done tt after turns
  pub other_runs : (turns : ℕ) → n r turns ≡ Done tt other_after turns
  pub alike : AreAlike u after other_after

-- whether uniform expressions may read a store: a marked variable, or an input that is only read
abbrev pub is_read_alike : UniformSetting → Store → Bool
is_read_alike u (store.Variable variable) = is_marked (slice_get u.variables variable)
is_read_alike u (store.Shared variable) = false
is_read_alike u (store.Buffer buffer) = false
is_read_alike u (store.Input number) = u.reads_input
is_read_alike u (store.Granted grant item) = false
