-- Calls of plain functions (HLSL, `in`, `out` and `inout`): what a function does, and what its caller does before and after.
use Rattle.std.specs.Prelude.{ℕ, List, [], ◌∷◌, map, Option, Some, None, slice_get}
use Rattle.wg_state.specs.Turns.{Ending, Spent, Done, Action, ◌>>=◌, ◌>>◌, pure, read, change}
use Rattle.wg_tree.specs.declared.item.Direction.{Direction}
use Rattle.wg_tree.specs.declared.item.Direction.TheVariants as direction
use Rattle.wg_state.specs.declared.world.World.{World}
use Rattle.wg_semantics.specs.declared.state.State.{State}
use Rattle.wg_semantics.specs.declared.state.Passed.{Passed}
use Rattle.wg_semantics.specs.declared.state.Spot.{Spot}
use Rattle.wg_typed.specs.declared.types.TypeTree.{TypeTree}
use Rattle.wg_typed.specs.declared.typed.TypedParameter.{TypedParameter}
use Rattle.wg_typed.specs.declared.typed.TypedParameterType.{TypedParameterType}
use Rattle.wg_typed.specs.declared.typed.TypedParameterType.TheVariants as parameter
use Rattle.wg_typed.specs.declared.typed.TypedStruct.{TypedStruct}
use Rattle.wg_typed.specs.Directions.{direction_of}
use Rattle.wg_typed.specs.Layout.{words_of}
use Rattle.wg_semantics.specs.Places.{fetched, written}
use Rattle.wg_state.specs.WordLists.{zeros}

-- what an expression is for those around it: its type, and what it gives
pub record Seen : Type 0 where
  pub of : TypeTree
  pub spot : Action State Spot

-- What a function does with its parameters' values and what the lanes share: its result's words, and its variables as it leaves them, of which
-- the first are its parameters.
pub record Callee : Type 0 where
  pub parameters : List TypedParameter
  pub does : List (List ℕ) → Action World (List ℕ × List (List ℕ))

-- a function that is not there
abbrev pub no_callee : Callee
no_callee = record { parameters = []; does = λ values. pure ([], []) }

abbrev pub callee_in : Option Callee → Callee
callee_in None = no_callee
callee_in (Some c) = c

abbrev pub callee_at : List Callee → ℕ → Callee
callee_at callees number = callee_in (slice_get callees number)

-- the words of an expression's value
abbrev pub value_of : List TypedStruct → Seen → Action State (List ℕ)
value_of structs e = e.spot >>= (λ spot. read (fetched structs e.of spot))

-- a step on what the lanes share alone
abbrev pub with_variables : {A : Type 0} → List (List ℕ) → Ending World A → Ending State A
with_variables variables Spent = Spent
with_variables variables (Done a w t) = Done a (record { variables = variables; world = w }) t

abbrev pub on_world : {A : Type 0} → Action World A → Action State A
on_world m = λ s t. with_variables s.variables (m s.world t)

-- ---- arguments

-- the words of a parameter; an object has none
abbrev pub parameter_words : List TypedStruct → TypedParameterType → ℕ
parameter_words structs (parameter.Value of) = words_of structs of
parameter_words structs (parameter.Object place word kept) = 0

-- An `out` parameter starts as zeros. The place of an `out` or `inout` argument is found with the arguments, and an
-- `inout` value is read then.
abbrev pub passed_by : List TypedStruct → Direction → ℕ → Seen → Action State Passed
passed_by structs direction.In n e = do
  words ← value_of structs e
  pure (record { words = words; back = None })
passed_by structs direction.Out n e = do
  spot ← e.spot
  pure (record { words = zeros n; back = Some spot })
passed_by structs direction.InOut n e = do
  spot ← e.spot
  words ← read (fetched structs e.of spot)
  pure (record { words = words; back = Some spot })

abbrev pub passed : List TypedStruct → TypedParameter → Seen → Action State Passed
passed structs p e = passed_by structs (direction_of p.direction) (parameter_words structs p.of) e

-- the arguments from left to right, each by its parameter
abbrev pub all_passed : List TypedStruct → List TypedParameter → List Seen → Action State (List Passed)
all_passed structs [] arguments = pure []
all_passed structs (p ∷ parameters) [] = pure []
all_passed structs (p ∷ parameters) (e ∷ arguments) = do
  first ← passed structs p e
  rest ← all_passed structs parameters arguments
  pure (first ∷ rest)

abbrev pub copied_back : Option Spot → List ℕ → Action State (Unit {0})
copied_back None words = pure tt
copied_back (Some spot) words = change (written spot words)

-- the copies go back in the order of the parameters
abbrev pub all_back : List Passed → List (List ℕ) → Action State (Unit {0})
all_back [] values = pure tt
all_back (p ∷ rest) [] = pure tt
all_back (p ∷ rest) (words ∷ values) = copied_back p.back words >> all_back rest values

abbrev pub called : List TypedStruct → Callee → List Seen → Action State (List ℕ)
called structs callee arguments = do
  given ← all_passed structs callee.parameters arguments
  left ← on_world (callee.does (map (λ (p : Passed). p.words) given))
  all_back given left.1
  pure left.0
