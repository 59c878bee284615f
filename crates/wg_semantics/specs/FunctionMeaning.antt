-- What a plain function does, from what the functions before it do: its locals are zeros, and its result is what it returns, or zeros.
use Rattle.std.specs.Prelude.{ℕ, List, [], ◌∷◌, ◌++◌, map, length, drop, Option, Some, None}
use Rattle.wg_state.specs.Turns.{Ending, Spent, Done, Action}
use Rattle.wg_semantics.specs.declared.state.State.{State}
use Rattle.wg_state.specs.declared.world.World.{World}
use Rattle.wg_semantics.specs.declared.state.Flow.{Flow}
use Rattle.wg_semantics.specs.declared.state.Flow.TheVariants as flow
use Rattle.wg_typed.specs.declared.types.TypeTree.{TypeTree}
use Rattle.wg_typed.specs.declared.typed.TypedFunction.{TypedFunction}
use Rattle.wg_typed.specs.declared.typed.TypedVariable.{TypedVariable}
use Rattle.wg_typed.specs.declared.typed.TypedStruct.{TypedStruct}
use Rattle.wg_typed.specs.Layout.{words_of}
use Rattle.wg_semantics.specs.Places.{Setting}
use Rattle.wg_state.specs.WordLists.{zeros}
use Rattle.wg_semantics.specs.Calls.{Callee}
use Rattle.wg_semantics.specs.StmtMeaning.{body_does}

-- the values of variables before they are declared
abbrev pub fresh : List TypedStruct → List TypedVariable → List (List ℕ)
fresh structs variables = map (λ (v : TypedVariable). zeros (words_of structs v.of)) variables

-- a function's variables as it begins: its parameters' values, which it is given, and its locals
abbrev pub given_first : List TypedStruct → List TypedVariable → List (List ℕ) → List (List ℕ)
given_first structs variables values = values ++ fresh structs (drop (length values) variables)

-- `void` has no words
abbrev pub result_words : List TypedStruct → Option TypeTree → ℕ
result_words structs None = 0
result_words structs (Some t) = words_of structs t

abbrev pub result_of : ℕ → Flow → List ℕ
result_of n flow.Next = zeros n
result_of n flow.Broke = zeros n
result_of n flow.Continued = zeros n
result_of n (flow.Returned words) = words

abbrev pub leaves : ℕ → Ending State Flow → Ending World (List ℕ × List (List ℕ))
leaves n Spent = Spent
leaves n (Done end s t) = Done (result_of n end, s.variables) s.world t

abbrev pub function_does : Setting → List Callee → TypedFunction → List (List ℕ) → Action World (List ℕ × List (List ℕ))
function_does setting callees f values = λ w t.
    leaves (result_words setting.structs f.result)
    (body_does setting callees f.body (record { variables = given_first setting.structs f.variables values; world = w }) t)

abbrev pub callee_of : Setting → List Callee → TypedFunction → Callee
callee_of setting callees f = record { parameters = f.parameters; does = function_does setting callees f }

-- the meanings of all functions, where each calls only those before it
abbrev pub callees_after : Setting → List Callee → List TypedFunction → List Callee
callees_after setting callees [] = callees
callees_after setting callees (f ∷ rest) = callees_after setting (callees ++ callee_of setting callees f ∷ []) rest

abbrev pub callees_of : Setting → List TypedFunction → List Callee
callees_of setting functions = callees_after setting [] functions
