-- Calls of plain functions (HLSL Shader Model 6.8, functions; the limit on chains of calls is own).
use Rattle.std.specs.Prelude.{ℕ, Bool, not, ◌&&◌, nat_lt, List, [], ◌∷◌, Option, Some, None, true, false}
use Rattle.wg_words.specs.declared.place.Place.{Place}
use Rattle.wg_words.specs.Maybe.{◌>>=◌}
use Rattle.wg_typing.specs.Maybe.{where_true}
use Rattle.wg_typing.specs.Conversions.{same_type}
use Rattle.wg_typing.specs.Layers.{typed_part, fit, fixed, act}
use Rattle.wg_typing.specs.TypingInterlocked.{is_fixed}
use Rattle.wg_tree.specs.declared.item.Direction.{Direction}
use Rattle.wg_tree.specs.declared.item.Direction.TheVariants as direction
use Rattle.wg_typed.specs.declared.types.TypeTree.{TypeTree}
use Rattle.wg_typed.specs.declared.typed_expr.TypedExpr.{TypedExpr}
use Rattle.wg_typed.specs.declared.typed_expr.TypedKind.TheVariants as tree
use Rattle.wg_typed.specs.declared.typed_stmt.TypedStep.TheVariants as step
use Rattle.wg_typing.specs.declared.scope.FormalParameter.{FormalParameter}
use Rattle.wg_typing.specs.declared.scope.Value.{Value}
use Rattle.wg_typing.specs.declared.scope.Act.TheVariants as act_of
use Rattle.wg_typing.specs.declared.part.Part.{Part}

-- an argument of a plain function: a value that converts, or an assignable place of the same type
abbrev pub passed_place : TypeTree → Part → Option TypedExpr
passed_place of p = do
  t ← typed_part p
  where_true (same_type t.of of && not (is_fixed t.standing)) t.tree

-- whether an argument is copied back when the call returns
abbrev pub is_given_back : Direction → Bool
is_given_back direction.In = false
is_given_back direction.Out = true
is_given_back direction.InOut = true

abbrev pub passed_as : Direction → TypeTree → Part → Option TypedExpr
passed_as direction.In of p = fit of p
passed_as direction.Out of p = passed_place of p
passed_as direction.InOut of p = passed_place of p

abbrev pub passed_all : List FormalParameter → List Part → Option (List TypedExpr)
passed_all [] [] = Some []
passed_all [] (p ∷ parts) = None
passed_all (a ∷ parameters) [] = None
passed_all (a ∷ parameters) (p ∷ parts) = do
  first ← passed_as a.direction a.of p
  others ← passed_all parameters parts
  Some (first ∷ others)

-- the most functions of a chain of calls, with the entry function from which it begins
abbrev pub chain_limit : ℕ
chain_limit = 16

-- a call from one more function
abbrev pub chain_fits : ℕ → Bool
chain_fits chain = nat_lt chain chain_limit

abbrev pub plain_call : Place → ℕ → Option TypeTree → List TypedExpr → Option Value
plain_call name number None arguments = act name (act_of.Step (step.Call number arguments))
plain_call name number (Some of) arguments = fixed name of (tree.Call number arguments)

abbrev pub plain_value : Place → ℕ → Option TypeTree → List FormalParameter → ℕ → List Part → Option Value
plain_value name number result parameters chain parts = do
  arguments ← passed_all parameters parts
  where_true (chain_fits chain) arguments >>= plain_call name number result
