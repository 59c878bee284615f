-- What an expression does to the shared buffers: taken for its value, and as a place that is only found. Own.
use Rattle.std.specs.Prelude.{ℕ, Bool, true, false, List, [], ◌∷◌, ◌++◌, Option, Some, None, slice_get}
use Rattle.wg_tree.specs.declared.item.Direction.{Direction}
use Rattle.wg_tree.specs.declared.item.Direction.TheVariants as direction
use Rattle.wg_typed.specs.Directions.{direction_of}
use Rattle.wg_typed.specs.declared.typed.TypedFunction.{TypedFunction}
use Rattle.wg_typed.specs.declared.typed.TypedParameter.{TypedParameter}
use Rattle.wg_typed.specs.declared.typed_expr.TypedExpr.{TypedExpr}
use Rattle.wg_typed.specs.declared.typed_expr.Access.TheFolds.{fold-TypedExpr}
use Rattle.wg_typed.specs.declared.typed_expr.Access.TheOpen.{TypedExpr-F, TypedKind-F, Access-F, TypedLink-F}
use Rattle.wg_additive.specs.Touch.{Touch, a_read, a_store, joined, where_in_buffer}

-- what taking the value does, what finding the place does, and whether the place is in a buffer
pub record Touched : Type 0 where
  pub value : List Touch
  pub place : List Touch
  pub in_buffer : Bool

-- an expression that is no place in a buffer
abbrev pub outside : List Touch → Touched
outside touches = record { value = touches; place = touches; in_buffer = false }

-- an element of a structured buffer; its value is read
abbrev pub element_at : List Touch → Touched
element_at index = record { value = index ++ a_read ∷ []; place = index; in_buffer = true }

-- members, components and elements are where the whole is: a member of `b[i]` is read as `b[i]` is
abbrev pub with_forms : Touched → List (List Touch) → Touched
with_forms base forms =
    record { value = base.value ++ joined forms; place = base.place ++ joined forms; in_buffer = base.in_buffer }

abbrev pub values : List Touched → List Touch
values [] = []
values (e ∷ rest) = e.value ++ values rest

abbrev pub option_value : Option Touched → List Touch
option_value None = []
option_value (Some e) = e.value

-- ---- arguments of functions

-- an `out` argument is stored, and an `inout` one is read before
abbrev pub passed_by : Direction → Touched → List Touch
passed_by direction.In e = e.value
passed_by direction.Out e = e.place ++ where_in_buffer e.in_buffer (a_store ∷ [])
passed_by direction.InOut e = e.place ++ where_in_buffer e.in_buffer (a_read ∷ a_store ∷ [])

-- each argument by its parameter
abbrev pub all_passed : List TypedParameter → List Touched → List Touch
all_passed parameters [] = []
all_passed [] (e ∷ rest) = e.value ++ all_passed [] rest
all_passed (p ∷ parameters) (e ∷ rest) = passed_by (direction_of p.direction) e ++ all_passed parameters rest

abbrev pub parameters_in : Option TypedFunction → List TypedParameter
parameters_in None = []
parameters_in (Some f) = f.parameters

-- a call's arguments; what the called function does stands in its own body
abbrev pub call_touches : List TypedFunction → ℕ → List Touched → List Touch
call_touches functions function arguments = all_passed (parameters_in (slice_get functions function)) arguments

-- ---- expressions of a text with these functions

abbrev pub kind_touched : List TypedFunction → TypedKind-F (List Touch) Touched Touched Touched → Touched
kind_touched functions (TypedKind-F.Literal words) = outside []
kind_touched functions (TypedKind-F.Variable variable) = outside []
kind_touched functions (TypedKind-F.Shared variable) = outside []
kind_touched functions (TypedKind-F.Element buffer index) = element_at index.value
kind_touched functions (TypedKind-F.Load buffer address) = outside (address.value ++ a_read ∷ [])
kind_touched functions (TypedKind-F.Input index) = outside (option_value index)
kind_touched functions TypedKind-F.Count = outside []
kind_touched functions TypedKind-F.Finished = outside []
kind_touched functions (TypedKind-F.Handle handle index) = outside (option_value index)
kind_touched functions (TypedKind-F.IsValid output element) = outside (option_value element)
kind_touched functions TypedKind-F.Levels = outside []
kind_touched functions TypedKind-F.Zeros = outside []
kind_touched functions (TypedKind-F.Access base forms) = with_forms base forms
kind_touched functions (TypedKind-F.Prefix operator operand) = outside operand.value
kind_touched functions (TypedKind-F.Convert operand) = outside operand.value
kind_touched functions (TypedKind-F.Chain first rest) = outside (first.value ++ values rest)
kind_touched functions (TypedKind-F.Choice test first other) = outside (test.value ++ first.value ++ other.value)
kind_touched functions (TypedKind-F.Construct parts) = outside (values parts)
kind_touched functions (TypedKind-F.Call function arguments) = outside (call_touches functions function arguments)
kind_touched functions (TypedKind-F.Intrinsic c arguments) = outside (values arguments)

-- what a form's index does
abbrev pub access_touches : Access-F (List Touch) Touched Touched Touched → List Touch
access_touches (Access-F.Field field of) = []
access_touches (Access-F.Components chosen of) = []
access_touches (Access-F.Index index of) = index.value

abbrev pub expr_touched : TypedExpr-F (List Touch) Touched Touched Touched → Touched
expr_touched e = e.kind

abbrev pub link_touched : TypedLink-F (List Touch) Touched Touched Touched → Touched
link_touched l = l.operand

abbrev pub touched : List TypedFunction → TypedExpr → Touched
touched functions = fold-TypedExpr (List Touch) Touched Touched Touched access_touches (kind_touched functions) expr_touched link_touched

abbrev pub value_touches : List TypedFunction → TypedExpr → List Touch
value_touches functions e = (touched functions e).value

abbrev pub option_touches : List TypedFunction → Option TypedExpr → List Touch
option_touches functions None = []
option_touches functions (Some e) = value_touches functions e

-- a place, and what is done to it where it is in a buffer
abbrev pub place_touches : List TypedFunction → List Touch → TypedExpr → List Touch
place_touches functions there e = (touched functions e).place ++ where_in_buffer (touched functions e).in_buffer there
