-- Which typed expressions are sound: a fold over one layer.
use Rattle.std.specs.Prelude.{ℕ, ◌==◌, nat_lt, Bool, false, ◌&&◌, [], length, Option, Some, None, is_some}
use Rattle.wg_typing.specs.Conversions.{same_type, fits, is_number, truth_type, uint_type, uints}
use Rattle.wg_typing.specs.TypingHandle.{same_truth}
use Rattle.wg_typing.specs.TypingIntrinsic.{reckons, arity_of}
use Rattle.wg_typed.specs.Layout.{words_of}
use Rattle.wg_facts.specs.Tests.{test}
use Rattle.wg_sound.specs.StandingTypes.{names_below, is_struct, are_words}
use Rattle.wg_sound.specs.Room.{Room, Output, Input, is_node, output_at, input_in, handle_record, has_variable, has_shared, buffer_type, holds_elements, is_raw, element_standing, input_standing, is_record}
use Rattle.wg_sound.specs.SoundForms.{Shown, Held, Form, held, value_held, is_a, is_index, access_step, all_follow, after_forms}
use Rattle.wg_sound.specs.SoundOperators.{link_step, chain_end, is_end, prefix_fits}
use Rattle.wg_sound.specs.SoundCalls.{calls, reckons_on, constructs}
use Rattle.wg_typed.specs.declared.types.TypeTree.{TypeTree}
use Rattle.wg_typed.specs.declared.typed_expr.Access.{Access}
use Rattle.wg_typed.specs.declared.typed_expr.Access.TheFolds.{fold-TypedExpr, fold-TypedKind, fold-Access, fold-TypedLink}
use Rattle.wg_typed.specs.declared.typed_expr.Access.TheOpen.{TypedExpr-F, TypedKind-F}
use Rattle.wg_typed.specs.declared.typed_expr.TypedExpr.{TypedExpr}
use Rattle.wg_typed.specs.declared.typed_expr.TypedKind.{TypedKind}
use Rattle.wg_typed.specs.declared.typed_expr.TypedLink.{TypedLink}
use Rattle.wg_typing.specs.declared.scope.Standing.TheVariants as standing

-- ---- objects

-- one `uint`, or a vector of 2 to 4
abbrev pub loads : TypeTree → Bool
loads t = nat_lt 0 (words_of [] t) && (nat_lt (words_of [] t) 5 && same_type t (uints (words_of [] t)))

-- an index stands just where there are several records
abbrev pub reads_input : TypeTree → Bool → Input → Bool
reads_input t indexed i = is_record t i.record_type && same_truth indexed i.many

-- an output, or an element of an output array
abbrev pub has_output : Room → ℕ → Option Shown → Bool
has_output room output element = test (λ (o : Output). same_truth (is_some element) o.array) (output_at room output) && is_index element

-- ---- one layer

-- `FinishedCrossGroupSharing()` is no part of an expression: it is the start value of a declaration.
abbrev pub kind_step : Room → TypedKind-F Form (TypeTree → Held) Shown (TypeTree → Option TypeTree) → TypeTree → Held
kind_step room (TypedKind-F.Literal words) t = value_held (are_words words t)
kind_step room (TypedKind-F.Variable number) t = held standing.Own (has_variable room number t)
kind_step room (TypedKind-F.Shared variable) t = held standing.Memory (has_shared room variable t)
kind_step room (TypedKind-F.Element number index) t =
    held (element_standing (buffer_type room number)) (test (holds_elements t) (buffer_type room number) && is_a uint_type index)
kind_step room (TypedKind-F.Load number address) t = value_held (test is_raw (buffer_type room number) && (is_a uint_type address && loads t))
kind_step room (TypedKind-F.Input index) t =
    held (input_standing (input_in room)) (test (reads_input t (is_some index)) (input_in room) && is_index index)
kind_step room TypedKind-F.Count t = value_held (is_some (input_in room) && same_type t uint_type)
kind_step room TypedKind-F.Finished t = value_held false
kind_step room (TypedKind-F.Handle handle index) t = held standing.Own (is_record t (handle_record room handle) && is_index index)
kind_step room (TypedKind-F.IsValid output element) t = value_held (has_output room output element && same_type t truth_type)
kind_step room TypedKind-F.Levels t = value_held (is_node room.function && same_type t uint_type)
kind_step room TypedKind-F.Zeros t = value_held (is_struct t && names_below (length room.text.structs) t)
kind_step room (TypedKind-F.Access base forms) t = held (after_forms forms base.standing) (base.sound && all_follow forms base.of t)
kind_step room (TypedKind-F.Prefix operator operand) t = value_held (is_a t operand && prefix_fits operator t)
kind_step room (TypedKind-F.Convert operand) t = value_held (operand.sound && fits operand.of t)
kind_step room (TypedKind-F.Chain first rest) t = value_held (first.sound && is_end t (chain_end rest first.of))
kind_step room (TypedKind-F.Choice c first second) t = value_held (is_a truth_type c && (is_number t && (is_a t first && is_a t second)))
kind_step room (TypedKind-F.Construct parts) t = value_held (constructs t parts)
kind_step room (TypedKind-F.Call function arguments) t = value_held (calls room function (Some t) arguments)
kind_step room (TypedKind-F.Intrinsic call arguments) t = value_held (length arguments == arity_of call && reckons_on (reckons call) t arguments)

abbrev pub expr_step : TypedExpr-F Form (TypeTree → Held) Shown (TypeTree → Option TypeTree) → Shown
expr_step e = record { of = e.of; sound = (e.kind e.of).sound; standing = (e.kind e.of).standing }

abbrev pub shown : Room → TypedExpr → Shown
shown room = fold-TypedExpr Form (TypeTree → Held) Shown (TypeTree → Option TypeTree) (access_step room) (kind_step room) expr_step link_step

abbrev pub shown_if : Room → Option TypedExpr → Option Shown
shown_if room None = None
shown_if room (Some e) = Some (shown room e)

abbrev pub kind_held : Room → TypedKind → TypeTree → Held
kind_held room = fold-TypedKind Form (TypeTree → Held) Shown (TypeTree → Option TypeTree) (access_step room) (kind_step room) expr_step link_step

abbrev pub form_of : Room → Access → Form
form_of room = fold-Access Form (TypeTree → Held) Shown (TypeTree → Option TypeTree) (access_step room) (kind_step room) expr_step link_step

abbrev pub link_of : Room → TypedLink → TypeTree → Option TypeTree
link_of room = fold-TypedLink Form (TypeTree → Held) Shown (TypeTree → Option TypeTree) (access_step room) (kind_step room) expr_step link_step
