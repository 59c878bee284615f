-- Which steps and declarations are sound.
use Rattle.std.specs.Prelude.{Bool, not, ◌&&◌, ◌||◌, List, map, None}
use Rattle.wg_typing.specs.Conversions.{same_type, fits, is_number, is_word, truth_type, uint_type}
use Rattle.wg_typing.specs.TypingHandle.{same_truth}
use Rattle.wg_typing.specs.TypingInterlocked.{is_fixed, is_memory, is_int}
use Rattle.wg_typed.specs.Uniform.{is_finished}
use Rattle.wg_facts.specs.Tests.{test, if_any, every}
use Rattle.wg_sound.specs.Room.{Room, input_in, has_variable, buffer_type, is_writable_raw, tells_last}
use Rattle.wg_sound.specs.SoundForms.{Shown, is_a}
use Rattle.wg_sound.specs.SoundOperators.{operates, result_of}
use Rattle.wg_sound.specs.SoundCalls.{calls}
use Rattle.wg_sound.specs.SoundExpr.{loads, shown}
use Rattle.wg_tree.specs.declared.expr.BinaryOperator.{BinaryOperator}
use Rattle.wg_typed.specs.declared.types.TypeTree.{TypeTree}
use Rattle.wg_typed.specs.declared.typed_expr.TypedExpr.{TypedExpr}
use Rattle.wg_typed.specs.declared.typed_stmt.TypedDeclarator.{TypedDeclarator}
use Rattle.wg_typed.specs.declared.typed_stmt.Destination.{Destination}
use Rattle.wg_typed.specs.declared.typed_stmt.Destination.TheVariants as destination
use Rattle.wg_typed.specs.declared.typed_stmt.Interlocked.{Interlocked}
use Rattle.wg_typed.specs.declared.typed_stmt.TypedStep.{TypedStep}
use Rattle.wg_typed.specs.declared.typed_stmt.TypedStep.TheVariants as step
use Rattle.wg_typed.specs.declared.typed_stmt.TypedStart.{TypedStart}
use Rattle.wg_typed.specs.declared.typed_stmt.TypedStart.TheVariants as start

abbrev pub sound_of : Room → TypeTree → TypedExpr → Bool
sound_of room t e = is_a t (shown room e)

-- ---- assignments

abbrev pub is_target : Shown → Bool
is_target e = e.sound && not (is_fixed e.standing)

abbrev pub assigns : Shown → Shown → Bool
assigns target value = is_target target && is_a target.of value

-- the result of the operation, which is of this type, converts back
abbrev pub updates : Shown → BinaryOperator → TypeTree → Shown → Bool
updates target operator by value =
    is_target target && (value.sound && (fits target.of by && test (λ result. operates operator by value.of result && fits result target.of) (result_of operator by)))

-- ---- interlocked forms

abbrev pub destination_type : Room → Destination → TypeTree → Bool
destination_type room (destination.Scalar target) t = is_word t && (is_a t (shown room target) && is_memory (shown room target).standing)
destination_type room (destination.Raw number address) t = is_word t && (test is_writable_raw (buffer_type room number) && sound_of room uint_type address)

abbrev pub is_word_place : Shown → Bool
is_word_place e = is_target e && is_word e.of

abbrev pub interlocks : Room → Interlocked → Bool
interlocks room i =
    destination_type room i.destination (shown room i.value).of && ((shown room i.value).sound && (same_truth i.signed (is_int (shown room i.value).of)
    && (if_any (sound_of room (shown room i.value).of) i.compare && if_any (λ e. is_word_place (shown room e)) i.old)))

-- ---- steps

abbrev pub step_sound : Room → TypedStep → Bool
step_sound room (step.Evaluate value) = (shown room value).sound
step_sound room (step.Call function arguments) = calls room function None (map (shown room) arguments)
step_sound room (step.Assign target value) = assigns (shown room target) (shown room value)
step_sound room (step.Update target operator by value) = updates (shown room target) operator by (shown room value)
step_sound room (step.Change target operator) = is_target (shown room target) && is_number (shown room target).of
step_sound room (step.Store number address value) =
    test is_writable_raw (buffer_type room number) && (sound_of room uint_type address && ((shown room value).sound && loads (shown room value).of))
step_sound room (step.Interlocked i) = interlocks room i

abbrev pub steps_sound : Room → List TypedStep → Bool
steps_sound room steps = every (step_sound room) steps

-- ---- declarations

-- whether the group is the last of its record, as a `bool`
abbrev pub tells : Room → TypeTree → TypedExpr → Bool
tells room t e = is_finished e.kind && (same_type t truth_type && (same_type e.of truth_type && test (tells_last room) (input_in room)))

abbrev pub starts : Room → TypeTree → TypedExpr → Bool
starts room t e = sound_of room t e || tells room t e

abbrev pub declares : Room → TypedDeclarator → Bool
declares room d = has_variable room d.variable d.of && if_any (starts room d.of) d.value

abbrev pub start_sound : Room → TypedStart → Bool
start_sound room (start.Declare declarators) = every (declares room) declarators
start_sound room (start.Steps steps) = steps_sound room steps
