-- Which statements are sound, in a loop or not: a fold over one layer.
use Rattle.std.specs.Prelude.{ℕ, ◌==◌, nat_lt, Bool, true, false, ◌&&◌, List, length, map, slice_get, Option, Some, None, is_some}
use Rattle.wg_typing.specs.Conversions.{truth_type, uint_type}
use Rattle.wg_typing.specs.TypingHandle.{same_truth}
use Rattle.wg_facts.specs.Tests.{test, if_any, every}
use Rattle.wg_sound.specs.Room.{Room, Output, is_node, output_at}
use Rattle.wg_sound.specs.SoundExpr.{has_output, shown_if}
use Rattle.wg_sound.specs.SoundStep.{sound_of, step_sound, steps_sound, declares, start_sound}
use Rattle.wg_typed.specs.declared.types.TypeTree.{TypeTree}
use Rattle.wg_typed.specs.declared.typed.TypedHandle.{TypedHandle}
use Rattle.wg_typed.specs.declared.typed_expr.TypedExpr.{TypedExpr}
use Rattle.wg_typed.specs.declared.typed_stmt.TypedStmt.{TypedStmt}
use Rattle.wg_typed.specs.declared.typed_stmt.TypedStmt.TheFolds.{fold-TypedStmt}
use Rattle.wg_typed.specs.declared.typed_stmt.TypedStmt.TheOpen.{TypedStmt-F}

-- a request is its handle's: of the same output, by the group or by each lane
abbrev pub is_request_of : Bool → ℕ → TypedHandle → Bool
is_request_of group output h = same_truth group h.group && h.output == output

abbrev pub is_sent : Bool → Output → Bool
is_sent with_records o = same_truth (is_some o.record_type) with_records

-- an output, or an element of one, with records or without, and how many
abbrev pub sends : Room → Bool → ℕ → Option TypedExpr → TypedExpr → Bool
sends room with_records output element amount = test (is_sent with_records) (output_at room output)
    && (has_output room output (shown_if room element) && sound_of room uint_type amount)

abbrev pub returns : Room → Option TypeTree → Option TypedExpr → Bool
returns room None None = true
returns room (Some t) (Some e) = sound_of room t e
returns room None (Some e) = false
returns room (Some t) None = false

abbrev pub stmt_step : Room → TypedStmt-F (Bool → Bool) → Bool → Bool
stmt_step room (TypedStmt-F.Block body) looped = every (λ s. s looped) body
stmt_step room TypedStmt-F.Empty looped = true
stmt_step room (TypedStmt-F.Declare declarators) looped = every (declares room) declarators
stmt_step room (TypedStmt-F.Request handle group output element amount) looped =
    test (is_request_of group output) (slice_get room.function.handles handle) && sends room true output element amount
stmt_step room (TypedStmt-F.Increment group output element amount) looped = sends room false output element amount
stmt_step room (TypedStmt-F.Complete handle) looped = nat_lt handle (length room.function.handles)
stmt_step room (TypedStmt-F.Barrier syncs) looped = is_node room.function
stmt_step room (TypedStmt-F.Step s) looped = step_sound room s
stmt_step room TypedStmt-F.Break looped = looped
stmt_step room TypedStmt-F.Continue looped = looped
stmt_step room (TypedStmt-F.Return value) looped = returns room room.function.result value
stmt_step room (TypedStmt-F.If attributes collective c first other) looped =
    sound_of room truth_type c && (first looped && if_any (λ s. s looped) other)
stmt_step room (TypedStmt-F.While attributes c body) looped = sound_of room truth_type c && body true
stmt_step room (TypedStmt-F.For attributes begin c steps body) looped =
    if_any (start_sound room) begin && (if_any (sound_of room truth_type) c && (steps_sound room steps && body true))

abbrev pub stmt_sound : Room → TypedStmt → Bool → Bool
stmt_sound room = fold-TypedStmt (Bool → Bool) (stmt_step room)

abbrev pub body_sound : Room → List TypedStmt → Bool
body_sound room body = every (λ s. s false) (map (stmt_sound room) body)
