-- In a function of a text that breaks no rule, collective statements stand where they may.
use Rattle.std.proofs.Common.{◌≡◌, Bool, true, false, not, cond, List, [], ◌∷◌, map, Option, Some, None, refl}
use Rattle.std.specs.Prelude.{◌&&◌, nat_lt}
use Rattle.wg_typed.specs.Uniform.{UniformSetting}
use Rattle.wg_typing.specs.RulesCollective.{takes_call, misplaced_call, misplaced}
use Rattle.wg_typing.specs.TypingActs.{is_output, is_sync}
use Rattle.wg_typing.specs.TypingMarks.{all_here, marked_stmt, marked_body, with_variable, with_variables}
use Rattle.wg_facts.specs.Tests.{every}
use Rattle.wg_sound.specs.Placement.{in_body, Placed, placed}
use Rattle.wg_typed.specs.declared.typed.TypedEntry.{TypedEntry}
use Rattle.wg_typed.specs.declared.typed_stmt.TypedStmt.{TypedStmt}
use Rattle.wg_typing.specs.declared.context.Around.{Around}
use Rattle.wg_typing.specs.declared.context.VariableForm.{VariableForm}
use Rattle.wg_typing.specs.declared.event.Event.{Event}
use Rattle.wg_typing.specs.declared.event.Event.TheVariants as event
use Rattle.wg_typing.specs.declared.event.Region.{Region}
use Rattle.wg_typing.specs.declared.part.CallKind.{CallKind}
use Rattle.wg_typing.specs.declared.part.CallKind.TheVariants as call_kind
use Rattle.wg_sound.proofs.Allowed.{Allowed, Taken, allowed}
use Rattle.wg_sound.proofs.Alone.{body_alone}
use Rattle.wg_facts.proofs.Sited.{Empty, empty_left, empty_right, is_false}
use Rattle.wg_sound.proofs.Together.{body_together}
use Rattle.wg_sound.proofs.Whole.{entry_around}

-- ---- events

not_false : (b : Bool) → not b ≡ false → b ≡ true
not_false true e = refl
not_false false e = cc

taken_call : (around : Around) (u : UniformSetting) (path : List Region) (kind : CallKind) → (is_output kind && not (takes_call around u path kind)) ≡ false → (is_sync kind && not (takes_call around u path kind)) ≡ false → takes_call around u path kind ≡ true
taken_call around u path call_kind.Requests h k = not_false _ h
taken_call around u path call_kind.Increments h k = not_false _ h
taken_call around u path (call_kind.Completes handle) h k = not_false _ h
taken_call around u path (call_kind.Finishes tracked) h k = not_false _ h
taken_call around u path call_kind.Syncs h k = not_false _ k

pub taken_all : (around : Around) (u : UniformSetting) (es : List Event) → Empty (misplaced is_output around u es) → Empty (misplaced is_sync around u es) → Taken around u es
taken_all around u [] h k = tt
taken_all around u (event.Declares name words ∷ rest) h k = taken_all around u rest h k
taken_all around u (event.Requested name handle ∷ rest) h k = taken_all around u rest h k
taken_all around u (event.Completed handle ∷ rest) h k = taken_all around u rest h k
taken_all around u (event.Collective None path ∷ rest) h k = taken_all around u rest h k
taken_all around u (event.Collective (Some call) path ∷ rest) h k = (
  taken_call around u path call.kind (is_false _ call.name (empty_left (misplaced_call is_output around u (Some call) path) _ h)) (is_false _ call.name (empty_left (misplaced_call is_sync around u (Some call) path) _ k)),
  taken_all around u rest (empty_right (misplaced_call is_output around u (Some call) path) _ h) (empty_right (misplaced_call is_sync around u (Some call) path) _ k),
)
taken_all around u (event.Returns place ∷ rest) h k = taken_all around u rest h k
taken_all around u (event.Calls chain ∷ rest) h k = taken_all around u rest h k
taken_all around u (event.Changes variable ∷ rest) h k = taken_all around u rest h k

-- ---- bodies

pub marks_read : (vs : List VariableForm) (u : UniformSetting) (es : List Event) → (with_variables u es vs).reads_input ≡ u.reads_input
marks_read [] u es = refl
marks_read (v ∷ vs) u es = marks_read vs (with_variable u es v) es

pub body_stands : (entry : Option TypedEntry) (u : UniformSetting) (ss : List TypedStmt) → every (λ (a : Allowed). a.at []) (map (allowed (entry_around entry) u) ss) ≡ true
    → every (λ (x : Placed). x.stands in_body) (map (placed entry u) (marked_body (entry_around entry) u ss)) ≡ true
body_stands None u ss h = body_alone None u refl ss h
body_stands (Some e) u ss h = by_lanes (nat_lt 1 e.lanes) refl
  where
    by_lanes : (b : Bool) → nat_lt 1 e.lanes ≡ b → every (λ (x : Placed). x.stands in_body) (map (placed (Some e) u) (cond b (all_here true (map (marked_stmt u) ss)) ss)) ≡ true
    by_lanes true q = body_together e u q ss h
    by_lanes false q = body_alone (Some e) u q ss h
