-- Where in the finished body of a function collective statements may stand. Own.
use Rattle.std.specs.Prelude.{Bool, true, false, ◌&&◌, not, nat_lt, if◌then◌else◌, List, [], ◌∷◌, ◌++◌, Option, Some, None}
use Rattle.wg_words.specs.declared.place.Place.{Place}
use Rattle.wg_typing.specs.Sites.{at_if}
use Rattle.wg_typed.specs.Uniform.{UniformSetting, is_uniform}
use Rattle.wg_typed.specs.declared.typed_expr.TypedExpr.{TypedExpr}
use Rattle.wg_typing.specs.declared.event.Region.{Region}
use Rattle.wg_typing.specs.declared.context.Around.{Around}
use Rattle.wg_typing.specs.declared.event.Event.{Event}
use Rattle.wg_typing.specs.declared.part.CallKind.{CallKind}
use Rattle.wg_typing.specs.declared.part.NamedCall.{NamedCall}
use Rattle.wg_typing.specs.declared.event.Region.TheVariants as region
use Rattle.wg_typing.specs.declared.context.Around.TheVariants as surrounding
use Rattle.wg_typing.specs.declared.event.Event.TheVariants as event
use Rattle.wg_typing.specs.declared.part.CallKind.TheVariants as call_kind

-- a condition that breaks a rule is told by that rule
abbrev pub is_uniform_test : UniformSetting → Option TypedExpr → Bool
is_uniform_test u None = true
is_uniform_test u (Some e) = is_uniform u e

-- Of several lanes: in the body itself, or in a block of a collective `if`, of which the condition is uniform and the branches are blocks.
abbrev pub in_collective_blocks : UniformSetting → List Region → Bool
in_collective_blocks u [] = true
in_collective_blocks u (region.Loop ∷ rest) = false
in_collective_blocks u (region.Block ∷ rest) = false
in_collective_blocks u (region.Branch test blocks ∷ []) = false
in_collective_blocks u (region.Branch test blocks ∷ region.Loop ∷ rest) = false
in_collective_blocks u (region.Branch test blocks ∷ region.Branch inner others ∷ rest) = false
in_collective_blocks u (region.Branch test blocks ∷ region.Block ∷ rest) = is_uniform_test u test && blocks && in_collective_blocks u rest

abbrev pub in_a_loop : List Region → Bool
in_a_loop [] = false
in_a_loop (region.Loop ∷ rest) = true
in_a_loop (region.Block ∷ rest) = in_a_loop rest
in_a_loop (region.Branch test blocks ∷ rest) = in_a_loop rest

-- Of one lane: in any statement outside a loop.
abbrev pub takes_collective : Around → UniformSetting → List Region → Bool
takes_collective (surrounding.Entry lanes) u path = if nat_lt 1 lanes then in_collective_blocks u path else not (in_a_loop path)
takes_collective surrounding.Plain u path = false
takes_collective surrounding.Const u path = false
takes_collective (surrounding.Attribute allowed) u path = false

-- directly in the body
abbrev pub is_direct : List Region → Bool
is_direct [] = true
is_direct (r ∷ rest) = false

-- The declaration that starts with `FinishedCrossGroupSharing()` stands directly in the body in every node.
abbrev pub takes_call : Around → UniformSetting → List Region → CallKind → Bool
takes_call around u path call_kind.Requests = takes_collective around u path
takes_call around u path call_kind.Increments = takes_collective around u path
takes_call around u path (call_kind.Completes handle) = takes_collective around u path
takes_call around u path (call_kind.Finishes tracked) = is_direct path
takes_call around u path call_kind.Syncs = takes_collective around u path

abbrev pub misplaced_call : (CallKind → Bool) → Around → UniformSetting → Option NamedCall → List Region → List Place
misplaced_call test around u None path = []
misplaced_call test around u (Some call) path = at_if (test call.kind && not (takes_call around u path call.kind)) call.name

-- collective statements of a kind that stand where none may
abbrev pub misplaced : (CallKind → Bool) → Around → UniformSetting → List Event → List Place
misplaced test around u [] = []
misplaced test around u (event.Declares name words ∷ rest) = misplaced test around u rest
misplaced test around u (event.Requested name handle ∷ rest) = misplaced test around u rest
misplaced test around u (event.Completed handle ∷ rest) = misplaced test around u rest
misplaced test around u (event.Collective call path ∷ rest) = misplaced_call test around u call path ++ misplaced test around u rest
misplaced test around u (event.Returns place ∷ rest) = misplaced test around u rest
misplaced test around u (event.Calls chain ∷ rest) = misplaced test around u rest
misplaced test around u (event.Changes variable ∷ rest) = misplaced test around u rest
