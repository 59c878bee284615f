-- BadOutputCall: an output call or `return` where it may not stand; its name. Own.
use Rattle.std.specs.Prelude.{ℕ, suc, ◌==◌, Bool, true, false, not, ◌&&◌, ◌||◌, nat_lt, List, [], ◌∷◌, ◌++◌, if◌then◌else◌, Option, Some, None}
use Rattle.wg_words.specs.declared.place.Place.{Place}
use Rattle.wg_typing.specs.Scope.{Context}
use Rattle.wg_typing.specs.TypingStep.{own_handle}
use Rattle.wg_typing.specs.Sites.{at_if}
use Rattle.wg_typing.specs.RulesShared.{output_used, before_form}
use Rattle.wg_typing.specs.TypingActs.{is_output, called_at, call_in}
use Rattle.wg_typing.specs.Site.{Site, AtValue, AtUsed, AtForm, AtStart, AtTarget, AtAlone, AtHandle, AtFunction}
use Rattle.wg_typing.specs.RulesCollective.{misplaced}
use Rattle.wg_typing.specs.Layers.{call_of}
use Rattle.wg_typing.specs.TypingEvents.{is_finish}
use Rattle.wg_typing.specs.Conversions.{same_type, truth_type}
use Rattle.wg_typed.specs.declared.types.TypeTree.{TypeTree}
use Rattle.wg_typing.specs.declared.context.Around.{Around}
use Rattle.wg_typing.specs.declared.part.CallKind.{CallKind}
use Rattle.wg_typing.specs.declared.part.NamedCall.{NamedCall}
use Rattle.wg_typing.specs.declared.event.Event.{Event}
use Rattle.wg_typing.specs.declared.context.Around.TheVariants as surrounding
use Rattle.wg_typing.specs.declared.part.CallKind.TheVariants as call_kind
use Rattle.wg_typing.specs.declared.event.Event.TheVariants as event

-- whether a call may stand as a statement: an increment, or `OutputComplete` of a handle of the same block
abbrev pub stands : Context → Bool → CallKind → Bool
stands c header call_kind.Requests = false
stands c header call_kind.Increments = not header
stands c header (call_kind.Completes handle) = not header && own_handle c handle
stands c header (call_kind.Finishes tracked) = false
stands c header call_kind.Syncs = true

-- whether one may stand as the start value of a handle: a request
abbrev pub starts : CallKind → Bool
starts call_kind.Requests = true
starts call_kind.Increments = false
starts (call_kind.Completes handle) = false
starts (call_kind.Finishes tracked) = false
starts call_kind.Syncs = true

abbrev pub is_truth_goal : Option TypeTree → Bool
is_truth_goal None = true
is_truth_goal (Some t) = same_type t truth_type

-- whether one may stand as the start value of a local: `FinishedCrossGroupSharing` of a tracked record, where the local is a `bool`
abbrev pub starts_local : Option TypeTree → CallKind → Bool
starts_local goal call_kind.Requests = false
starts_local goal call_kind.Increments = false
starts_local goal (call_kind.Completes handle) = false
starts_local goal (call_kind.Finishes tracked) = tracked && is_truth_goal goal
starts_local goal call_kind.Syncs = true

-- whether a collective statement follows
abbrev pub any_collective : List Event → Bool
any_collective [] = false
any_collective (event.Declares name words ∷ rest) = any_collective rest
any_collective (event.Requested name handle ∷ rest) = any_collective rest
any_collective (event.Completed handle ∷ rest) = any_collective rest
any_collective (event.Collective call path ∷ rest) = true
any_collective (event.Returns place ∷ rest) = any_collective rest
any_collective (event.Calls chain ∷ rest) = any_collective rest
any_collective (event.Changes variable ∷ rest) = any_collective rest

-- how many times a handle is completed
abbrev pub completions : ℕ → List Event → ℕ
completions handle [] = 0
completions handle (event.Declares name words ∷ rest) = completions handle rest
completions handle (event.Requested name other ∷ rest) = completions handle rest
completions handle (event.Completed other ∷ rest) = if other == handle then suc (completions handle rest) else completions handle rest
completions handle (event.Collective call path ∷ rest) = completions handle rest
completions handle (event.Returns place ∷ rest) = completions handle rest
completions handle (event.Calls chain ∷ rest) = completions handle rest
completions handle (event.Changes variable ∷ rest) = completions handle rest

-- of several lanes: a `return` before the last collective statement
abbrev pub returns_of_many : List Event → List Place
returns_of_many [] = []
returns_of_many (event.Declares name words ∷ rest) = returns_of_many rest
returns_of_many (event.Requested name handle ∷ rest) = returns_of_many rest
returns_of_many (event.Completed handle ∷ rest) = returns_of_many rest
returns_of_many (event.Collective call path ∷ rest) = returns_of_many rest
returns_of_many (event.Returns place ∷ rest) = at_if (any_collective rest) place ++ returns_of_many rest
returns_of_many (event.Calls chain ∷ rest) = returns_of_many rest
returns_of_many (event.Changes variable ∷ rest) = returns_of_many rest

-- whether one of these handles is completed
abbrev pub any_completed : List ℕ → List Event → Bool
any_completed [] rest = false
any_completed (handle ∷ handles) rest = nat_lt 0 (completions handle rest) || any_completed handles rest

abbrev pub is_finish_call : Option NamedCall → Bool
is_finish_call None = false
is_finish_call (Some call) = is_finish call.kind

-- whether a declaration that starts with `FinishedCrossGroupSharing()` follows
abbrev pub any_finish : List Event → Bool
any_finish [] = false
any_finish (event.Declares name words ∷ rest) = any_finish rest
any_finish (event.Requested name handle ∷ rest) = any_finish rest
any_finish (event.Completed handle ∷ rest) = any_finish rest
any_finish (event.Collective call path ∷ rest) = is_finish_call call || any_finish rest
any_finish (event.Returns place ∷ rest) = any_finish rest
any_finish (event.Calls chain ∷ rest) = any_finish rest
any_finish (event.Changes variable ∷ rest) = any_finish rest

abbrev pub finish_place : Option NamedCall → List Place
finish_place None = []
finish_place (Some call) = at_if (is_finish call.kind) call.name

-- such declarations after the first one
abbrev pub second_finishes : Bool → List Event → List Place
second_finishes before [] = []
second_finishes before (event.Declares name words ∷ rest) = second_finishes before rest
second_finishes before (event.Requested name handle ∷ rest) = second_finishes before rest
second_finishes before (event.Completed handle ∷ rest) = second_finishes before rest
second_finishes before (event.Collective call path ∷ rest) = (if before then finish_place call else []) ++ second_finishes (before || is_finish_call call) rest
second_finishes before (event.Returns place ∷ rest) = second_finishes before rest
second_finishes before (event.Calls chain ∷ rest) = second_finishes before rest
second_finishes before (event.Changes variable ∷ rest) = second_finishes before rest

-- of one lane: a `return` before a declaration that starts with `FinishedCrossGroupSharing()`, or between a handle and its `OutputComplete`, where these handles were declared before
abbrev pub returns_of_one : List ℕ → List Event → List Place
returns_of_one handles [] = []
returns_of_one handles (event.Declares name words ∷ rest) = returns_of_one handles rest
returns_of_one handles (event.Requested name handle ∷ rest) = returns_of_one (handle ∷ handles) rest
returns_of_one handles (event.Completed handle ∷ rest) = returns_of_one handles rest
returns_of_one handles (event.Collective call path ∷ rest) = returns_of_one handles rest
returns_of_one handles (event.Returns place ∷ rest) = at_if (any_finish rest || any_completed handles rest) place ++ returns_of_one handles rest
returns_of_one handles (event.Calls chain ∷ rest) = returns_of_one handles rest
returns_of_one handles (event.Changes variable ∷ rest) = returns_of_one handles rest

abbrev pub bad_returns : Around → List Event → List Place
bad_returns (surrounding.Entry lanes) events = if nat_lt 1 lanes then returns_of_many events else returns_of_one [] events
bad_returns surrounding.Plain events = []
bad_returns surrounding.Const events = []
bad_returns (surrounding.Attribute allowed) events = []

abbrev pub bad_output_call : Site → List Place
bad_output_call (AtValue around p) = output_used p
bad_output_call (AtUsed call) = called_at is_output call
bad_output_call (AtForm c place a f) = before_form (λ v. called_at is_output (call_in v None)) a f
bad_output_call (AtStart goal p) = called_at (λ k. not (starts_local goal k)) (call_of p)
bad_output_call (AtTarget p) = output_used p
bad_output_call (AtAlone c header p) = called_at (λ k. not (stands c header k)) (call_of p)
bad_output_call (AtHandle c of name number p) = called_at (λ k. not (starts k)) (call_of p)
bad_output_call (AtFunction name around u has_result events) = misplaced is_output around u events ++ second_finishes false events ++ bad_returns around events
bad_output_call _ = []
