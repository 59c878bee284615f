-- What happens in a function, in the order of the text. Own.
use Rattle.std.specs.Prelude.{ℕ, suc, max, Bool, true, false, if◌then◌else◌, List, [], ◌∷◌, ◌++◌, length, Option, Some, None}
use Rattle.wg_typing.specs.Named.{is_among}
use Rattle.wg_typing.specs.Scope.{Context, own_names}
use Rattle.wg_typing.specs.Layers.{call_of}
use Rattle.wg_typing.specs.TypingCalled.{form_called}
use Rattle.wg_typing.specs.TypingChanged.{changed, call_changes, form_changes}
use Rattle.wg_typing.specs.Sites.{Sites, nowhere, only, within, ◌&◌}
use Rattle.wg_typing.specs.Site.{Site, AtCall, AtForm, AtStart, AtTarget, AtAlone, AtHandle, AtReturn, AtLocal}
use Rattle.wg_tree.specs.declared.expr.Named.{Named}
use Rattle.wg_typing.specs.declared.part.FormLayer.{FormLayer}
use Rattle.wg_typing.specs.declared.part.Part.{Part}
use Rattle.wg_typing.specs.declared.event.Region.{Region}
use Rattle.wg_typing.specs.declared.part.CallKind.{CallKind}
use Rattle.wg_typing.specs.declared.part.NamedCall.{NamedCall}
use Rattle.wg_typing.specs.declared.called.CalledName.{CalledName}
use Rattle.wg_typing.specs.declared.part.Along.{Along}
use Rattle.wg_typing.specs.declared.event.Event.{Event}
use Rattle.wg_typing.specs.declared.part.CallKind.TheVariants as call_kind
use Rattle.wg_typing.specs.declared.called.CalledName.TheVariants as called_name
use Rattle.wg_typing.specs.declared.event.Event.TheVariants as event

abbrev pub calls_of : CalledName → List Event
calls_of (called_name.Plain number result parameters chain) = event.Calls chain ∷ []
calls_of called_name.Entry = []
calls_of called_name.Itself = []
calls_of (called_name.Builtin b) = []
calls_of called_name.Broken = []
calls_of called_name.Unknown = []

-- `OutputComplete` on a handle counts, whatever its arguments are
abbrev pub completed_by : Option NamedCall → List Event
completed_by None = []
completed_by (Some call) = completed_of call.kind
  where
    completed_of : CallKind → List Event
    completed_of call_kind.Requests = []
    completed_of call_kind.Increments = []
    completed_of (call_kind.Completes handle) = event.Completed handle ∷ []
    completed_of (call_kind.Finishes tracked) = []
    completed_of call_kind.Syncs = []

abbrev pub form_events : Along → FormLayer Part → List Event
form_events a f = completed_by (form_called a f) ++ form_changes a f

-- A call as a statement is a collective one, whatever its arguments are; in the header of a `for` none stands.
abbrev pub collective_call : List Region → Option NamedCall → List Event
collective_call path None = []
collective_call path (Some call) = event.Collective (Some call) path ∷ []

-- a handle that is declared, which the second of its name is not
abbrev pub handle_declared : Context → Named → Option ℕ → List Event
handle_declared c name None = []
handle_declared c name (Some number) = if is_among (own_names c) name.name then [] else event.Requested name (length c.handles) ∷ []

abbrev pub is_finish : CallKind → Bool
is_finish call_kind.Requests = false
is_finish call_kind.Increments = false
is_finish (call_kind.Completes handle) = false
is_finish (call_kind.Finishes tracked) = true
is_finish call_kind.Syncs = false

-- the declaration that starts with `FinishedCrossGroupSharing()` is a collective statement
abbrev pub start_events : List Region → Option NamedCall → List Event
start_events path None = []
start_events path (Some call) = if is_finish call.kind then event.Collective (Some call) path ∷ [] else []

abbrev pub events_at : List Region → Site → List Event
events_at path (AtCall around name k parts) = calls_of k ++ call_changes k parts
events_at path (AtForm c place a f) = form_events a f
events_at path (AtStart goal p) = start_events path (call_of p)
events_at path (AtTarget p) = changed p
events_at path (AtAlone c header p) = if header then [] else collective_call path (call_of p)
events_at path (AtHandle c of name number p) = handle_declared c name number ++ event.Collective (call_of p) path ∷ []
events_at path (AtReturn g place p) = event.Returns place ∷ []
events_at path (AtLocal name words) = event.Declares name words ∷ []
events_at path _ = []

-- what happens at these sites, which are in these parts of the body
abbrev pub events_in : List Region → Sites Site → List Event
events_in path nowhere = []
events_in path (only s) = events_at path s
events_in path (within r a) = events_in (path ++ r ∷ []) a
events_in path (a & b) = events_in path a ++ events_in path b

abbrev pub events : Sites Site → List Event
events all = events_in [] all

-- the functions of the longest chain of calls from a function in which this happens, with itself
abbrev pub chain_of : List Event → ℕ
chain_of [] = 1
chain_of (event.Calls n ∷ rest) = max (suc n) (chain_of rest)
chain_of (event.Declares name words ∷ rest) = chain_of rest
chain_of (event.Requested name handle ∷ rest) = chain_of rest
chain_of (event.Completed handle ∷ rest) = chain_of rest
chain_of (event.Collective call path ∷ rest) = chain_of rest
chain_of (event.Returns place ∷ rest) = chain_of rest
chain_of (event.Changes variable ∷ rest) = chain_of rest
