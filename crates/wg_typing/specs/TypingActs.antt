-- The kinds of calls without a value, by what they do and by their names. Own.
use Rattle.std.specs.Prelude.{Bool, true, false, is_none, List, [], Option, Some, None}
use Rattle.wg_words.specs.declared.place.Place.{Place}
use Rattle.wg_typing.specs.Sites.{at_if}
use Rattle.wg_typing.specs.declared.scope.Act.{Act}
use Rattle.wg_typing.specs.declared.scope.Act.TheVariants as act
use Rattle.wg_typing.specs.declared.scope.Value.{Value}
use Rattle.wg_typing.specs.declared.scope.Value.TheVariants as value
use Rattle.wg_typing.specs.declared.part.CallKind.{CallKind}
use Rattle.wg_typing.specs.declared.part.NamedCall.{NamedCall}
use Rattle.wg_typing.specs.declared.part.CallKind.TheVariants as call_kind

abbrev pub is_sync : CallKind → Bool
is_sync call_kind.Requests = false
is_sync call_kind.Increments = false
is_sync (call_kind.Completes handle) = false
is_sync (call_kind.Finishes tracked) = false
is_sync call_kind.Syncs = true

-- what is no barrier is told by one rule
abbrev pub is_output : CallKind → Bool
is_output call_kind.Requests = true
is_output call_kind.Increments = true
is_output (call_kind.Completes handle) = true
is_output (call_kind.Finishes tracked) = true
is_output call_kind.Syncs = false

-- none of these kinds: a plain step, or a barrier that does not sync
abbrev pub act_kind : Act → Option CallKind
act_kind (act.Step s) = None
act_kind (act.Barrier true) = Some call_kind.Syncs
act_kind (act.Barrier false) = None
act_kind (act.Request group output number element amount) = Some call_kind.Requests
act_kind (act.Increment group output element amount) = Some call_kind.Increments
act_kind (act.Complete handle) = Some (call_kind.Completes handle)
act_kind (act.Finished tracked) = Some (call_kind.Finishes tracked)

abbrev pub is_plain_act : Act → Bool
is_plain_act a = is_none (act_kind a)

abbrev pub named_call : Place → Option CallKind → Option NamedCall
named_call name None = None
named_call name (Some kind) = Some (record { name = name; kind = kind })

-- The call that an expression is: by its value, and where a rule is broken in its arguments by its name.
abbrev pub call_in : Option Value → Option NamedCall → Option NamedCall
call_in (Some (value.Typed of standing tree)) by_name = None
call_in (Some (value.Object object element)) by_name = None
call_in (Some (value.Act name a)) by_name = named_call name (act_kind a)
call_in (Some (value.Text bytes)) by_name = None
call_in None by_name = by_name

-- the place of a call of a kind
abbrev pub called_at : (CallKind → Bool) → Option NamedCall → List Place
called_at test None = []
called_at test (Some call) = at_if (test call.kind) call.name
