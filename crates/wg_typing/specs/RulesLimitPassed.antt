-- LimitPassed: more words, buffers, outputs or nested calls than the limits allow, or an array of no elements. The place is the name that declares or calls. Own.
use Rattle.std.specs.Prelude.{ℕ, ◌+◌, not, nat_lt, List, [], ◌∷◌, ◌++◌, Option, Some, None, ◌&&◌}
use Rattle.wg_words.specs.declared.place.Place.{Place}
use Rattle.wg_typing.specs.TypingFunctionCall.{chain_fits}
use Rattle.wg_typing.specs.AttributeArguments.{is_positive, is_narrow}
use Rattle.wg_typing.specs.Sites.{at_if}
use Rattle.wg_typing.specs.Site.{Site, AtCall, AtSize, AtLimit, AtFunction}
use Rattle.wg_tree.specs.declared.expr.Named.{Named}
use Rattle.wg_typed.specs.declared.types.ConstValue.{ConstValue}
use Rattle.wg_typing.specs.declared.called.CalledName.{CalledName}
use Rattle.wg_typing.specs.declared.event.Event.{Event}
use Rattle.wg_typing.specs.declared.called.CalledName.TheVariants as called_name
use Rattle.wg_typing.specs.declared.event.Event.TheVariants as event

-- the most words of the locals of one function, of all its scopes together, without its parameters
abbrev pub locals_limit : ℕ
locals_limit = 8192

-- the locals with which the words pass the limit, after so many
abbrev pub locals_beyond : ℕ → List Event → List Place
locals_beyond before [] = []
locals_beyond before (event.Declares name words ∷ rest) = at_if (nat_lt locals_limit (before + words)) name.place ++ locals_beyond (before + words) rest
locals_beyond before (event.Requested name handle ∷ rest) = locals_beyond before rest
locals_beyond before (event.Completed handle ∷ rest) = locals_beyond before rest
locals_beyond before (event.Collective call path ∷ rest) = locals_beyond before rest
locals_beyond before (event.Returns place ∷ rest) = locals_beyond before rest
locals_beyond before (event.Calls chain ∷ rest) = locals_beyond before rest
locals_beyond before (event.Changes variable ∷ rest) = locals_beyond before rest

abbrev pub chain_beyond : Place → CalledName → List Place
chain_beyond name (called_name.Plain number result parameters chain) = at_if (not (chain_fits chain)) name
chain_beyond name called_name.Entry = []
chain_beyond name called_name.Itself = []
chain_beyond name (called_name.Builtin b) = []
chain_beyond name called_name.Broken = []
chain_beyond name called_name.Unknown = []

abbrev pub size_below : Named → Option ConstValue → List Place
size_below name (Some v) = at_if (is_narrow v && not (is_positive v)) name.place
size_below name None = []

abbrev pub limit_passed : Site → List Place
limit_passed (AtCall around name k parts) = chain_beyond name k
limit_passed (AtSize name place v) = size_below name v
limit_passed (AtLimit name amount limit) = at_if (nat_lt limit amount) name.place
limit_passed (AtFunction name around u has_result events) = locals_beyond 0 events
limit_passed _ = []
