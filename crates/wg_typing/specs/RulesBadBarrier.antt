-- BadBarrier: a syncing barrier where no collective statement may stand, or any barrier in a plain function; its name. Own.
use Rattle.std.specs.Prelude.{List, [], ◌∷◌, if◌then◌else◌, None}
use Rattle.wg_words.specs.declared.place.Place.{Place}
use Rattle.wg_typing.specs.RulesShared.{sync_used, before_form}
use Rattle.wg_typing.specs.TypingActs.{is_sync, called_at, call_in}
use Rattle.wg_typing.specs.Site.{Site, AtValue, AtCall, AtUsed, AtForm, AtStart, AtTarget, AtAlone, AtHandle, AtFunction}
use Rattle.wg_typing.specs.RulesCollective.{misplaced}
use Rattle.wg_typing.specs.declared.context.Around.{Around}
use Rattle.wg_typing.specs.declared.called.CalledName.{CalledName}
use Rattle.wg_typing.specs.declared.context.Around.TheVariants as surrounding
use Rattle.wg_typing.specs.declared.called.CalledName.TheVariants as called_name
use Rattle.wg_typing.specs.declared.called.Builtin.TheVariants as builtin

-- a barrier in a plain function, whatever its arguments are
abbrev pub barrier_in_plain : Around → List Place → List Place
barrier_in_plain (surrounding.Entry lanes) places = []
barrier_in_plain surrounding.Plain places = places
barrier_in_plain surrounding.Const places = []
barrier_in_plain (surrounding.Attribute allowed) places = []

abbrev pub barrier_called : Around → Place → CalledName → List Place
barrier_called around name (called_name.Plain number result parameters chain) = []
barrier_called around name called_name.Entry = []
barrier_called around name called_name.Itself = []
barrier_called around name (called_name.Builtin (builtin.OnNumbers i)) = []
barrier_called around name (called_name.Builtin (builtin.Interlocked f)) = []
barrier_called around name (called_name.Builtin builtin.Levels) = []
barrier_called around name (called_name.Builtin (builtin.Barrier syncs)) = barrier_in_plain around (name ∷ [])
barrier_called around name (called_name.Builtin builtin.BarrierOf) = barrier_in_plain around (name ∷ [])
barrier_called around name called_name.Broken = []
barrier_called around name called_name.Unknown = []

abbrev pub bad_barrier : Site → List Place
bad_barrier (AtValue around p) = sync_used p
bad_barrier (AtCall around name k parts) = barrier_called around name k
bad_barrier (AtUsed call) = called_at is_sync call
bad_barrier (AtForm c place a f) = before_form (λ v. called_at is_sync (call_in v None)) a f
bad_barrier (AtStart goal p) = sync_used p
bad_barrier (AtTarget p) = sync_used p
bad_barrier (AtAlone c header p) = if header then sync_used p else []
bad_barrier (AtHandle c of name number p) = sync_used p
bad_barrier (AtFunction name around u has_result events) = misplaced is_sync around u events
bad_barrier _ = []
