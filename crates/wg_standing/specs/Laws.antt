-- What holds of every core that the relation holds of; each law is the contract of a function of this crate.
use Rattle.std.specs.Prelude.{◌≡◌, ◌≢◌, ℕ, false, ◌+◌, ◌<◌, ◌≤◌, Bool, List, [], ◌∷◌, ◌++◌, length, filter, map, slice_index, None, Some}
use Rattle.std.specs.List.{flat_map}
use Rattle.wg_words.specs.Each.{Each}
use Rattle.wg_machine.specs.declared.launch.Limits.{Limits}
use Rattle.wg_machine.specs.declared.launch.Live.{Live}
use Rattle.wg_machine.specs.declared.launch.Sent.{Sent}
use Rattle.wg_machine.specs.declared.shape.Shape.{Shape}
use Rattle.wg_machine.specs.Buffers.{Buffers}
use Rattle.wg_machine.specs.Bytes.{live_bytes, plan_bytes}
use Rattle.wg_machine.specs.GoodShape.{IsGoodShape}
use Rattle.wg_machine.specs.LaunchMeaning.{Arrives, FitsShape, KeepsLaws, Meaning, Outcome}
use Rattle.wg_machine.specs.Need.{need}
use Rattle.wg_machine.specs.Run.{EachState, IsComplete}
use Rattle.wg_machine.specs.State.{State, born, kept, start as start_of}
use Rattle.wg_machine.specs.Step.{has_number, left_after}
use Rattle.wg_machine.specs.Units.{shared_at}
use Rattle.wg_standing.specs.declared.pending.Pending.{Pending}
use Rattle.wg_standing.specs.Choice.{CanEnter, CanOpen, IsChoice, NoPick}
use Rattle.wg_standing.specs.Core.{CoreView, core_begun}
use Rattle.wg_standing.specs.Idle.{IsIdle}
use Rattle.wg_standing.specs.Moves.{freed, is_still, settled_of, slot_bytes, with_kept, with_out, with_words}
use Rattle.wg_standing.specs.Outs.{after_one, launch_now, unopened}
use Rattle.wg_standing.specs.Places.{HasOnePlace}
use Rattle.wg_standing.specs.Standing.{IsPlaced, IsWhole, StandsFor}

abbrev pub BeginningsPlace : Type 0
BeginningsPlace = (shape : Shape) (width : ℕ) (limits : Limits) (script : List Sent) (start_buffers : Buffers)
    → Each (Arrives shape) script → IsPlaced (core_begun shape width limits script start_buffers) (core_begun shape width limits script start_buffers).bag

abbrev pub BeginningsStand : Type 0
BeginningsStand = (made : Meaning) (shape : Shape) (width : ℕ) (limits : Limits) (script : List Sent) (start_buffers : Buffers)
    → Each (Arrives shape) script → StandsFor made script start_buffers (core_begun shape width limits script start_buffers)

abbrev pub ChoicesCanOpen : Type 0
ChoicesCanOpen = (core : CoreView) (o : Pending)
    → IsGoodShape core.shape → IsPlaced core core.bag → IsChoice core o → CanOpen core o

abbrev pub OpeningsPlace : Type 0
OpeningsPlace = (core : CoreView) (o : Pending)
    → IsGoodShape core.shape → length core.journal + length core.outs < core.limits.launches
    → IsPlaced core core.bag → IsChoice core o → IsPlaced (with_out core o) core.bag

abbrev pub OpeningsStand : Type 0
OpeningsStand = (made : Meaning) (script : List Sent) (start_buffers : Buffers) (core : CoreView) (o : Pending)
    → IsGoodShape core.shape → core.stopped ≡ None → length core.journal + length core.outs < core.limits.launches
    → StandsFor made script start_buffers core → IsChoice core o → StandsFor made script start_buffers (with_out core o)

abbrev pub SettlingsPlace : Type 0
SettlingsPlace = (core : CoreView) (before : List Pending) (o : Pending) (later : List Pending) (outcome : Outcome)
    → IsGoodShape core.shape → core.outs ≡ before ++ o ∷ later
    → KeepsLaws core.shape (launch_now core.shape core.bag o) core.buffers core.limits.turns outcome
    → IsPlaced core core.bag → IsPlaced (settled_of core before o later outcome) (settled_of core before o later outcome).bag

abbrev pub SettlingsStand : Type 0
SettlingsStand = (made : Meaning) (script : List Sent) (start_buffers : Buffers) (core : CoreView) (before : List Pending) (o : Pending) (later : List Pending) (outcome : Outcome)
    → IsGoodShape core.shape → core.stopped ≡ None → core.outs ≡ before ++ o ∷ later
    → made (launch_now core.shape core.bag o) core.buffers core.limits.turns ≡ Some outcome
    → KeepsLaws core.shape (launch_now core.shape core.bag o) core.buffers core.limits.turns outcome
    → StandsFor made script start_buffers core → StandsFor made script start_buffers (settled_of core before o later outcome)

abbrev pub StoppingsStand : Type 0
StoppingsStand = (made : Meaning) (script : List Sent) (start_buffers : Buffers) (core : CoreView) (before : List Pending) (o : Pending) (later : List Pending)
    → core.outs ≡ before ++ o ∷ later → made (launch_now core.shape core.bag o) core.buffers core.limits.turns ≡ None
    → StandsFor made script start_buffers core → StandsFor made script start_buffers (record core { stopped = Some o.ticket })

abbrev pub OutsFit : Type 0
OutsFit = (core : CoreView) (before : List Pending) (o : Pending) (later : List Pending)
    → IsGoodShape core.shape → core.outs ≡ before ++ o ∷ later → IsPlaced core core.bag → FitsShape core.shape (launch_now core.shape core.bag o)

abbrev pub NeverBlocked : Type 0
NeverBlocked = (core : CoreView)
    → IsGoodShape core.shape → 1 ≤ core.width → IsPlaced core core.bag → core.outs ≡ [] → core.bag ≢ [] → NoPick core → CanEnter core

abbrev pub IdleIsComplete : Type 0
IdleIsComplete = (made : Meaning) (script : List Sent) (start_buffers : Buffers) (core : CoreView)
    (s : StandsFor made script start_buffers core) → IsIdle core → IsComplete s.state

abbrev pub CompleteIsIdle : Type 0
CompleteIsIdle = (made : Meaning) (script : List Sent) (start_buffers : Buffers) (core : CoreView)
    (s : StandsFor made script start_buffers core) → IsComplete s.state → IsIdle core

-- waiting, held, left and taken records are the bag, each once
abbrev pub RecordsHaveOnePlace : Type 0
RecordsHaveOnePlace = (core : CoreView) (n : ℕ) → IsPlaced core core.bag → HasOnePlace core n

abbrev pub BytesAreOfSlots : Type 0
BytesAreOfSlots = (core : CoreView) (s : State) → core.bag ≡ s.bag → IsPlaced core core.bag → live_bytes core.shape core.handed s ≡ slot_bytes core.shape 0 core.used

abbrev pub UnopenedIsWhole : Type 0
UnopenedIsWhole = (core : CoreView) → IsPlaced core core.bag → IsWhole core (unopened core.outs core.bag)

abbrev pub OpeningsLeave : Type 0
OpeningsLeave = (outs : List Pending) (o : Pending) (bag : List Live) → unopened (outs ++ o ∷ []) bag ≡ after_one o (unopened outs bag)

abbrev pub SettlingsLeave : Type 0
SettlingsLeave = (core : CoreView) (before : List Pending) (o : Pending) (later : List Pending) (outcome : Outcome)
    → core.outs ≡ before ++ o ∷ later → IsPlaced core core.bag
    → unopened (before ++ later) (settled_of core before o later outcome).bag
    ≡ with_words o.inputs outcome.shared (unopened core.outs core.bag) ++ flat_map kept (born core.shape core.next outcome.sent)

abbrev pub LaunchesLeaveEachList : Type 0
LaunchesLeaveEachList = (passes : ℕ → ℕ → Bool) (numbers at : List ℕ) (bag : List Live)
    → left_after numbers at None (filter (λ (x : Live). passes x.unit x.number) bag) ≡ filter (λ (x : Live). passes x.unit x.number) (left_after numbers at None bag)

abbrev pub SettlingsFree : Type 0
SettlingsFree = (core : CoreView) (before : List Pending) (o : Pending) (later : List Pending)
    → IsGoodShape core.shape → core.outs ≡ before ++ o ∷ later → IsPlaced core core.bag
    → freed core o (before ++ later) ≤ slice_index core.used o.unit

abbrev pub TakenStay : Type 0
TakenStay = (core : CoreView) (before : List Pending) (o : Pending) (later : List Pending) (n : ℕ)
    → core.outs ≡ before ++ o ∷ later → IsPlaced core core.bag → core.handed ≤ n
    → is_still core.waits (before ++ later) n ≡ has_number (map (λ (x : Live). x.number) (after_one o core.bag)) n

abbrev pub OnlyUnitsAreNeeded : Type 0
OnlyUnitsAreNeeded = (shape : Shape) (u v : ℕ) → IsGoodShape shape → length shape.units ≤ v → need shape u v ≡ 0

abbrev pub UnsharedStay : Type 0
UnsharedStay = (core : CoreView) (before : List Pending) (o : Pending) (later : List Pending) (outcome : Outcome)
    → ((u : ℕ) → shared_at core.shape u ≡ false) → core.outs ≡ before ++ o ∷ later
    → KeepsLaws core.shape (launch_now core.shape core.bag o) core.buffers core.limits.turns outcome → IsPlaced core core.bag
    → Each (λ (p : Pending). launch_now core.shape (settled_of core before o later outcome).bag p ≡ launch_now core.shape core.bag p) (before ++ later)

abbrev pub LiveBytesFitPlan : Type 0
LiveBytesFitPlan = (made : Meaning) (script : List Sent) (start_buffers : Buffers) (core : CoreView)
    (s : StandsFor made script start_buffers core) → EachState (λ (t : State). live_bytes core.shape core.handed t ≤ plan_bytes core.shape core.width) (start_of core.shape script start_buffers) s.trail

abbrev pub KeepingsStand : Type 0
KeepingsStand = (made : Meaning) (script : List Sent) (start_buffers : Buffers) (core : CoreView)
    → core.kept < length core.journal → StandsFor made script start_buffers core → StandsFor made script start_buffers (with_kept core)

abbrev pub KeepingsPlace : Type 0
KeepingsPlace = (core : CoreView) → IsPlaced core core.bag → IsPlaced (with_kept core) core.bag

abbrev pub PeaksFitPlan : Type 0
PeaksFitPlan = (made : Meaning) (script : List Sent) (start_buffers : Buffers) (core : CoreView)
    → StandsFor made script start_buffers core → core.peak ≤ plan_bytes core.shape core.width
