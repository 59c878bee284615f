-- What records and launches out come to; each law is the contract of a function of this crate.
use Rattle.std.specs.Prelude.{◌≡◌, ◌⊎◌, ℕ, ◌+◌, ◌*◌, ◌<◌, ◌≤◌, false, List, [], ◌∷◌, ◌++◌, length, filter, replicate, slice_get, slice_index, Option, None, Some}
use Rattle.wg_words.specs.Each.{Each}
use Rattle.wg_machine.specs.declared.launch.Limits.{Limits}
use Rattle.wg_machine.specs.declared.launch.Sent.{Sent}
use Rattle.wg_machine.specs.declared.shape.Shape.{Shape}
use Rattle.wg_machine.specs.GoodShape.{IsGoodShape}
use Rattle.wg_machine.specs.Need.{most, need}
use Rattle.wg_machine.specs.LaunchMeaning.{Arrives, FitsShape, KeepsLaws, Outcome}
use Rattle.wg_machine.specs.State.{kept, live_of}
use Rattle.wg_room.specs.Counts.{Counts, HasSlotsLeft, Reserves, need_at}
use Rattle.wg_machine.specs.Step.{left_after, numbers_of}
use Rattle.wg_machine.specs.Units.{shared_at}
use Rattle.wg_standing.specs.declared.pending.Pending.{Pending}
use Rattle.wg_standing.specs.Choice.{IsChoice, NoChoice}
use Rattle.wg_standing.specs.Core.{CoreView, core_begun}
use Rattle.wg_standing.specs.Moves.{settled_of, with_out}
use Rattle.wg_standing.specs.Outs.{AllApart, IsAllowed, launch_now, unopened}
use Rattle.wg_standing.specs.Standing.{IsPlaced}
use Rattle.wg_store.specs.declared.item.Item.{Item}
use Rattle.wg_store.specs.Items.{ItemsRise, LeftIsCounted, OpensNext, all_opened, fits_next, fits_unit, item_of, launch_by, lives, out_groups, pending_of, settled_items, waits_item}
use Rattle.wg_store.specs.Keep.{IsKept, IsRoomOf, IsTold, Kept, items_of, kept_begun, kept_part, kept_settled, kept_with_out, seen, view_of}
use Rattle.wg_store.specs.Best.{IsBest, IsBestOf}

abbrev pub UnopenedWait : Type 0
UnopenedWait = (outs : List Pending) (items : List Item) → unopened outs (lives outs items) ≡ lives [] items

abbrev pub PlacedAreSeen : Type 0
PlacedAreSeen = (core : CoreView) (items : List Item) → IsPlaced core core.bag → core.bag ≡ lives core.outs items
    → kept_part core ≡ seen core.shape core.width core.limits core.handed core.journal core.next items core.outs core.tickets

abbrev pub OpeningsKeepLives : Type 0
OpeningsKeepLives = (outs : List Pending) (o : Pending) (items : List Item) → Each (OpensNext o) items → lives (outs ++ o ∷ []) (all_opened o.inputs items) ≡ lives outs items

abbrev pub OpeningsKeepCounts : Type 0
OpeningsKeepCounts = (outs : List Pending) (o : Pending) (items : List Item) → Each (OpensNext o) items → Each (LeftIsCounted outs) items → Each (LeftIsCounted (outs ++ o ∷ [])) (all_opened o.inputs items)

abbrev pub SettlingsLeaveLives : Type 0
SettlingsLeaveLives = (before : List Pending) (o : Pending) (later : List Pending) (new : Option (List ℕ)) (entries slots : List Item)
    → AllApart (before ++ o ∷ later) → Each (LeftIsCounted (before ++ o ∷ later)) (entries ++ slots)
    → left_after o.inputs o.at new (lives (before ++ o ∷ later) (entries ++ slots)) ≡ lives (before ++ later) (settled_items o.inputs new entries slots)

abbrev pub SettlingsKeepCounts : Type 0
SettlingsKeepCounts = (before : List Pending) (o : Pending) (later : List Pending) (new : Option (List ℕ)) (entries slots : List Item)
    → Each (LeftIsCounted (before ++ o ∷ later)) (entries ++ slots) → Each (LeftIsCounted (before ++ later)) (settled_items o.inputs new entries slots)

abbrev pub BirthsAddLives : Type 0
BirthsAddLives = (outs : List Pending) (items : List Item) (shape : Shape) (number : ℕ) (s : Sent) → out_groups outs number ≡ []
    → lives outs (items ++ item_of shape number s ∷ []) ≡ lives outs items ++ kept (live_of shape number s)

abbrev pub LaunchesAreTold : Type 0
LaunchesAreTold = (shape : Shape) (outs : List Pending) (items : List Item) (low end : ℕ) (o : Pending)
    → ItemsRise low items end → Each (LeftIsCounted outs) items
    → numbers_of (launch_now shape (lives outs items) o).records ≡ o.inputs → (length o.inputs ≤ 1) ⊎ (shared_at shape o.unit ≡ false) → 1 ≤ length o.inputs
    → launch_now shape (lives outs items) o ≡ launch_by shape items o

abbrev pub BestsAreChosen : Type 0
BestsAreChosen = (k : Kept) (c : Counts) (u : ℕ) → IsKept k → IsRoomOf k c → IsBest k.shape c k.slots u
    → IsChoice (view_of k) (pending_of k.tickets k.shape u (fits_unit u k.slots))

abbrev pub EntriesAreChosen : Type 0
EntriesAreChosen = (k : Kept) (c : Counts) (x : Item) → IsKept k → IsRoomOf k c → IsBestOf k.shape c k.slots None → slice_get (filter waits_item k.entries) 0 ≡ Some x → HasSlotsLeft c x.unit
    → IsChoice (view_of k) (pending_of k.tickets k.shape x.unit (fits_next x.unit k.entries))

abbrev pub ElseNothingIsChosen : Type 0
ElseNothingIsChosen = (k : Kept) (c : Counts) → IsKept k → IsRoomOf k c → IsBestOf k.shape c k.slots None → ((x : Item) → slice_get (filter waits_item k.entries) 0 ≡ Some x → HasSlotsLeft c x.unit → ⊥)
    → NoChoice (view_of k)

abbrev pub ChoicesAreNext : Type 0
ChoicesAreNext = (k : Kept) (o : Pending) → IsKept k → IsChoice (view_of k) o → Each (OpensNext o) (items_of k)

abbrev pub OpeningsAreSeen : Type 0
OpeningsAreSeen = (k : Kept) (o : Pending) → IsKept k → IsChoice (view_of k) o → length k.journal + length k.outs < k.limits.launches
    → with_out (view_of k) o ≡ view_of (kept_with_out k o)

abbrev pub OpeningsKeep : Type 0
OpeningsKeep = (k : Kept) (o : Pending) → IsKept k → IsChoice (view_of k) o → length k.journal + length k.outs < k.limits.launches
    → IsKept (kept_with_out k o)

abbrev pub OpeningsKeepRoom : Type 0
OpeningsKeepRoom = (k : Kept) (o : Pending) (c d : Counts) → IsKept k → IsRoomOf k c → Reserves c d o.unit → with_out (view_of k) o ≡ view_of (kept_with_out k o)
    → IsRoomOf (kept_with_out k o) d

abbrev pub AllowedAreTold : Type 0
AllowedAreTold = (k : Kept) (o : Pending) → IsKept k → IsAllowed k.shape (view_of k).bag o → FitsShape k.shape (launch_now k.shape (view_of k).bag o) → IsTold k o

abbrev pub SettlingsAreSeen : Type 0
SettlingsAreSeen = (k : Kept) (before : List Pending) (o : Pending) (later : List Pending) (outcome : Outcome) → IsKept k → k.outs ≡ before ++ o ∷ later
    → KeepsLaws k.shape (launch_now k.shape (view_of k).bag o) [] k.limits.turns outcome
    → kept_part (settled_of (view_of k) before o later outcome) ≡ view_of (kept_settled k before o later outcome)

abbrev pub SettlingsKeep : Type 0
SettlingsKeep = (k : Kept) (before : List Pending) (o : Pending) (later : List Pending) (outcome : Outcome) → IsKept k → k.outs ≡ before ++ o ∷ later
    → KeepsLaws k.shape (launch_now k.shape (view_of k).bag o) [] k.limits.turns outcome
    → IsKept (kept_settled k before o later outcome)

abbrev pub BeginningsAreSeen : Type 0
BeginningsAreSeen = (shape : Shape) (width : ℕ) (limits : Limits) (script : List Sent) → Each (Arrives shape) script
    → core_begun shape width limits script [] ≡ view_of (kept_begun shape width limits script)

abbrev pub BeginningsKeep : Type 0
BeginningsKeep = (shape : Shape) (width : ℕ) (limits : Limits) (script : List Sent) → IsGoodShape shape → Each (Arrives shape) script
    → IsKept (kept_begun shape width limits script)

-- an empty room of the plan's slots
abbrev pub BeginningsKeepRoom : Type 0
BeginningsKeepRoom = (shape : Shape) (width : ℕ) (limits : Limits) (script : List Sent) (c : Counts) (slots : List ℕ) → Each (Arrives shape) script
    → length slots ≡ length shape.units → ((v : ℕ) → v < length shape.units → slice_index slots v ≡ width * most shape v)
    → c.bounds ≡ slots → c.used ≡ replicate (length slots) 0 → c.reserved ≡ replicate (length slots) 0
    → ((u v : ℕ) → v < length slots → need_at c u v ≡ need shape u v) → ((u v : ℕ) → 0 < need_at c u v → v < length slots)
    → IsRoomOf (kept_begun shape width limits script) c
