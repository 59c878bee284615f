-- What a keep is after a launch settled.
use Rattle.std.proofs.Common.{◌≡◌, ℕ, ◌+◌, ◌≤◌, List, [], ◌∷◌, ◌++◌, length, refl, ap, sym, ◌∙◌, subst, arith}
use Rattle.std.specs.Prelude.{if◌then◌else◌, ◌==◌}
use Rattle.std.proofs.lemmas.List.{length_push}
use Rattle.wg_machine.specs.declared.launch.Entry.{Entry}
use Rattle.wg_machine.specs.declared.launch.Launch.{Launch}
use Rattle.wg_machine.specs.declared.launch.Made.{Made}
use Rattle.wg_machine.specs.declared.shape.Shape.{Shape}
use Rattle.wg_machine.specs.Buffers.{Buffers}
use Rattle.wg_machine.specs.Bytes.{plan_bytes}
use Rattle.wg_machine.specs.LaunchMeaning.{KeepsLaws, Outcome, outcome_of}
use Rattle.wg_room.specs.Counts.{Counts}
use Rattle.wg_standing.specs.declared.pending.Pending.{Pending}
use Rattle.wg_standing.specs.Idle.{IsOut}
use Rattle.wg_standing.specs.Outs.{AllAllowed, IsAllowed, launch_now}
use Rattle.wg_standing.specs.Laws.{OnlyUnitsAreNeeded, OutsFit}
use Rattle.wg_store.specs.declared.item.Item.{Item}
use Rattle.wg_store.specs.Keep.{IsKept, IsRoomOf, Kept, kept_settled, view_of}
use Rattle.wg_store.specs.Laws.{SettlingsAreSeen, SettlingsKeep}
use Rattle.wg_engine.specs.Calls.{CanMake, MakesStep}
use Rattle.wg_hold.specs.Held.{IsHeldSound}
use Rattle.wg_kept.specs.declared.store.Store.{Store}
use Rattle.wg_kept.specs.Inside.{AreNamed, IsSoundKeep, pendings}
use Rattle.wg_kept.specs.Moves.{SettlesTo, line_of}
use Rattle.wg_kept.proofs.Pendings.{one_out}
use Rattle.wg_kept.proofs.Settlings.{AreBounds, FewAreSent, allowed_at, next_fits, settled_room, store_of}

-- what a launch may make on some buffers keeps the laws without them
pub laws_alone : (shape : Shape) (launch : Launch) (buffers : Buffers) (turns : ℕ) (made : Made) (after : Buffers) → KeepsLaws shape launch buffers turns (outcome_of made after) → KeepsLaws shape launch [] turns (outcome_of made [])
laws_alone shape launch buffers turns made after laws =
    record { turns_few = laws.turns_few; denied_few = laws.denied_few; lengths = refl; arrive = laws.arrive; budgets = laws.budgets; shared = laws.shared }

-- by the launch that is out with the ticket
pub laws_out : (k : Kept) (ticket : ℕ) (made : Made) (before : List Pending) (o : Pending) (later : List Pending) → IsKept k → CanMake (view_of k) ticket made → IsOut (view_of k) ticket before o later → KeepsLaws k.shape (launch_now k.shape (view_of k).bag o) [] k.limits.turns (outcome_of made [])
laws_out k ticket made before o later s can out =
    let same = one_out (view_of k) ticket can.before can.pending can.later before o later s.placed.tickets_differ can.out out in
    subst (λ (p : Pending). KeepsLaws k.shape (launch_now k.shape (view_of k).bag p) [] k.limits.turns (outcome_of made [])) same
    (laws_alone k.shape (launch_now k.shape (view_of k).bag can.pending) can.buffers k.limits.turns made can.after can.laws)

-- a keep by its store and the rest
abbrev pub kept_with : Kept → Store → List Pending → List Entry → ℕ → Kept
kept_with k new outs journal next =
    record { shape = new.hold.shape; width = k.width; limits = k.limits; entries = new.entries; slots = new.hold.items; outs = outs; journal = journal; next = next; tickets = k.tickets }

pub settled_is : (k : Kept) (c : Counts) (new : Store) (before : List Pending) (o : Pending) (later : List Pending) (outcome : Outcome) → IsAllowed k.shape (view_of k).bag o → SettlesTo (store_of k c) new o.unit o.inputs outcome.shared k.next outcome.sent
    → kept_with k new (before ++ later) (k.journal ++ line_of o k.next (length outcome.sent) ∷ []) (k.next + length outcome.sent) ≡ kept_settled k before o later outcome
settled_is k c new before o later outcome allowed settles =
    let next = k.next + length outcome.sent in
    let line = λ (ns : List ℕ). (let e : Entry = record { unit = o.unit; at = o.at; inputs = ns; first_out = if length outcome.sent == 0 then 0 else k.next; outs = length outcome.sent } in e) in
    let make = λ (shape : Shape) (entries slots : List Item) (ns : List ℕ). (let l : Kept = record { shape = shape; width = k.width; limits = k.limits; entries = entries; slots = slots; outs = before ++ later; journal = k.journal ++ line ns ∷ []; next = next; tickets = k.tickets } in l) in
    ap (λ (shape : Shape). make shape new.entries new.hold.items o.inputs) settles.shape
    ∙ ap (λ (es : List Item). make k.shape es new.hold.items o.inputs) settles.entries
    ∙ ap (λ (xs : List Item). make k.shape (kept_settled k before o later outcome).entries xs o.inputs) settles.items
    ∙ ap (λ (ns : List ℕ). make k.shape (kept_settled k before o later outcome).entries (kept_settled k before o later outcome).slots ns) (sym allowed.named)

long_outs : (before : List Pending) (o : Pending) (later : List Pending) → length (before ++ o ∷ later) ≡ length (before ++ later) + 1
long_outs [] o later = omega arith
long_outs (p ∷ before) o later = let r = long_outs before o later in omega (arith, r)

-- the keep after it is sound
pub sound_settled : OutsFit → FewAreSent → OnlyUnitsAreNeeded → SettlingsKeep → (k : Kept) (c : Counts) (places planned : ℕ) (new : Store) (outs : List (ℕ × Pending)) (before : List Pending) (o : Pending) (later : List Pending) (outcome : Outcome)
    → IsKept k → IsRoomOf k c → AreBounds k → length k.journal + length k.outs ≤ places → planned ≡ plan_bytes k.shape k.width → k.outs ≡ before ++ o ∷ later → AreNamed outs → pendings outs ≡ before ++ later
    → KeepsLaws k.shape (launch_now k.shape (view_of k).bag o) [] k.limits.turns outcome → IsHeldSound new.hold → SettlesTo (store_of k c) new o.unit o.inputs outcome.shared k.next outcome.sent
    → IsSoundKeep (kept_with k new (pendings outs) (k.journal ++ line_of o k.next (length outcome.sent) ∷ []) (k.next + length outcome.sent)) new outs places planned
sound_settled fit few only keep k c places planned new outs before o later outcome s r b spare plan out named rest laws held settles =
    let line = line_of o k.next (length outcome.sent) in
    let allowed = allowed_at k.shape (view_of k).bag before o later (subst (AllAllowed k.shape (view_of k).bag) out s.placed.allowed) in
    let l : Kept = kept_with k new (pendings outs) (k.journal ++ line ∷ []) (k.next + length outcome.sent) in
    let is : l ≡ kept_settled k before o later outcome = ap (λ (os : List Pending). kept_with k new os (k.journal ++ line ∷ []) (k.next + length outcome.sent)) rest ∙ settled_is k c new before o later outcome allowed settles in
    let kept = subst IsKept (sym is) (keep k before o later outcome s out laws) in
    let small = next_fits fit few k before o later outcome s b out laws in
    let bound = small.0 in
    let longer = length_push k.journal line in
    let shorter = ap (λ (os : List Pending). length os) out ∙ long_outs before o later in
    let left = ap (λ (os : List Pending). length os) rest in
    record {
      kept = kept;
      room = settled_room only k l c new before o later outcome s r out is kept held settles;
      named = named;
      spare = omega (arith, longer, shorter, left, spare);
      bytes = plan ∙ ap (λ (shape : Shape). plan_bytes shape k.width) (sym settles.shape);
      few = b.few;
      next = omega (arith, bound, longer);
    }

-- and seen as the core after the launch's step
pub step_made : SettlingsAreSeen → (k : Kept) (c : Counts) (ticket : ℕ) (made : Made) (new : Store) (outs : List (ℕ × Pending)) (before : List Pending) (o : Pending) (later : List Pending) → IsKept k → IsOut (view_of k) ticket before o later → pendings outs ≡ before ++ later
    → KeepsLaws k.shape (launch_now k.shape (view_of k).bag o) [] k.limits.turns (outcome_of made []) → SettlesTo (store_of k c) new o.unit o.inputs made.shared k.next made.sent
    → MakesStep (view_of k) (view_of (kept_with k new (pendings outs) (k.journal ++ line_of o k.next (length made.sent) ∷ []) (k.next + length made.sent))) ticket made
step_made seen k c ticket made new outs before o later s out rest laws settles =
    let line = line_of o k.next (length made.sent) in
    let allowed = allowed_at k.shape (view_of k).bag before o later (subst (AllAllowed k.shape (view_of k).bag) out.place s.placed.allowed) in
    record {
      before = before;
      pending = o;
      later = later;
      out = out;
      after = ap (λ (os : List Pending). view_of (kept_with k new os (k.journal ++ line ∷ []) (k.next + length made.sent))) rest
          ∙ ap view_of (settled_is k c new before o later (outcome_of made []) allowed settles)
          ∙ sym (seen k before o later (outcome_of made []) s out.place laws);
    }
