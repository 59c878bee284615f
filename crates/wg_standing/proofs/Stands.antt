-- What a core stands for, as it opens, settles and stops, and where it is idle.
use Rattle.std.proofs.Common.{◌≡◌, ℕ, zero, suc, ◌+◌, ◌<◌, List, [], ◌∷◌, ◌++◌, length, refl, ap, sym, ◌∙◌, subst, arith, Option, None, Some, unwrap_or}
use Rattle.std.specs.List.{flat_map}
use Rattle.wg_machine.specs.Run.{EachState}
use Rattle.wg_machine.specs.Step.{Passed}
use Rattle.std.specs.Prelude.{IfSome, Contains, slice_get, filter}
use Rattle.wg_words.specs.Each.{Each}
use Rattle.wg_machine.specs.declared.launch.Live.{Live}
use Rattle.wg_machine.specs.declared.launch.Record.{Record}
use Rattle.wg_machine.specs.declared.launch.Sent.{Sent}
use Rattle.wg_machine.specs.Buffers.{Buffers}
use Rattle.wg_machine.specs.Bytes.{live_bytes}
use Rattle.wg_machine.specs.GoodShape.{IsGoodShape}
use Rattle.wg_machine.specs.LaunchMeaning.{KeepsLaws, Meaning, Outcome}
use Rattle.wg_machine.specs.State.{State, born, kept}
use Rattle.wg_standing.specs.declared.pending.Pending.{Pending}
use Rattle.wg_standing.specs.Choice.{IsChoice}
use Rattle.wg_standing.specs.Core.{CoreView}
use Rattle.wg_standing.specs.Idle.{IsIdle}
use Rattle.wg_standing.specs.Moves.{settled_of, slot_bytes, with_kept, with_out}
use Rattle.wg_standing.specs.Outs.{AllAllowed, launch_now, unopened}
use Rattle.wg_standing.specs.Standing.{EachKnown, IsPlaced, IsSpent, StandsFor, by_unit, counts, is_entry_record}
use Rattle.wg_standing.proofs.Blocks.{idle_empty}
use Rattle.wg_standing.proofs.Bytes.{bytes_are}
use Rattle.wg_standing.proofs.Chosen.{choice_fine}
use Rattle.wg_standing.proofs.Fitting.{out_fits}
use Rattle.wg_standing.proofs.Grids.{distinct_born}
use Rattle.wg_standing.proofs.Lefts.{left_opened, left_reworded}
use Rattle.wg_standing.proofs.Tickets.{opened_ticketed, settled_ticketed}
use Rattle.wg_standing.proofs.OutLess.{settled_placed, settled_stands}
use Rattle.wg_standing.proofs.OutMore.{opened_placed, opened_stands}
use Rattle.wg_standing.proofs.Settling.{NeedsAreKept, keeps_needs}

pub opening_places : (core : CoreView) (o : Pending) → IsGoodShape core.shape → length core.journal + length core.outs < core.limits.launches → IsPlaced core core.bag → IsChoice core o → IsPlaced (with_out core o) core.bag
opening_places core o good few p choice =
    let f = choice_fine core o good p choice in
    opened_placed core o f.ticket few f.room p f.allowed

pub opening_stands : (made : Meaning) (script : List Sent) (start : Buffers) (core : CoreView) (o : Pending) → IsGoodShape core.shape → core.stopped ≡ None → length core.journal + length core.outs < core.limits.launches → StandsFor made script start core → IsChoice core o → StandsFor made script start (with_out core o)
opening_stands made script start core o good running few s choice =
    let f = choice_fine core o good s.placed choice in
    opened_stands made script start core o running f.ticket few f.room s f.allowed (left_opened core o (flat_map kept (born core.shape 0 script)) good s.placed choice s.left) (opened_ticketed core o f.ticket s.ticketed)

pub settling_places : NeedsAreKept → (core : CoreView) (before : List Pending) (o : Pending) (later : List Pending) (outcome : Outcome) → IsGoodShape core.shape → core.outs ≡ before ++ o ∷ later → KeepsLaws core.shape (launch_now core.shape core.bag o) core.buffers core.limits.turns outcome → IsPlaced core core.bag → IsPlaced (settled_of core before o later outcome) (settled_of core before o later outcome).bag
settling_places law core before o later outcome good was_out laws p =
    let fits = out_fits core before o later good was_out p in
    let few = keeps_needs law core.shape (launch_now core.shape core.bag o) core.buffers core.limits.turns outcome fits laws in
    settled_placed core before o later outcome was_out few laws.shared (distinct_born core.shape core.next outcome.sent) p

pub settling_stands : NeedsAreKept → (made : Meaning) (script : List Sent) (start : Buffers) (core : CoreView) (before : List Pending) (o : Pending) (later : List Pending) (outcome : Outcome) → IsGoodShape core.shape → core.stopped ≡ None → core.outs ≡ before ++ o ∷ later → made (launch_now core.shape core.bag o) core.buffers core.limits.turns ≡ Some outcome → KeepsLaws core.shape (launch_now core.shape core.bag o) core.buffers core.limits.turns outcome → StandsFor made script start core → StandsFor made script start (settled_of core before o later outcome)
settling_stands law made script start core before o later outcome good running was_out runs laws h =
    let fits = out_fits core before o later good was_out h.placed in
    let few = keeps_needs law core.shape (launch_now core.shape core.bag o) core.buffers core.limits.turns outcome fits laws in
    settled_stands made script start core before o later outcome running was_out runs few laws.shared (distinct_born core.shape core.next outcome.sent) h (left_reworded o.inputs outcome.shared (flat_map kept (born core.shape 0 script)) core.entries h.left) (settled_ticketed core before o later outcome was_out h.placed.tickets_differ h.placed.tickets_below h.ticketed)

middle : (xs : List Pending) (o : Pending) (ys : List Pending) → Contains (xs ++ o ∷ ys) o
middle [] o ys = (0, omega arith, refl)
middle (x ∷ xs) o ys = let k = middle xs o ys in (suc k.0, let h = k.1 in omega arith, k.2)

pub stopping_stands : (made : Meaning) (script : List Sent) (start : Buffers) (core : CoreView) (before : List Pending) (o : Pending) (later : List Pending) → core.outs ≡ before ++ o ∷ later → made (launch_now core.shape core.bag o) core.buffers core.limits.turns ≡ None → StandsFor made script start core → StandsFor made script start (record core { stopped = Some o.ticket })
stopping_stands made script start core before o later was_out spends h =
    record {
      state = h.state;
      trail = h.trail;
      run = h.run;
      handed = h.handed;
      bag = h.bag;
      placed = record { waits = h.placed.waits; entries = h.placed.entries; held = h.placed.held; taken = h.placed.taken; allowed = h.placed.allowed; apart = h.placed.apart; tickets_differ = h.placed.tickets_differ; tickets_below = h.placed.tickets_below; tickets = h.placed.tickets; launches = h.placed.launches; spare = h.placed.spare; rises = h.placed.rises; handed = h.placed.handed; distinct = h.placed.distinct; full = h.placed.full; known = h.placed.known; words = h.placed.words; used = h.placed.used; room = h.placed.room };
      left = h.left;
      ticketed = record { settled = h.ticketed.settled; one_each = h.ticketed.one_each; below = h.ticketed.below; none_out = h.ticketed.none_out; all = h.ticketed.all };
      kept = h.kept;
      next = h.next;
      buffers = h.buffers;
      denied = h.denied;
      peak = h.peak;
      slots = h.slots;
      spent = record { pending = o; is_out = subst (λ (os : List Pending). Contains os o) (sym was_out) (middle before o later); named = refl; spent = spends };
    }

none_at : (waits : List (List Live)) → Each (λ (ws : List Live). ws ≡ []) waits → (v : ℕ) → length (unwrap_or (slice_get waits v) []) ≡ 0
none_at [] e v = refl
none_at (ws ∷ waits) e zero = subst (λ (xs : List Live). length xs ≡ 0) (sym e.0) refl
none_at (ws ∷ waits) e (suc v) = none_at waits e.1 v

pub idle_complete : (core : CoreView) (bag : List Live) → IsPlaced core bag → IsIdle core → bag ≡ []
idle_complete core bag p idle = idle_empty core bag p idle.outs (none_at core.waits idle.waits) idle.entries

none_wait : (handed v n : ℕ) → Each (λ (ws : List Live). ws ≡ []) (by_unit handed v n [])
none_wait handed v zero = tt
none_wait handed v (suc n) = (refl, none_wait handed (v + 1) n)

-- an empty bag allows no launch
none_out : (core : CoreView) (outs : List Pending) → AllAllowed core.shape [] outs → outs ≡ []
none_out core [] all = refl
none_out core (o ∷ outs) all =
    let a = all.0 in
    let z = ap (λ (rs : List Record). length rs) a.allowed.records in
    let some = a.allowed.some in
    absurd (omega (arith, z, some))

pub complete_idle : (core : CoreView) (bag : List Live) → IsPlaced core bag → bag ≡ [] → IsIdle core
complete_idle core bag p empty =
    let none = none_out core core.outs (subst (λ (b : List Live). AllAllowed core.shape b core.outs) empty p.allowed) in
    let ready : unopened core.outs bag ≡ [] = ap (λ (os : List Pending). unopened os bag) none ∙ empty in
    record {
      waits = subst (Each (λ (ws : List Live). ws ≡ [])) (sym (p.waits ∙ ap (by_unit core.handed 0 (length core.shape.units)) ready)) (none_wait core.handed 0 (length core.shape.units));
      entries = p.entries ∙ ap (filter (is_entry_record core.handed)) ready;
      outs = none;
    }

pub bytes_of_slots : (core : CoreView) (s : State) → core.bag ≡ s.bag → IsPlaced core core.bag → live_bytes core.shape core.handed s ≡ slot_bytes core.shape 0 core.used
bytes_of_slots core s same p =
    bytes_are core.shape core.handed s (subst (EachKnown (length core.shape.units)) same p.known)
    ∙ ap (slot_bytes core.shape 0) (ap (counts core.handed 0 (length core.shape.units)) (sym same) ∙ sym p.used)

pub keeping_places : (core : CoreView) → IsPlaced core core.bag → IsPlaced (with_kept core) core.bag
keeping_places core p =
    record { waits = p.waits; entries = p.entries; held = p.held; taken = p.taken; allowed = p.allowed; apart = p.apart; tickets_differ = p.tickets_differ; tickets_below = p.tickets_below; tickets = p.tickets; launches = p.launches; spare = p.spare; rises = p.rises; handed = p.handed; distinct = p.distinct; full = p.full; known = p.known; words = p.words; used = p.used; room = p.room }

same_spent : (made : Meaning) (core : CoreView) (t : Option ℕ) → IfSome t (IsSpent made core) → IfSome t (IsSpent made (with_kept core))
same_spent made core None s = tt
same_spent made core (Some ticket) s = record { pending = s.pending; is_out = s.is_out; named = s.named; spent = s.spent }

pub keeping_stands : (made : Meaning) (script : List Sent) (start : Buffers) (core : CoreView) → core.kept < length core.journal → StandsFor made script start core → StandsFor made script start (with_kept core)
keeping_stands made script start core few h =
    record {
      state = h.state;
      trail = h.trail;
      run = h.run;
      handed = h.handed;
      bag = h.bag;
      placed = keeping_places core h.placed;
      left = h.left;
      ticketed = record { settled = h.ticketed.settled; one_each = h.ticketed.one_each; below = h.ticketed.below; none_out = h.ticketed.none_out; all = h.ticketed.all };
      kept = omega arith;
      next = h.next;
      buffers = h.buffers;
      denied = h.denied;
      peak = h.peak;
      slots = h.slots;
      spent = same_spent made core core.stopped h.spent;
    }

-- a fact of each state that follows from another
pub states_weaker : (P Q : State → Type 0) → ((s : State) → P s → Q s) → (s : State) (trail : List Passed) → EachState P s trail → EachState Q s trail
states_weaker P Q f s [] e = f s e
states_weaker P Q f s (p ∷ trail) e = (f s e.0, states_weaker P Q f p.after trail e.1)
