-- What a script and a journal that was read bring along.
use Rattle.std.proofs.Common.{◌≡◌, ◌∙◌, ℕ, suc, ◌+◌, ◌≤◌, List, [], ◌∷◌, length, Option, Some, None, refl, ap, sym, arith}
use Rattle.std.specs.Prelude.{IsTrue, IfSome}
use Rattle.std.proofs.lemmas.Bool.{and_parts}
use Rattle.std.proofs.lemmas.Bool.Decides.{nat_tests}
use Rattle.wg_words.specs.Each.{Each}
use Rattle.wg_buffers.specs.Start.{started}
use Rattle.wg_journal.specs.Report.{first_is_above, is_rising, IsGoodEntry, IsGoodStop, IsGoodTail}
use Rattle.wg_machine.specs.declared.journal.Stop.{Stop}
use Rattle.wg_machine.specs.declared.journal.Stop.TheVariants as stop
use Rattle.wg_machine.specs.declared.journal.Tail.{Tail}
use Rattle.wg_machine.specs.declared.launch.Entry.{Entry}
use Rattle.wg_machine.specs.declared.launch.Limits.{Limits}
use Rattle.wg_machine.specs.declared.launch.Sent.{Sent}
use Rattle.wg_machine.specs.declared.shape.Shape.{Shape}
use Rattle.wg_machine.specs.Buffers.{Buffers}
use Rattle.wg_machine.specs.Bytes.{live_bytes}
use Rattle.wg_machine.specs.LaunchMeaning.{Meaning}
use Rattle.wg_machine.specs.State.{start}
use Rattle.wg_records.specs.Named.{NumbersRise}
use Rattle.wg_replay.specs.declared.replay.Replay.{Replay}
use Rattle.wg_replay.specs.Lines.{terms}
use Rattle.wg_verify.specs.Launches.{IsBegun, Leads}
use Rattle.wg_verify.specs.Tails.{HasForm, RisesIn}

pub started_count : (lengths : List ℕ) (words : List (List ℕ)) → length words ≡ length lengths → length (started lengths words) ≡ length lengths
started_count [] words h = refl
started_count (n ∷ lengths) [] h = absurd (omega arith)
started_count (n ∷ lengths) (ws ∷ words) h = ap suc (started_count lengths words (omega arith))

rises : (n : ℕ) (ns : List ℕ) → IsTrue (first_is_above ns n) → IsTrue (is_rising ns) → NumbersRise (n + 1) ns
rises n [] above rest = tt
rises n (m ∷ ms) above rest =
    let p = and_parts (first_is_above ms m) (is_rising ms) rest in
    let more : n + 1 ≤ m = grind (arith, nat_tests) in
    (more, rises m ms p.0 p.1)

rises_from_none : (ns : List ℕ) → IsTrue (is_rising ns) → NumbersRise 0 ns
rises_from_none [] h = tt
rises_from_none (n ∷ ns) h =
    let p = and_parts (first_is_above ns n) (is_rising ns) h in
    (omega arith, rises n ns p.0 p.1)

pub entries_rise : (shape : Shape) (es : List Entry) → Each (IsGoodEntry shape) es → Each (λ (e : Entry). NumbersRise 0 e.inputs) es
entries_rise shape [] h = tt
entries_rise shape (e ∷ es) h = (rises_from_none e.inputs h.0.taken.rising, entries_rise shape es h.1)

stop_rises : (shape : Shape) (s : Option Stop) → IfSome s (IsGoodStop shape) → IfSome s RisesIn
stop_rises shape None h = tt
stop_rises shape (Some (stop.Turns turns unit group inputs)) h = rises_from_none inputs h.1.rising
stop_rises shape (Some (stop.Launches given)) h = tt

pub tail_form : (shape : Shape) (t : Tail) → IsGoodTail shape t → HasForm t
tail_form shape t h = record { buffers = h.3; one = h.4; rises = stop_rises shape t.stop h.2 }

pub begun_leads : (shape : Shape) (made : Meaning) (limits : Limits) (bytes : ℕ) (script : List Sent) (buffers : Buffers) (r : Replay)
    → IsBegun shape script buffers r → Leads (terms shape made limits r.records.handed bytes) (start shape script buffers) [] r
begun_leads shape made limits bytes script buffers r begun =
    let first = start shape script buffers in
    let none : live_bytes shape r.records.handed first ≡ 0 = sym begun.at.keeps.bytes ∙ begun.bytes in
    record {
      trail = [];
      state = first;
      replayed = record {
        right = record { run = refl; few = omega arith; bytes = omega (arith, none) };
        at = begun.at;
        handed = refl;
        denied = begun.denied;
        peak = begun.peak ∙ sym none;
      };
    }
