-- Right launch lines, one more at the end.
use Rattle.std.proofs.Common.{◌≡◌, ◌∙◌, ℕ, zero, suc, ◌+◌, ◌≤◌, ◌<◌, max, List, [], ◌∷◌, ◌++◌, length, take, drop, get_or, refl, ap, sym, subst, arith}
use Rattle.std.proofs.lemmas.List.{take_more, length-take-le, take-append-drop}
use Rattle.std.proofs.lemmas.List.Sums.{sum_by-append, sum_by-cons}
use Rattle.std.proofs.Math.Seq.{drop-cons}
use Rattle.wg_words.specs.Each.{Each}
use Rattle.wg_machine.specs.declared.launch.Entry.{Entry}
use Rattle.wg_machine.specs.declared.shape.Shape.{Shape}
use Rattle.wg_machine.specs.Bytes.{live_bytes, peak}
use Rattle.wg_machine.specs.LaunchMeaning.{Meaning}
use Rattle.wg_machine.specs.Run.{IsRun, EachState, denied_of}
use Rattle.wg_machine.specs.State.{State}
use Rattle.wg_machine.specs.Step.{Passed, Step}
use Rattle.wg_replay.specs.declared.replay.LineFault.{LineFault}
use Rattle.wg_replay.specs.declared.replay.LineFault.TheVariants as fault
use Rattle.wg_replay.specs.declared.replay.Replay.{Replay}
use Rattle.wg_replay.specs.Lines.{IsFault, Terms}
use Rattle.wg_replay.specs.States.{IsAt}
use Rattle.wg_replay.specs.Steps.{PassesLine}
use Rattle.wg_verify.specs.Launches.{HasFault, Leads}
use Rattle.wg_verify.specs.Verdicts.{IsLaunchVerdict, verdict_of}

pub each_at : {X : Type 0} (P : X → Type 0) (xs : List X) (i : ℕ) (x : X) → Each P xs → i < length xs → x ≡ get_or xs i x → P x
each_at P [] i x h less is = absurd (omega arith)
each_at P (y ∷ xs) zero x h less is = subst P (sym is) h.0
each_at P (y ∷ xs) (suc i) x h less is = each_at P xs i x h.1 (omega arith) is

run_more : (shape : Shape) (made : Meaning) (turns : ℕ) (s : State) (es : List Entry) (trail : List Passed) (mid : State) (e : Entry) (p : Passed)
    → IsRun shape made turns s es trail mid → Step shape made turns mid e p → IsRun shape made turns s (es ++ e ∷ []) (trail ++ p ∷ []) p.after
run_more shape made turns s [] [] mid e p run step = (subst (λ (u : State). Step shape made turns u e p) run step, refl)
run_more shape made turns s [] (q ∷ trail) mid e p run step = absurd run
run_more shape made turns s (f ∷ es) [] mid e p run step = absurd run
run_more shape made turns s (f ∷ es) (q ∷ trail) mid e p run step = (run.0, run_more shape made turns q.after es trail mid e p run.1 step)

states_more : (P : State → Type 0) (s : State) (trail : List Passed) (p : Passed) → EachState P s trail → P p.after → EachState P s (trail ++ p ∷ [])
states_more P s [] p h last = (h, last)
states_more P s (q ∷ trail) p h last = (h.0, states_more P q.after trail p h.1 last)

denied_more : (trail : List Passed) (p : Passed) → denied_of (trail ++ p ∷ []) ≡ denied_of trail + p.outcome.denied
denied_more trail p =
    let a = sum_by-append (λ (q : Passed). q.outcome.denied) trail (p ∷ []) in
    let b = sum_by-cons (λ (q : Passed). q.outcome.denied) p [] in
    omega (arith, a, b)

peak_more : (shape : Shape) (n : ℕ) (s : State) (trail : List Passed) (p : Passed)
    → peak shape n s (trail ++ p ∷ []) ≡ max (peak shape n s trail) (live_bytes shape n p.after)
peak_more shape n s [] p = refl
peak_more shape n s (q ∷ trail) p = ap (λ (k : ℕ). max (live_bytes shape n s) k) (peak_more shape n q.after trail p) ∙ joined (live_bytes shape n s) (peak shape n q.after trail) (live_bytes shape n p.after)
  where
    joined : (a b c : ℕ) → max a (max b c) ≡ max (max a b) c
    joined a b c = omega arith

-- a line that passes leads on

pub one_more : (t : Terms) (first : State) (entries : List Entry) (i : ℕ) (e : Entry) (old new : Replay)
    → i < length entries → e ≡ get_or entries i e → new.records.handed ≡ old.records.handed
    → ((s : State) → IsAt t.shape old.records old.buffers s → PassesLine t i s e old new)
    → Leads t first (take i entries) old → Leads t first (take (i + 1) entries) new
one_more t first entries i e old new less is handed passes leads =
    let now = leads.replayed in
    let s = leads.state in
    let pass = passes s now.at in
    let p = pass.passed in
    let more : take (i + 1) entries ≡ take i entries ++ e ∷ [] = take_more entries i e less ∙ ap (λ (x : Entry). take i entries ++ x ∷ []) (sym is) in
    let count : length (take i entries) ≡ i = length-take-le i entries (omega arith) in
    let long : length (take (i + 1) entries) ≡ i + 1 = length-take-le (i + 1) entries (omega arith) in
    let place = pass.right.place in
    let same : new.records.handed ≡ t.handed = handed ∙ now.handed in
    record {
      trail = leads.trail ++ p ∷ [];
      state = p.after;
      replayed = record {
        right = record {
          run = subst (λ (es : List Entry). IsRun t.shape t.made t.turns first es (leads.trail ++ p ∷ []) p.after) (sym more)
              (run_more t.shape t.made t.turns first (take i entries) leads.trail s e p now.right.run pass.right.step);
          few = omega arith;
          bytes = states_more (λ (u : State). live_bytes t.shape t.handed u ≤ t.bytes) first leads.trail p now.right.bytes pass.right.bytes;
        };
        at = pass.follows.at;
        handed = same;
        denied = pass.follows.denied ∙ ap (λ (n : ℕ). n + p.outcome.denied) now.denied ∙ sym (denied_more leads.trail p);
        peak = pass.follows.peak ∙ ap (λ (n : ℕ). max old.peak (live_bytes t.shape n p.after)) same
            ∙ ap (λ (n : ℕ). max n (live_bytes t.shape t.handed p.after)) now.peak ∙ sym (peak_more t.shape t.handed first leads.trail p);
      };
    }

-- a line that does not pass is the first with a fault

split_at : (entries : List Entry) (i : ℕ) (e : Entry) → i < length entries → e ≡ get_or entries i e → entries ≡ take i entries ++ e ∷ drop (suc i) entries
split_at entries i e less is =
    sym (take-append-drop i entries) ∙ ap (λ (xs : List Entry). take i entries ++ xs) (drop-cons entries i e less ∙ ap (λ (x : Entry). x ∷ drop (suc i) entries) (sym is))

pub fault_here : (t : Terms) (first : State) (entries : List Entry) (i : ℕ) (e : Entry) (old : Replay) (f : LineFault)
    → i < length entries → e ≡ get_or entries i e → ((s : State) → IsAt t.shape old.records old.buffers s → IsFault t i s e f)
    → Leads t first (take i entries) old → HasFault t first entries (i + 1) f
fault_here t first entries i e old f less is fault leads =
    let count : length (take i entries) ≡ i = length-take-le i entries (omega arith) in
    record {
      before = take i entries;
      entry = e;
      later = drop (suc i) entries;
      split = split_at entries i e less is;
      trail = leads.trail;
      state = leads.state;
      right = leads.replayed.right;
      number = ap (λ (n : ℕ). n + 1) (sym count);
      fault = subst (λ (n : ℕ). IsFault t n leads.state e f) (sym count) (fault leads.state leads.replayed.at);
    }

pub fault_verdict : (t : Terms) (first : State) (entries : List Entry) (line : ℕ) (f : LineFault) → HasFault t first entries line f → IsLaunchVerdict t first entries (verdict_of f line)
fault_verdict t first entries line fault.Wrong h = h
fault_verdict t first entries line fault.TurnsSpent h = h
fault_verdict t first entries line fault.OverBytes h = h
fault_verdict t first entries line fault.Memory h = tt
