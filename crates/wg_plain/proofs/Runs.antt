-- Steps and runs: an entry is a step in at most one way, and a run in at most one way.
use Rattle.std.proofs.Common.{◌≡◌, ℕ, zero, suc, ◌+◌, ◌<◌, List, [], ◌∷◌, ◌++◌, length, take, get_or, Some, None, Option, refl, ap, sym, ◌∙◌, subst, arith}
use Rattle.std.specs.Prelude.{if◌then◌else◌, ◌==◌, max, slice_get, sum_by}
use Rattle.std.proofs.lemmas.List.Sums.{sum_by-append}
use Rattle.wg_machine.specs.declared.shape.Shape.{Shape}
use Rattle.wg_machine.specs.declared.launch.Launch.{Launch}
use Rattle.wg_machine.specs.declared.launch.Entry.{Entry}
use Rattle.wg_machine.specs.Bytes.{live_bytes, peak}
use Rattle.wg_machine.specs.LaunchMeaning.{Meaning, Outcome}
use Rattle.wg_machine.specs.Run.{IsRun, denied_of}
use Rattle.wg_machine.specs.State.{State}
use Rattle.wg_machine.specs.Step.{Passed, Step, state_after}
use Rattle.wg_plain.specs.Named.{IsNamed}
use Rattle.wg_plain.proofs.Found.{one_named}
use Rattle.wg_plain.proofs.Told.{AreToldByNames}

named_by : (shape : Shape) (made : Meaning) (turns : ℕ) (s : State) (e : Entry) (p : Passed) → Step shape made turns s e p → IsNamed shape s.bag e p.launch
named_by shape made turns s e p step = record {
  unit = sym (ap (λ (x : Entry). x.unit) step.names);
  inputs = sym (ap (λ (x : Entry). x.inputs) step.names);
  allowed = step.allowed;
}

-- the launch that an entry names does what its step says
named_makes : AreToldByNames → (shape : Shape) (made : Meaning) (turns : ℕ) (s : State) (e : Entry) (l : Launch) (p : Passed) → IsNamed shape s.bag e l → Step shape made turns s e p → made l s.buffers turns ≡ Some p.outcome
named_makes told shape made turns s e l p named step = ap (λ (k : Launch). made k s.buffers turns) (one_named told shape s.bag e l p.launch named (named_by shape made turns s e p step)) ∙ step.runs

some_equal : (a b : Outcome) → Some a ≡ Some b → a ≡ b
some_equal a b h = cc

some_none : (a : Option Outcome) (o : Outcome) → a ≡ Some o → a ≡ None → ⊥
some_none a o h k = cc

-- an entry whose launch is spent is no step
pub spent_step : AreToldByNames → (shape : Shape) (made : Meaning) (turns : ℕ) (s : State) (e : Entry) (l : Launch) → IsNamed shape s.bag e l → made l s.buffers turns ≡ None → (p : Passed) → Step shape made turns s e p → ⊥
spent_step told shape made turns s e l named spent p step = some_none (made l s.buffers turns) p.outcome (named_makes told shape made turns s e l p named step) spent

-- a step has the outs that its launch gives
pub step_outs : AreToldByNames → (shape : Shape) (made : Meaning) (turns : ℕ) (s : State) (e : Entry) (l : Launch) (o : Outcome) (p : Passed) → IsNamed shape s.bag e l → made l s.buffers turns ≡ Some o → Step shape made turns s e p
    → (e.first_out ≡ (if length o.sent == 0 then 0 else s.next)) × (e.outs ≡ length o.sent)
step_outs told shape made turns s e l o p named runs step =
    let same = some_equal p.outcome o (sym (named_makes told shape made turns s e l p named step) ∙ runs) in (
      ap (λ (x : Entry). x.first_out) step.names ∙ ap (λ (x : Outcome). if length x.sent == 0 then 0 else s.next) same,
      ap (λ (x : Entry). x.outs) step.names ∙ ap (λ (x : Outcome). length x.sent) same,
    )

-- an entry is a step in at most one way
pub one_step : AreToldByNames → (shape : Shape) (made : Meaning) (turns : ℕ) (s : State) (e : Entry) (p q : Passed) → Step shape made turns s e p → Step shape made turns s e q → p ≡ q
one_step told shape made turns s e p q a b =
    let launch : p.launch ≡ q.launch = one_named told shape s.bag e p.launch q.launch (named_by shape made turns s e p a) (named_by shape made turns s e q b) in
    let outcome : p.outcome ≡ q.outcome = some_equal p.outcome q.outcome (sym a.runs ∙ named_makes told shape made turns s e p.launch q (named_by shape made turns s e p a) b) in
    let after : p.after ≡ q.after =
    a.becomes ∙ ap (λ (l : Launch). state_after shape s l e.at p.outcome) launch ∙ ap (λ (o : Outcome). state_after shape s q.launch e.at o) outcome ∙ sym b.becomes in
    let passed = λ (l : Launch) (o : Outcome) (u : State). (let x : Passed = record { launch = l; outcome = o; after = u } in x) in
    ap (λ (l : Launch). passed l p.outcome p.after) launch ∙ ap (λ (o : Outcome). passed q.launch o p.after) outcome ∙ ap (λ (u : State). passed q.launch q.outcome u) after

-- entries are a run in at most one way
pub one_run : AreToldByNames → (shape : Shape) (made : Meaning) (turns : ℕ) (s : State) (entries : List Entry) (trail other : List Passed) (final last : State) → IsRun shape made turns s entries trail final → IsRun shape made turns s entries other last
    → (trail ≡ other) × (final ≡ last)
one_run told shape made turns s [] [] [] final last a b = (refl, a ∙ sym b)
one_run told shape made turns s [] [] (q ∷ other) final last a b = absurd b
one_run told shape made turns s [] (p ∷ trail) other final last a b = absurd a
one_run told shape made turns s (e ∷ entries) [] other final last a b = absurd a
one_run told shape made turns s (e ∷ entries) (p ∷ trail) [] final last a b = absurd b
one_run told shape made turns s (e ∷ entries) (p ∷ trail) (q ∷ other) final last a b =
    let first = one_step told shape made turns s e p q a.0 b.0 in
    let there = subst (λ (x : Passed). IsRun shape made turns x.after entries other last) (sym first) b.1 in
    let rest = one_run told shape made turns p.after entries trail other final last a.1 there in
    (ap (λ (x : Passed). x ∷ trail) first ∙ ap (λ (t : List Passed). q ∷ t) rest.0, rest.1)

-- a run, one step longer
pub run_more : (shape : Shape) (made : Meaning) (turns : ℕ) (s : State) (entries : List Entry) (trail : List Passed) (final : State) (e : Entry) (p : Passed) → IsRun shape made turns s entries trail final → Step shape made turns final e p
    → IsRun shape made turns s (entries ++ e ∷ []) (trail ++ p ∷ []) p.after
run_more shape made turns s [] [] final e p run step = (subst (λ (u : State). Step shape made turns u e p) run step, refl)
run_more shape made turns s [] (q ∷ trail) final e p run step = absurd run
run_more shape made turns s (x ∷ entries) [] final e p run step = absurd run
run_more shape made turns s (x ∷ entries) (q ∷ trail) final e p run step = (run.0, run_more shape made turns q.after entries trail final e p run.1 step)

pub denied_more : (trail : List Passed) (p : Passed) → denied_of (trail ++ p ∷ []) ≡ denied_of trail + p.outcome.denied
denied_more trail p = let s = sum_by-append (λ (q : Passed). q.outcome.denied) trail (p ∷ []) in let z : sum_by (λ (q : Passed). q.outcome.denied) (p ∷ []) ≡ p.outcome.denied = omega arith in omega arith

pub peak_more : (shape : Shape) (handed : ℕ) (s : State) (trail : List Passed) (p : Passed) → peak shape handed s (trail ++ p ∷ []) ≡ max (peak shape handed s trail) (live_bytes shape handed p.after)
peak_more shape handed s [] p = refl
peak_more shape handed s (q ∷ trail) p =
    let ih = peak_more shape handed q.after trail p in
    three (live_bytes shape handed s) (peak shape handed q.after (trail ++ p ∷ [])) (peak shape handed q.after trail) (live_bytes shape handed p.after) ih
  where
    three : (a x b c : ℕ) → x ≡ max b c → max a x ≡ max (max a b) c
    three a x b c e = omega arith

-- Where the first entries are a run and no step follows with the next one, the entries are no run.
pub stops : AreToldByNames → (shape : Shape) (made : Meaning) (turns : ℕ) (s : State) (entries : List Entry) (k : ℕ) (trail : List Passed) (final : State) → k < length entries → IsRun shape made turns s (take k entries) trail final
    → ((e : Entry) (p : Passed) → slice_get entries k ≡ Some e → Step shape made turns final e p → ⊥) → (other : List Passed) (last : State) → IsRun shape made turns s entries other last → ⊥
stops told shape made turns s [] k trail final less run none other last whole = omega arith
stops told shape made turns s (e ∷ entries) k trail final less run none [] last whole = whole
stops told shape made turns s (e ∷ entries) zero [] final less run none (q ∷ other) last whole = none e q refl (subst (λ (u : State). Step shape made turns u e q) (sym run) whole.0)
stops told shape made turns s (e ∷ entries) zero (p ∷ trail) final less run none (q ∷ other) last whole = run
stops told shape made turns s (e ∷ entries) (suc k) [] final less run none (q ∷ other) last whole = run
stops told shape made turns s (e ∷ entries) (suc k) (p ∷ trail) final less run none (q ∷ other) last whole =
    let first = one_step told shape made turns s e q p whole.0 run.0 in
    stops told shape made turns p.after entries k trail final (omega arith) run.1 none other last (subst (λ (x : Passed). IsRun shape made turns x.after entries other last) first whole.1)

pub take_next : (entries : List Entry) (i : ℕ) (e : Entry) → i < length entries → e ≡ get_or entries i e → take (i + 1) entries ≡ take i entries ++ e ∷ []
take_next [] i e less is = absurd (omega arith)
take_next (x ∷ entries) zero e less is = ap (λ (y : Entry). y ∷ []) (sym is)
take_next (x ∷ entries) (suc i) e less is = let s : suc i + 1 ≡ suc (i + 1) = omega arith in rw s (ap (λ (l : List Entry). x ∷ l) (take_next entries i e (omega arith) is))

pub got_here : (entries : List Entry) (i : ℕ) (e f : Entry) → i < length entries → e ≡ get_or entries i e → slice_get entries i ≡ Some f → f ≡ e
got_here [] i e f less is got = absurd (omega arith)
got_here (x ∷ entries) zero e f less is got = cc
got_here (x ∷ entries) (suc i) e f less is got = got_here entries i e f (omega arith) is got
