-- A replay that goes on by an entry makes the machine's step.
use Rattle.std.proofs.Common.{◌≡◌, ◌∙◌, ℕ, suc, ◌+◌, ◌≤◌, ◌<◌, max, List, [], ◌∷◌, length, map, Option, refl, ap, sym, subst, inr}
use Rattle.std.specs.Prelude.{if◌then◌else◌, ◌==◌, IfSome}
use Rattle.wg_words.specs.Each.{Each}
use Rattle.wg_words.specs.declared.limits.TheConstants.{MOST_SENT}
use Rattle.wg_machine.specs.declared.launch.Entry.{Entry}
use Rattle.wg_machine.specs.declared.launch.Launch.{Launch}
use Rattle.wg_machine.specs.declared.launch.Live.{Live}
use Rattle.wg_machine.specs.declared.launch.Made.{Made}
use Rattle.wg_machine.specs.declared.launch.Record.{Record}
use Rattle.wg_machine.specs.declared.memory.Write.{Write}
use Rattle.wg_machine.specs.declared.shape.Shape.{Shape}
use Rattle.wg_machine.specs.Buffers.{Buffers, all_written, lengths_of}
use Rattle.wg_machine.specs.Fitting.{BagFits, StateFits, IsLawful}
use Rattle.wg_machine.specs.GoodShape.{IsGoodShape}
use Rattle.wg_machine.specs.LaunchMeaning.{Meaning, Outcome, FitsShape, KeepsLaws, outcome_of}
use Rattle.wg_machine.specs.State.{State}
use Rattle.wg_machine.specs.Step.{Allows, IsReady, Passed, Step, entry_of, numbers_of, record_of, state_after, taken}
use Rattle.wg_records.specs.Bags.{Keeps}
use Rattle.wg_records.specs.Named.{IsNamed}
use Rattle.wg_replay.specs.declared.replay.Replay.{Replay}
use Rattle.wg_replay.specs.declared.replay.LineFault.{LineFault}
use Rattle.wg_replay.specs.declared.replay.LineFault.TheVariants as fault
use Rattle.wg_replay.specs.Lines.{IsFault, IsNoStep, RunsAs, Terms}
use Rattle.wg_replay.specs.States.{IsAt}
use Rattle.wg_replay.specs.Steps.{TakesStep}

-- what is named is what is taken

pub record IsTakenBy (bag : List Live) (e : Entry) (l : Launch) (ns : List ℕ) : Type 0 where
  pub numbers : numbers_of (map record_of (taken ns bag)) ≡ ns
  pub ready : Each (IsReady l.unit e.at) (taken ns bag)
  pub same : ns ≡ numbers_of l.records

pub named_taken : (shape : Shape) (bag : List Live) (e : Entry) (l : Launch) (ns : List ℕ) → ns ≡ e.inputs → IsNamed shape bag e l → IsTakenBy bag e l ns
named_taken shape bag e l ns is named =
    let same : numbers_of l.records ≡ ns = named.inputs ∙ sym is in
    record {
      numbers = subst (λ (m : List ℕ). numbers_of (map record_of (taken m bag)) ≡ m) same (sym (ap (λ (rs : List Record). numbers_of rs) named.allowed.records));
      ready = subst (λ (m : List ℕ). Each (IsReady l.unit e.at) (taken m bag)) same named.allowed.ready;
      same = sym same;
    }

-- a launch that a fitting bag allows sends few records

abbrev pub AllowedFit : Type 0
AllowedFit = (shape : Shape) (bag : List Live) (launch : Launch) (at : List ℕ) → IsGoodShape shape → BagFits shape bag → Allows shape bag launch at → FitsShape shape launch

abbrev pub FewAreSent : Type 0
FewAreSent = (shape : Shape) (launch : Launch) (buffers : Buffers) (turns : ℕ) (o : Outcome)
    → IsGoodShape shape → FitsShape shape launch → KeepsLaws shape launch buffers turns o → length o.sent ≤ MOST_SENT

pub sends_few : AllowedFit → FewAreSent → (shape : Shape) (made : Meaning) (turns : ℕ) (s : State) (e : Entry) (m : Made) (after : Buffers)
    → IsGoodShape shape → IsLawful shape made → BagFits shape s.bag → RunsAs shape made turns s e m after → length m.sent ≤ MOST_SENT
sends_few fit few shape made turns s e m after good lawful fits runs =
    let l = runs.launch in
    let o = outcome_of m after in
    let f = fit shape s.bag l e.at good fits runs.named.allowed in
    few shape l s.buffers turns o good f (subst (λ (x : Option Outcome). IfSome x (KeepsLaws shape l s.buffers turns)) runs.runs (lawful l s.buffers turns f))

-- the entry is the launch's

abbrev line_with : ℕ → List ℕ → List ℕ → ℕ → ℕ → Entry
line_with unit at inputs first outs = record { unit = unit; at = at; inputs = inputs; first_out = first; outs = outs }

entry_is : (e : Entry) (l : Launch) (next : ℕ) (o : Outcome) → l.unit ≡ e.unit → numbers_of l.records ≡ e.inputs
    → e.first_out ≡ (if length o.sent == 0 then 0 else next) → e.outs ≡ length o.sent → e ≡ entry_of l e.at next o
entry_is e l next o unit inputs first outs =
    ap (λ (u : ℕ). line_with u e.at e.inputs e.first_out e.outs) (sym unit)
    ∙ ap (λ (ns : List ℕ). line_with l.unit e.at ns e.first_out e.outs) (sym inputs)
    ∙ ap (λ (f : ℕ). line_with l.unit e.at (numbers_of l.records) f e.outs) first
    ∙ ap (λ (k : ℕ). line_with l.unit e.at (numbers_of l.records) (if length o.sent == 0 then 0 else next) k) outs

-- what settling an entry's launch does to a replay

pub record HasSettled (shape : Shape) (e : Entry) (m : Made) (ws : List Write) (old new : Replay) : Type 0 where
  pub keeps : (s : State) (l : Launch) → IsAt shape old.records old.buffers s → IsNamed shape s.bag e l
      → Keeps shape new.records (state_after shape s l e.at (outcome_of m (all_written s.buffers ws))).bag
  pub next : new.records.next ≡ old.records.next + length m.sent
  pub buffers : new.buffers ≡ all_written old.buffers ws
  pub denied : new.denied ≡ old.denied + m.denied
  pub peak : new.peak ≡ max old.peak new.records.bytes

abbrev pub StepsFit : Shape → Meaning → ℕ → Type 0
StepsFit shape made turns = (lengths : List ℕ) (s : State) (e : Entry) (p : Passed) → StateFits shape lengths s → Step shape made turns s e p → StateFits shape lengths p.after

count_lengths : (m : Buffers) → length (lengths_of m) ≡ length m
count_lengths [] = refl
count_lengths (b ∷ m) = ap suc (count_lengths m)

pub steps_on : (shape : Shape) (made : Meaning) (turns : ℕ) (s : State) (e : Entry) (old new : Replay) (m : Made) (ws : List Write)
    → StepsFit shape made turns → IsAt shape old.records old.buffers s → RunsAs shape made turns s e m (all_written s.buffers ws)
    → HasSettled shape e m ws old new → e.first_out ≡ (if length m.sent == 0 then 0 else old.records.next) → e.outs ≡ length m.sent
    → TakesStep shape made turns s e old new
steps_on shape made turns s e old new m ws fit at runs settled first outs =
    let l = runs.launch in
    let o = outcome_of m (all_written s.buffers ws) in
    let p : Passed = record { launch = l; outcome = o; after = state_after shape s l e.at o } in
    let names : e ≡ entry_of l e.at s.next o =
    entry_is e l s.next o runs.named.unit runs.named.inputs (first ∙ ap (λ (n : ℕ). if length m.sent == 0 then 0 else n) at.next) outs in
    let step : Step shape made turns s e p = record { allowed = runs.named.allowed; runs = runs.runs; names = names; becomes = refl } in
    let fits = fit (lengths_of s.buffers) s e p (record { bag = at.fits; buffers = refl }) step in
    let keeps = settled.keeps s l at runs.named in
    record {
      passed = p;
      step = step;
      follows = record {
        at = record {
          keeps = keeps;
          next = settled.next ∙ ap (λ (n : ℕ). n + length m.sent) at.next;
          buffers = settled.buffers ∙ ap (λ (b : Buffers). all_written b ws) at.buffers;
          fits = fits.bag;
          many = sym (count_lengths o.buffers) ∙ ap (λ (ns : List ℕ). length ns) fits.buffers ∙ count_lengths s.buffers ∙ at.many;
        };
        denied = settled.denied;
        peak = settled.peak ∙ ap (λ (n : ℕ). max old.peak n) keeps.bytes;
      };
    }

-- what is no step is no right line

pub no_step_fault : (t : Terms) (before : ℕ) (s : State) (e : Entry) (f : LineFault) → before < t.launches → IsNoStep t.shape t.made t.turns s e f → IsFault t before s e f
no_step_fault t before s e fault.Wrong place h = inr h
no_step_fault t before s e fault.TurnsSpent place h = (place, h)
no_step_fault t before s e fault.OverBytes place h = absurd h
no_step_fault t before s e fault.Memory place h = tt
