-- What a core stands for, through its calls.
use Rattle.std.proofs.Common.{◌≡◌, ℕ, ◌<◌, ◌≤◌, List, length, subst, sym, arith, None, Some, Option}
use Rattle.std.specs.Prelude.{IfSome}
use Rattle.std.proofs.lemmas.List.{length_push}
use Rattle.wg_machine.specs.declared.launch.Launch.{Launch}
use Rattle.wg_machine.specs.declared.launch.Sent.{Sent}
use Rattle.wg_machine.specs.declared.shape.Shape.{Shape}
use Rattle.wg_machine.specs.Buffers.{Buffers}
use Rattle.wg_machine.specs.GoodShape.{IsGoodShape}
use Rattle.wg_machine.specs.LaunchMeaning.{FitsShape, KeepsLaws, Meaning, Outcome}
use Rattle.wg_machine.specs.Step.{entry_of}
use Rattle.wg_standing.specs.Core.{CoreView}
use Rattle.wg_standing.specs.Laws.{KeepingsStand, OpeningsStand, OutsFit, SettlingsStand, StoppingsStand}
use Rattle.wg_standing.specs.Outs.{launch_now}
use Rattle.wg_standing.specs.Moves.{TakesStep}
use Rattle.wg_standing.specs.Standing.{StandsFor}
use Rattle.wg_guess.specs.declared.guesses.Guess.{Guess}
use Rattle.wg_engine.specs.declared.engine.Opened.{Opened}
use Rattle.wg_engine.specs.declared.engine.Opened.TheVariants as opened
use Rattle.wg_engine.specs.declared.engine.Settled.{Settled}
use Rattle.wg_engine.specs.declared.engine.Settled.TheVariants as settled
use Rattle.wg_engine.specs.Tables.{Opens, Settles}

-- a core that opens stands for what it stood for
pub stands_opened : OpeningsStand → (made : Meaning) (script : List Sent) (start : Buffers) (old new : CoreView) (r : Opened) → IsGoodShape old.shape → Opens old new r → StandsFor made script start old → StandsFor made script start new
stands_opened law made script start old new opened.Stopped good s h = subst (StandsFor made script start) (sym s.1) h
stands_opened law made script start old new opened.Idle good s h = subst (StandsFor made script start) (sym s.2) h
stands_opened law made script start old new opened.NotNow good s h = subst (StandsFor made script start) (sym s.3) h
stands_opened law made script start old new opened.LaunchesSpent good s h = subst (StandsFor made script start) (sym s.1) h
stands_opened law made script start old new (opened.Launch out) good s h = subst (StandsFor made script start) (sym s.2.3) (law made script start old s.2.0 good s.0 s.1 h s.2.1)
stands_opened law made script start old new opened.Memory good s h = subst (StandsFor made script start) (sym s.3) h

-- the laws of a launch, for a shape
abbrev pub IsLawful : Meaning → Shape → Type 0
IsLawful made shape = (l : Launch) (m : Buffers) (t : ℕ) → FitsShape shape l → IfSome (made l m t) (KeepsLaws shape l m t)

-- the laws of the relation by which a core that settles stands
pub record StandingLaws : Type 0 where
  pub fit : OutsFit
  pub settle : SettlingsStand
  pub keep : KeepingsStand
  pub stop : StoppingsStand

stands_step : StandingLaws → (made : Meaning) (script : List Sent) (start : Buffers) (old new : CoreView) (ticket : ℕ) → IsGoodShape old.shape → IsLawful made old.shape → old.stopped ≡ None → TakesStep made old new ticket → StandsFor made script start old → StandsFor made script start new
stands_step law made script start old new ticket good lawful running s h =
    let o = s.pending in
    let launch = launch_now old.shape old.bag o in
    let fits = law.fit old s.before o s.later good s.was_out h.placed in
    let laws = subst (λ (x : Option Outcome). IfSome x (KeepsLaws old.shape launch old.buffers old.limits.turns)) s.runs (lawful launch old.buffers old.limits.turns fits) in
    subst (StandsFor made script start) (sym s.after) (law.settle made script start old s.before o s.later s.outcome good running s.was_out s.runs laws h)

-- a step makes the journal longer than the number of guesses kept
kept_fewer : (made : Meaning) (old new : CoreView) (ticket : ℕ) → TakesStep made old new ticket → old.kept ≤ length old.journal → new.kept < length new.journal
kept_fewer made old new ticket s few =
    let o = s.pending in
    let longer = length_push old.journal (entry_of (launch_now old.shape old.bag o) o.at old.next s.outcome) in
    subst (λ (n : CoreView). n.kept < length n.journal) (sym s.after) (omega (arith, longer, few))

-- a core that settles stands for what it stood for, with one step more where it made one
pub stands_settled : StandingLaws → (made : Meaning) (script : List Sent) (start : Buffers) (old new : CoreView) (ticket : ℕ) (guess : Option Guess) (r : Settled) → IsGoodShape old.shape → IsLawful made old.shape → Settles made old new ticket guess r → StandsFor made script start old → StandsFor made script start new
stands_settled law made script start old new ticket guess settled.Kept good lawful s h =
    let after = s.1.after in
    let stands = stands_step law made script start old after ticket good lawful s.0 s.1.step h in
    subst (StandsFor made script start) (sym s.1.counted) (law.keep made script start after (kept_fewer made old after ticket s.1.step h.kept) stands)
stands_settled law made script start old new ticket guess settled.Redone good lawful s h = stands_step law made script start old new ticket good lawful s.0 s.1.step h
stands_settled law made script start old new ticket guess (settled.TurnsSpent launch) good lawful s h =
    let spends = s.1.0 in
    let stopped = law.stop made script start old spends.before spends.pending spends.later spends.out.place spends.spent h in
    subst (StandsFor made script start) (sym s.2) (subst (λ (t : ℕ). (let core : CoreView = record old { stopped = Some t } in StandsFor made script start core)) spends.out.named stopped)
stands_settled law made script start old new ticket guess settled.NotOut good lawful s h = subst (StandsFor made script start) (sym s.2) h
stands_settled law made script start old new ticket guess settled.Stopped good lawful s h = subst (StandsFor made script start) (sym s.1) h
stands_settled law made script start old new ticket guess settled.Memory good lawful s h = subst (StandsFor made script start) (sym s.2) h
