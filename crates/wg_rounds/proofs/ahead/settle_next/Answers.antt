use Rattle.std.proofs.Common.{◌<◌, ℕ, sym, subst, IfErr, IfSome, OnOk}
use Rattle.wg_machine.specs.declared.launch.Launch.{Launch}
use Rattle.wg_machine.specs.declared.shape.Shape.{Shape}
use Rattle.wg_machine.specs.Buffers.{Buffers}
use Rattle.wg_machine.specs.GoodShape.{IsGoodShape}
use Rattle.wg_machine.specs.LaunchMeaning.{FitsShape, KeepsLaws}
use Rattle.wg_guess.specs.Guesses.{IsTrueOf}
use Rattle.wg_rounds.specs.Ahead.{FailsToSettle, SettlesFirst}
use Rattle.wg_rounds.proofs.Settling.{kept_counts, kept_settles, never_redone, redone_settles, spent_first}
use Rattle.wg_rounds.proofs.ahead.settle_next.Goals as goal
use Rattle.wg_rounds.proofs.ahead.settle_next.Goals.{in-Kept, in-Redone, in-TurnsSpent, in-Memory}

pub returns-clause-settles : goal.returns-clause-settles
returns-clause-settles g c =
    let made = g.B.Bodies.made c.args.bodies.now in
    let old = c.args.core.now in
    let new = c.settle.new.self in
    let good = c.keeps_laws.ensures.good in
    let placed = c.keeps_laws.ensures.placed in
    let lawful = subst (λ (a : Shape). IsGoodShape a → (l : Launch) (m : Buffers) (t : ℕ) → FitsShape a l → IfSome (made l m t) (KeepsLaws a l m t)) c.requires.graph (λ good l m t fits. g.met.B.Bodies.lawful c.args.bodies.now l m t good fits) good in
    elim c.match-settle.branch [
      | in-Kept w ↦ subst (λ r. OnOk r (SettlesFirst made old new)) (sym w.result-is) (kept_settles made old new c.args.next.ticket _ c.outs_fit.ensures lawful good placed c.requires.first w.in-Kept.ensures.settles)
      | in-Redone w ↦ subst (λ r. OnOk r (SettlesFirst made old new)) (sym w.result-is) (redone_settles made old new c.args.next.ticket _ c.outs_fit.ensures lawful good placed c.requires.first w.in-Redone.ensures.settles)
      | in-TurnsSpent w ↦ subst (λ r. OnOk r (SettlesFirst made old new)) (sym w.result-is) tt
      | in-Memory w ↦ subst (λ r. OnOk r (SettlesFirst made old new)) (sym w.result-is) tt
    ]

pub returns-clause-keeps : goal.returns-clause-keeps
returns-clause-keeps g c =
    let made = g.B.Bodies.made c.args.bodies.now in
    let old = c.args.core.now in
    let new = c.settle.new.self in
    let differ = c.keeps_laws.ensures.placed.tickets_differ in
    let honest = subst (λ (s : Shape). IsTrueOf s made old.limits.turns c.args.next.guess) c.requires.graph c.requires.truth in
    λ of.
    elim c.match-settle.branch [
      | in-Kept w ↦ subst (λ r. OnOk r (old.kept < new.kept)) (sym w.result-is) (kept_counts made old new c.args.next.ticket _ w.in-Kept.ensures.settles)
      | in-Redone w ↦ absurd (never_redone made old new c.args.next differ c.requires.first of honest w.in-Redone.ensures.settles)
      | in-TurnsSpent w ↦ subst (λ r. OnOk r (old.kept < new.kept)) (sym w.result-is) tt
      | in-Memory w ↦ subst (λ r. OnOk r (old.kept < new.kept)) (sym w.result-is) tt
    ]

pub returns-clause-fails : goal.returns-clause-fails
returns-clause-fails g c =
    let made = g.B.Bodies.made c.args.bodies.now in
    let old = c.args.core.now in
    let new = c.settle.new.self in
    let differ = c.keeps_laws.ensures.placed.tickets_differ in
    elim c.match-settle.branch [
      | in-Kept w ↦ subst (λ r. IfErr r (FailsToSettle made old new)) (sym w.result-is) tt
      | in-Redone w ↦ subst (λ r. IfErr r (FailsToSettle made old new)) (sym w.result-is) tt
      | in-TurnsSpent w ↦ subst (λ r. IfErr r (FailsToSettle made old new)) (sym w.result-is) (let s = w.in-TurnsSpent.ensures.settles in spent_first made old new c.args.next.ticket s.1.0 differ c.requires.first s.2)
      | in-Memory w ↦ subst (λ r. IfErr r (FailsToSettle made old new)) (sym w.result-is) (w.in-Memory.ensures.settles.2)
    ]
