use Rattle.std.proofs.Common.{subst, IfSome, ℕ}
use Rattle.wg_machine.specs.declared.shape.Shape.{Shape}
use Rattle.wg_machine.specs.declared.launch.Launch.{Launch}
use Rattle.wg_machine.specs.Buffers.{Buffers}
use Rattle.wg_machine.specs.GoodShape.{IsGoodShape}
use Rattle.wg_machine.specs.LaunchMeaning.{FitsShape, KeepsLaws}
use Rattle.wg_engine.proofs.Serving.{kept_or_wants}
use Rattle.wg_engine.proofs.Stands.{StandingLaws, stands_settled}
use Rattle.wg_engine.proofs.engine.Core.settle.Goals as goal

pub returns-clause-stands : goal.returns-clause-stands
returns-clause-stands g c =
    let laws : StandingLaws = record { fit = c.outs_fit.ensures; settle = c.settlings_stand.ensures; keep = c.keepings_stand.ensures; stop = c.stoppings_stand.ensures } in
    let good = c.keeps_laws.ensures.good in
    λ script start h.
    stands_settled laws _ script start _ _ c.args.ticket c.args.guess c.settled.result
    good
    (subst (λ (a : Shape). IsGoodShape a → (l : Launch) (m : Buffers) (t : ℕ) → FitsShape a l → IfSome (g.B.Bodies.made c.args.bodies.now l m t) (KeepsLaws a l m t)) c.requires.graph (λ good l m t fits. g.met.B.Bodies.lawful c.args.bodies.now l m t good fits) good)
    c.settled.ensures h

pub returns-clause-serving : goal.returns-clause-serving
returns-clause-serving g c =
    let made = g.B.Bodies.made c.args.bodies.now in
    let now = c.args.self.now in
    λ before o later out free serves.
    kept_or_wants (g.B.Bodies.graph c.args.bodies.now) made now c.settled.new.self c.args.ticket c.args.guess c.settled.result before o later c.keeps_laws.ensures.placed c.requires.truth c.settled.ensures out free serves
