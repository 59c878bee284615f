use Rattle.std.proofs.Common.{rules, ◌≡◌, ℕ, None, refl, ap, subst, ◌∙◌, IfSome}
use Rattle.std.specs.Prelude.{Err}
use Rattle.wg_machine.specs.declared.launch.Launch.{Launch}
use Rattle.wg_machine.specs.declared.shape.Shape.{Shape}
use Rattle.wg_machine.specs.Buffers.{Buffers}
use Rattle.wg_machine.specs.GoodShape.{IsGoodShape}
use Rattle.wg_machine.specs.LaunchMeaning.{FitsShape, KeepsLaws}
use Rattle.wg_standing.specs.Core.{CoreView}
use Rattle.wg_standing.specs.Idle.{SomeIsOut}
use Rattle.wg_engine.specs.declared.stepping.Halted.{Halted}
use Rattle.wg_engine.specs.declared.stepping.Halted.TheVariants.{Turns}
use Rattle.wg_engine.specs.Effects.{Finds}
use Rattle.wg_engine.specs.Inside.{IsSoundCore, spent_ticket}
use Rattle.wg_engine.proofs.Effects.{takes_settle, unserved_memory}
use Rattle.wg_engine.proofs.Settlings.{can_step}
use Rattle.wg_engine.proofs.Views.{Own, some_up}
use Rattle.wg_engine.proofs.engine.Core.settled.Goals as goal

pub take-requires-clause-can : goal.take-requires-clause-can
take-requires-clause-can g c =
    let s = c.self.inside in
    let k : CoreView = g.K.Keeping.seen s.keep in
    let w : Own = record { buffers = s.buffers; denied = s.denied; peak = s.peak; kept = s.kept; spent = s.spent } in
    let now = c.args.self.now in
    let made = g.B.Bodies.made c.args.bodies.now in
    let none : s.spent ≡ None = search rules in
    let free : now.stopped ≡ None = subst (λ (n : CoreView). n.stopped ≡ None) c.self.view_is (ap spent_ticket none) in
    let out : SomeIsOut now c.args.ticket = subst (λ (n : CoreView). SomeIsOut n c.args.ticket) c.self.view_is (some_up k w c.args.ticket (c.if-not-is_out.ensures.out refl)) in
    let sound : IsSoundCore now s.spent = subst (λ (n : CoreView). IsSoundCore n s.spent) c.self.view_is c.self.invariant in
    let lawful = subst (λ (a : Shape). IsGoodShape a → (l : Launch) (m : Buffers) (t : ℕ) → FitsShape a l → IfSome (made l m t) (KeepsLaws a l m t)) c.requires.graph (λ good l m t fits. g.met.B.Bodies.lawful c.args.bodies.now l m t good fits) sound.good in
    can_step c.outs_fit.ensures made now s.spent c.args.ticket c.args.guess c.in-Ok.effect sound lawful c.in-Ok.ensures out

pub returns-in-Err-Memory : goal.returns-in-Err-Memory
returns-in-Err-Memory g c =
    let s = c.self.inside in
    let k : CoreView = g.K.Keeping.seen s.keep in
    let w : Own = record { buffers = s.buffers; denied = s.denied; peak = s.peak; kept = s.kept; spent = s.spent } in
    let now = c.args.self.now in
    let made = g.B.Bodies.made c.args.bodies.now in
    let none : s.spent ≡ None = search rules in
    let free : now.stopped ≡ None = subst (λ (n : CoreView). n.stopped ≡ None) c.self.view_is (ap spent_ticket none) in
    let out : SomeIsOut now c.args.ticket = subst (λ (n : CoreView). SomeIsOut n c.args.ticket) c.self.view_is (some_up k w c.args.ticket (c.if-not-is_out.ensures.out refl)) in
    let found = subst (λ (h : Halted). Finds made now out.1 c.args.guess (Err h)) c.in-Err-Memory.field-0-is (c.in-Err-Memory.ensures out.0 out.1 out.2 out.3) in
    (free, record { before = out.0; pending = out.1; later = out.2; out = out.3; writes = unserved_memory now out.1 c.args.guess found }, refl)

pub returns-in-Ok-stop : goal.returns-in-Ok-stop
returns-in-Ok-stop g c =
    let s = c.self.inside in
    let k : CoreView = g.K.Keeping.seen s.keep in
    let w : Own = record { buffers = s.buffers; denied = s.denied; peak = s.peak; kept = s.kept; spent = s.spent } in
    let now = c.args.self.now in
    let made = g.B.Bodies.made c.args.bodies.now in
    let none : s.spent ≡ None = search rules in
    let free : now.stopped ≡ None = subst (λ (n : CoreView). n.stopped ≡ None) c.self.view_is (ap spent_ticket none) in
    let out : SomeIsOut now c.args.ticket = subst (λ (n : CoreView). SomeIsOut n c.args.ticket) c.self.view_is (some_up k w c.args.ticket (c.if-not-is_out.ensures.out refl)) in
    let is : c.in-Err-Turns.field-0 ≡ Turns c.in-Err-Turns.launch = c.in-Err-Turns.field-0-is in
    let found = subst (λ (h : Halted). Finds made now out.1 c.args.guess (Err h)) is (c.in-Err-Turns.ensures out.0 out.1 out.2 out.3) in
    (free, (record { before = out.0; pending = out.1; later = out.2; out = out.3; spent = found.1 }, c.in-Ok-stop.ensures.launch ∙ found.0), c.in-Ok-stop.ensures.stopped)

pub returns-in-Err : goal.returns-in-Err
returns-in-Err g c =
    let s = c.self.inside in
    let k : CoreView = g.K.Keeping.seen s.keep in
    let w : Own = record { buffers = s.buffers; denied = s.denied; peak = s.peak; kept = s.kept; spent = s.spent } in
    let now = c.args.self.now in
    let made = g.B.Bodies.made c.args.bodies.now in
    let none : s.spent ≡ None = search rules in
    let free : now.stopped ≡ None = subst (λ (n : CoreView). n.stopped ≡ None) c.self.view_is (ap spent_ticket none) in
    let out : SomeIsOut now c.args.ticket = subst (λ (n : CoreView). SomeIsOut n c.args.ticket) c.self.view_is (some_up k w c.args.ticket (c.if-not-is_out.ensures.out refl)) in
    let is : c.in-Err-Turns.field-0 ≡ Turns c.in-Err-Turns.launch = c.in-Err-Turns.field-0-is in
    let found = subst (λ (h : Halted). Finds made now out.1 c.args.guess (Err h)) is (c.in-Err-Turns.ensures out.0 out.1 out.2 out.3) in
    (free, record { before = out.0; pending = out.1; later = out.2; out = out.3; writes = unserved_memory now out.1 c.args.guess found.2 }, c.in-Err.ensures.same)

pub returns-in-Ok : goal.returns-in-Ok
returns-in-Ok g c =
    let s = c.self.inside in
    let k : CoreView = g.K.Keeping.seen s.keep in
    let w : Own = record { buffers = s.buffers; denied = s.denied; peak = s.peak; kept = s.kept; spent = s.spent } in
    let now = c.args.self.now in
    let made = g.B.Bodies.made c.args.bodies.now in
    let none : s.spent ≡ None = search rules in
    let free : now.stopped ≡ None = subst (λ (n : CoreView). n.stopped ≡ None) c.self.view_is (ap spent_ticket none) in
    let out : SomeIsOut now c.args.ticket = subst (λ (n : CoreView). SomeIsOut n c.args.ticket) c.self.view_is (some_up k w c.args.ticket (c.if-not-is_out.ensures.out refl)) in
    takes_settle made now c.take.new.self c.args.ticket c.args.guess c.in-Ok.effect c.take.result free out c.in-Ok.ensures c.take.ensures
