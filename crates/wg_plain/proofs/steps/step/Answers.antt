use Rattle.std.proofs.Common.{◌≡◌, ◌∙◌, ◌≤◌, ◌++◌, ap, sym, subst, List, ℕ, Option, Some, None, length, arith, true, false}
use Rattle.std.specs.Prelude.{if◌then◌else◌, ◌==◌, max}
use Rattle.std.specs.List.{flat_map}
use Rattle.wg_machine.specs.declared.shape.Shape.{Shape}
use Rattle.wg_machine.specs.declared.launch.Launch.{Launch}
use Rattle.wg_machine.specs.declared.launch.Live.{Live}
use Rattle.wg_machine.specs.Buffers.{Buffers}
use Rattle.wg_machine.specs.LaunchMeaning.{Outcome, outcome_of}
use Rattle.wg_machine.specs.State.{born, kept}
use Rattle.wg_machine.specs.Step.{left_after}
use Rattle.wg_machine.specs.Units.{stride_at}
use Rattle.wg_plain.specs.declared.steps.Ran.{Ran}
use Rattle.wg_plain.specs.Sizes.{bytes_of_bag}
use Rattle.wg_plain.specs.Named.{IsNamed, FoundIs}
use Rattle.wg_plain.specs.Stepped.{RanIs, state_of}
use Rattle.wg_plain.proofs.Runs.{spent_step, step_outs}
use Rattle.wg_plain.proofs.Stepping.{step_made}
use Rattle.wg_plain.proofs.steps.step.Goals as goal

pub run-requires-clause-fits : goal.run-requires-clause-fits
run-requires-clause-fits g c =
    let G = g.B.Bodies.graph c.args.bodies.now in
    let made = g.B.Bodies.made c.args.bodies.now in
    let e = c.args.entry.now in
    let old = c.args.rest in
    let l = c.in-Some.launch in
    let named : IsNamed G old.bag e l =
    subst (λ (o : Option Launch). FoundIs G old.bag e o) c.in-Some.is
    (subst (λ (b : List Live). FoundIs G b e c.in_ok-launch.field-0) c.as_slice.ensures
    (subst (λ (s : Shape). FoundIs s c.as_slice.result.now e c.in_ok-launch.field-0) c.shape.ensures c.in_ok-launch.ensures)) in
    c.allowed_launches_fit.ensures G old.bag l e.at c.requires.good c.requires.sound.fitting named.allowed

pub returns-in_default-2 : goal.returns-in_default-2
returns-in_default-2 g c =
    let G = g.B.Bodies.graph c.args.bodies.now in
    let made = g.B.Bodies.made c.args.bodies.now in
    let e = c.args.entry.now in
    let old = c.args.rest in
    let l = c.in-Some.launch in
    let named : IsNamed G old.bag e l =
    subst (λ (o : Option Launch). FoundIs G old.bag e o) c.in-Some.is
    (subst (λ (b : List Live). FoundIs G b e c.in_ok-launch.field-0) c.as_slice.ensures
    (subst (λ (s : Shape). FoundIs s c.as_slice.result.now e c.in_ok-launch.field-0) c.shape.ensures c.in_ok-launch.ensures)) in
    let ran : RanIs G made c.args.turns l old.buffers (None) =
    subst (λ (r : Option Ran). RanIs G made c.args.turns l old.buffers r) c.in_default-2.is
    (subst (λ (m : Buffers). RanIs G made c.args.turns l m c.in_ok-ran.field-0) c.as_slice-2.ensures c.in_ok-ran.ensures) in
    spent_step c.allowed_is_launch_in.ensures G made c.args.turns (state_of old) e l named ran

pub returns-then-not-has_outs : goal.returns-then-not-has_outs
returns-then-not-has_outs g c = λ p step.
    (let G = g.B.Bodies.graph c.args.bodies.now in
    let made = g.B.Bodies.made c.args.bodies.now in
    let e = c.args.entry.now in
    let old = c.args.rest in
    let l = c.in-Some.launch in
    let named : IsNamed G old.bag e l =
    subst (λ (o : Option Launch). FoundIs G old.bag e o) c.in-Some.is
    (subst (λ (b : List Live). FoundIs G b e c.in_ok-launch.field-0) c.as_slice.ensures
    (subst (λ (s : Shape). FoundIs s c.as_slice.result.now e c.in_ok-launch.field-0) c.shape.ensures c.in_ok-launch.ensures)) in
    let ran : RanIs G made c.args.turns l old.buffers (Some c.in-Some-2.ran) =
    subst (λ (r : Option Ran). RanIs G made c.args.turns l old.buffers r) c.in-Some-2.is
    (subst (λ (m : Buffers). RanIs G made c.args.turns l m c.in_ok-ran.field-0) c.as_slice-2.ensures c.in_ok-ran.ensures) in
    let o : Outcome = outcome_of c.in-Some-2.ran.made c.in-Some-2.ran.buffers in
    let n : c.len.result ≡ length o.sent = c.len.ensures in
    let outs = step_outs c.allowed_is_launch_in.ensures G made c.args.turns (state_of old) e l o p named ran.0 step in
    let holds : c.has_outs.result ≡ true = c.has_outs.ensures.1 (outs.0 ∙ ap (λ (k : ℕ). if k == 0 then 0 else old.next) (sym n), outs.1 ∙ sym n) in
    let no : c.has_outs.result ≡ false = c.if-not-has_outs.true in
    absurd (cc))

pub commit-requires-clause-strides : goal.commit-requires-clause-strides
commit-requires-clause-strides g c = λ u.
    (let h = c.strides_are_small.ensures (g.B.Bodies.graph c.args.bodies.now) u c.requires.good in
    subst (λ (s : Shape). stride_at s u ≤ 8192) (sym c.shape-2.ensures) h)

pub commit-requires-clause-records : goal.commit-requires-clause-records
commit-requires-clause-records g c =
    let G = g.B.Bodies.graph c.args.bodies.now in
    let made = g.B.Bodies.made c.args.bodies.now in
    let e = c.args.entry.now in
    let old = c.args.rest in
    let l = c.in-Some.launch in
    let named : IsNamed G old.bag e l =
    subst (λ (o : Option Launch). FoundIs G old.bag e o) c.in-Some.is
    (subst (λ (b : List Live). FoundIs G b e c.in_ok-launch.field-0) c.as_slice.ensures
    (subst (λ (s : Shape). FoundIs s c.as_slice.result.now e c.in_ok-launch.field-0) c.shape.ensures c.in_ok-launch.ensures)) in
    let ran : RanIs G made c.args.turns l old.buffers (Some c.in-Some-2.ran) =
    subst (λ (r : Option Ran). RanIs G made c.args.turns l old.buffers r) c.in-Some-2.is
    (subst (λ (m : Buffers). RanIs G made c.args.turns l m c.in_ok-ran.field-0) c.as_slice-2.ensures c.in_ok-ran.ensures) in
    let o : Outcome = outcome_of c.in-Some-2.ran.made c.in-Some-2.ran.buffers in
    let n : c.len.result ≡ length o.sent = c.len.ensures in
    let fits = c.allowed_launches_fit.ensures G old.bag l e.at c.requires.good c.requires.sound.fitting named.allowed in
    let few = c.few_are_sent.ensures G l old.buffers c.args.turns o c.requires.good fits ran.1 in
    let kept_few = c.requires.sound.few in
    let room = c.requires.next in
    omega arith

pub returns : goal.returns
returns g c =
    let G = g.B.Bodies.graph c.args.bodies.now in
    let made = g.B.Bodies.made c.args.bodies.now in
    let e = c.args.entry.now in
    let old = c.args.rest in
    let l = c.in-Some.launch in
    let named : IsNamed G old.bag e l =
    subst (λ (o : Option Launch). FoundIs G old.bag e o) c.in-Some.is
    (subst (λ (b : List Live). FoundIs G b e c.in_ok-launch.field-0) c.as_slice.ensures
    (subst (λ (s : Shape). FoundIs s c.as_slice.result.now e c.in_ok-launch.field-0) c.shape.ensures c.in_ok-launch.ensures)) in
    let ran : RanIs G made c.args.turns l old.buffers (Some c.in-Some-2.ran) =
    subst (λ (r : Option Ran). RanIs G made c.args.turns l old.buffers r) c.in-Some-2.is
    (subst (λ (m : Buffers). RanIs G made c.args.turns l m c.in_ok-ran.field-0) c.as_slice-2.ensures c.in_ok-ran.ensures) in
    let o : Outcome = outcome_of c.in-Some-2.ran.made c.in-Some-2.ran.buffers in
    let n : c.len.result ≡ length o.sent = c.len.ensures in
    let outs = c.has_outs.ensures.0 c.if-not-has_outs.false in
    let new = c.in_ok-after.after in
    let did = c.in_ok-after.ensures in
    let fits = c.allowed_launches_fit.ensures G old.bag l e.at c.requires.good c.requires.sound.fitting named.allowed in
    let few = c.few_are_sent.ensures G l old.buffers c.args.turns o c.requires.good fits ran.1 in
    step_made c.steps_fit.ensures G made c.args.turns c.args.handed old new e l o c.requires.good (λ l m t fits. g.met.B.Bodies.lawful c.args.bodies.now l m t c.requires.good fits) named few ran.0 ran.1
    (outs.0 ∙ ap (λ (k : ℕ). if k == 0 then 0 else old.next) n) (outs.1 ∙ n)
    (did.bag ∙ ap (λ (s : Shape). left_after e.inputs e.at o.shared old.bag ++ flat_map kept (born s old.next o.sent)) c.shape-2.ensures) did.next did.buffers did.denied
    (did.peak ∙ ap (λ (s : Shape). max old.peak (bytes_of_bag s c.args.handed new.bag)) c.shape-2.ensures) c.requires.sound
