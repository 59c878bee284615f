use Rattle.std.proofs.Common.{List, inl, refl, subst}
use Rattle.wg_machine.specs.declared.journal.BufferLine.{BufferLine}
use Rattle.wg_machine.specs.declared.shape.Shape.{Shape}
use Rattle.wg_machine.specs.Buffers.{Buffers}
use Rattle.wg_replay.specs.Lines.{terms}
use Rattle.wg_verify.specs.Tails.{buffer_lines}
use Rattle.wg_verify.specs.Verdicts.{outcome, BuffersVerdict}
use Rattle.wg_verify.proofs.Judging.{buffers_to_tail, stop_to_tail}
use Rattle.wg_verify.proofs.tails.tail_verdict.Goals as goal

pub returns-then-not-is_right_done : goal.returns-then-not-is_right_done
returns-then-not-is_right_done g c = λ handed first entries trail s now.
    (let t = terms (g.B.Bodies.graph c.args.bodies.now) (g.B.Bodies.made c.args.bodies.now) c.args.limits.now handed c.args.bytes in
    inl (record {
      done = c.in-Some.done;
      there = c.in-Some.is;
      number = refl;
      wrong = λ right. (let yes = (c.is_right_done.ensures t first entries trail s now refl).1 right in
          let not = c.if-not-is_right_done.true in
          cc);
    }))

pub returns-in-Some : goal.returns-in-Some
returns-in-Some g c = λ handed first entries trail s now.
    (let G = g.B.Bodies.graph c.args.bodies.now in
    let t = terms G (g.B.Bodies.made c.args.bodies.now) c.args.limits.now handed c.args.bytes in
    let o = outcome first c.args.launches trail s in
    let right = (c.is_right_done.ensures t first entries trail s now refl).0 c.if-not-is_right_done.false in
    let n = c.args.launches in
    let v = c.buffers_verdict.result in
    let said =
    subst (λ (b : Buffers). BuffersVerdict n c.args.tail.now.buffers (buffer_lines G.buffers b) v) now.at.buffers
    (subst (λ (x : Shape). BuffersVerdict n c.args.tail.now.buffers (buffer_lines x.buffers c.args.replay.now.buffers) v) c.shape.ensures
    (subst (λ (ls : List BufferLine). BuffersVerdict n ls (buffer_lines c.shape.result.now.buffers c.args.replay.now.buffers) v) c.as_slice.ensures c.buffers_verdict.ensures)) in
    buffers_to_tail t o c.args.tail.now c.in-Some.done v c.requires.form c.in-Some.is right said)

pub returns-in-Some-stop : goal.returns-in-Some-stop
returns-in-Some-stop g c = λ handed first entries trail s now.
    (let G = g.B.Bodies.graph c.args.bodies.now in
    let t = terms G (g.B.Bodies.made c.args.bodies.now) c.args.limits.now handed c.args.bytes in
    stop_to_tail t (outcome first c.args.launches trail s) c.args.tail.now c.in-Some-stop.stop c.stop_verdict.result c.requires.form c.in_default.is c.in-Some-stop.is
    (c.stop_verdict.ensures handed c.args.bytes s now.at))
