use Rattle.std.proofs.Common.{ℕ, List, length, sym, subst, arith}
use Rattle.wg_words.specs.Each.{Each}
use Rattle.wg_buffers.specs.Start.{started}
use Rattle.wg_machine.specs.declared.launch.Entry.{Entry}
use Rattle.wg_machine.specs.declared.shape.Shape.{Shape}
use Rattle.wg_machine.specs.State.{start}
use Rattle.wg_records.specs.Named.{NumbersRise}
use Rattle.wg_replay.specs.Lines.{terms}
use Rattle.wg_verify.specs.Launches.{AreRight, IsBegun}
use Rattle.wg_verify.specs.Verdicts.{outcome, IsLaunchVerdict, IsVerdict, TailVerdict}
use Rattle.wg_verify.proofs.Beginning.{begun_leads, entries_rise, tail_form}
use Rattle.wg_verify.proofs.Exact.{one_verdict}
use Rattle.wg_verify.proofs.Judging.{launch_verdict, tail_to_verdict}
use Rattle.wg_verify.proofs.verifying.verify.Goals as goal

pub replay_lines-requires-clause-rise : goal.replay_lines-requires-clause-rise
replay_lines-requires-clause-rise g c =
    subst (λ (es : List Entry). Each (λ (e : Entry). NumbersRise 0 e.inputs) es) (sym c.as_slice-entries.ensures) (entries_rise (g.B.Bodies.graph c.args.bodies.now) c.args.journal.now.entries c.requires.report.entries)

pub replay_lines-requires-clause-begun : goal.replay_lines-requires-clause-begun
replay_lines-requires-clause-begun g c =
    let G = g.B.Bodies.graph c.args.bodies.now in
    let M = g.B.Bodies.made c.args.bodies.now in
    let script = c.args.script.now in
    let buffers = started script.lengths script.start in
    let begun = subst (λ (x : Shape). IsBegun x script.entries buffers c.in-Ok.replay) c.shape.ensures c.in-Ok.ensures in
    (start G script.entries buffers, begun_leads G M c.args.limits c.args.plan.now.bytes script.entries buffers c.in-Ok.replay begun)

pub returns-in-Err : goal.returns-in-Err
returns-in-Err g c =
    let G = g.B.Bodies.graph c.args.bodies.now in
    let M = g.B.Bodies.made c.args.bodies.now in
    let script = c.args.script.now in
    let buffers = started script.lengths script.start in
    let first = start G script.entries buffers in
    let bytes = c.args.plan.now.bytes in
    let begun = subst (λ (x : Shape). IsBegun x script.entries buffers c.in-Ok.replay) c.shape.ensures c.in-Ok.ensures in
    let t = terms G M c.args.limits c.in-Ok.replay.records.handed bytes in
    let v = c.in-Err.verdict in
    let said = c.in-Err.ensures.fault first (begun_leads G M c.args.limits bytes script.entries buffers c.in-Ok.replay begun) in
    let j = c.args.journal.now in
    let is = subst (λ (h : ℕ). IsVerdict (terms G M c.args.limits h bytes) first j v) begun.handed
    (launch_verdict t first j v (subst (λ (es : List Entry). IsLaunchVerdict t first es v) c.as_slice-entries.ensures said)) in
    record {
      verdict = is;
      only = λ w m k h. one_verdict c.allowed_is_launch_in.ensures (terms G M c.args.limits (length script.entries) bytes) first j w v (tail_form G j.tail c.requires.report.tail) m k h is;
    }

pub tail_verdict-requires-clause-form : goal.tail_verdict-requires-clause-form
tail_verdict-requires-clause-form g c = tail_form (g.B.Bodies.graph c.args.bodies.now) c.args.journal.now.tail c.requires.report.tail

pub tail_verdict-requires-clause-stands : goal.tail_verdict-requires-clause-stands
tail_verdict-requires-clause-stands g c =
    let G = g.B.Bodies.graph c.args.bodies.now in
    let M = g.B.Bodies.made c.args.bodies.now in
    let script = c.args.script.now in
    let buffers = started script.lengths script.start in
    let begun = subst (λ (x : Shape). IsBegun x script.entries buffers c.in-Ok.replay) c.shape.ensures c.in-Ok.ensures in
    let leads = c.in_default-replay_lines.ensures.right (start G script.entries buffers) (begun_leads G M c.args.limits c.args.plan.now.bytes script.entries buffers c.in-Ok.replay begun) in
    (leads.state, leads.replayed.at)

pub tail_verdict-requires-clause-launches : goal.tail_verdict-requires-clause-launches
tail_verdict-requires-clause-launches g c =
    let G = g.B.Bodies.graph c.args.bodies.now in
    let M = g.B.Bodies.made c.args.bodies.now in
    let script = c.args.script.now in
    let buffers = started script.lengths script.start in
    let begun = subst (λ (x : Shape). IsBegun x script.entries buffers c.in-Ok.replay) c.shape.ensures c.in-Ok.ensures in
    let leads = c.in_default-replay_lines.ensures.right (start G script.entries buffers) (begun_leads G M c.args.limits c.args.plan.now.bytes script.entries buffers c.in-Ok.replay begun) in
    let few = leads.replayed.right.few in
    omega (arith, few, c.requires.launches)

pub returns : goal.returns
returns g c =
    let G = g.B.Bodies.graph c.args.bodies.now in
    let M = g.B.Bodies.made c.args.bodies.now in
    let script = c.args.script.now in
    let buffers = started script.lengths script.start in
    let first = start G script.entries buffers in
    let bytes = c.args.plan.now.bytes in
    let begun = subst (λ (x : Shape). IsBegun x script.entries buffers c.in-Ok.replay) c.shape.ensures c.in-Ok.ensures in
    let handed = c.in-Ok.replay.records.handed in
    let t = terms G M c.args.limits handed bytes in
    let v = c.tail_verdict.result in
    let j = c.args.journal.now in
    let leads = c.in_default-replay_lines.ensures.right first (begun_leads G M c.args.limits bytes script.entries buffers c.in-Ok.replay begun) in
    let trail = leads.trail in
    let final = leads.state in
    let said = c.tail_verdict.ensures handed first c.as_slice-entries.result.now trail final leads.replayed in
    let is = subst (λ (h : ℕ). IsVerdict (terms G M c.args.limits h bytes) first j v) begun.handed
    (tail_to_verdict t first j trail final v
    (subst (λ (es : List Entry). AreRight t first es trail final) c.as_slice-entries.ensures leads.replayed.right)
    (subst (λ (es : List Entry). TailVerdict t (outcome first (length es) trail final) j.tail v) c.as_slice-entries.ensures said)) in
    record {
      verdict = is;
      only = λ w m k h. one_verdict c.allowed_is_launch_in.ensures (terms G M c.args.limits (length script.entries) bytes) first j w v (tail_form G j.tail c.requires.report.tail) m k h is;
    }
