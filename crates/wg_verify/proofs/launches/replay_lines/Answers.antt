use Rattle.std.proofs.Common.{◌+◌, ◌∙◌, ℕ, sym, subst, arith}
use Rattle.wg_replay.specs.Lines.{terms, IsFault}
use Rattle.wg_replay.specs.Steps.{PassesLine}
use Rattle.wg_verify.specs.declared.verdict.Verdict.{Verdict}
use Rattle.wg_verify.specs.Verdicts.{IsLaunchVerdict}
use Rattle.wg_verify.proofs.Running.{fault_here, fault_verdict, one_more}
use Rattle.wg_verify.proofs.launches.replay_lines.Goals as goal

pub line-requires-clause-stands : goal.line-requires-clause-stands
line-requires-clause-stands g c =
    let leads = c.loop-place.invariant.leads c.requires.begun.0 c.requires.begun.1 in
    (leads.state, leads.replayed.at)

pub returns-in-Err-clause-fault : goal.returns-in-Err-clause-fault
returns-in-Err-clause-fault g c = λ first begun.
    (let G = g.B.Bodies.graph c.args.bodies.now in
    let M = g.B.Bodies.made c.args.bodies.now in
    let limits = c.args.limits.now in
    let t = terms G M limits c.args.replay.now.records.handed c.args.bytes in
    let e = c.index-entries-place.result in
    let i = c.loop-place.place in
    let now = c.loop-place.invariant in
    subst (λ (v : Verdict). IsLaunchVerdict t first c.args.entries.now v) (sym c.verdict_of.ensures)
    (fault_verdict t first c.args.entries.now (i + 1) c.in-Err.fault
    (fault_here t first c.args.entries.now i e c.loop-place.replay c.in-Err.fault (omega arith) c.index-entries-place.is
    (λ s at. subst (λ (h : ℕ). IsFault (terms G M limits h c.args.bytes) i s e c.in-Err.fault) now.handed (c.in-Err.ensures.fault s at)) (now.leads first begun))))

pub loop-place-preserved : goal.loop-place-preserved
loop-place-preserved g c =
    let G = g.B.Bodies.graph c.args.bodies.now in
    let M = g.B.Bodies.made c.args.bodies.now in
    let limits = c.args.limits.now in
    let t = terms G M limits c.args.replay.now.records.handed c.args.bytes in
    let e = c.index-entries-place.result in
    let i = c.loop-place.place in
    let now = c.loop-place.invariant in
    let did = c.in_default.ensures in
    let begun = now.leads c.requires.begun.0 c.requires.begun.1 in
    let place = (did.right begun.state begun.replayed.at).right.place in
    let next = did.next in
    let denied = did.denied in
    record {
      leads = λ first lead. one_more t first c.args.entries.now i e c.loop-place.replay c.line.new.self (omega arith) c.index-entries-place.is did.handed
          (λ s at. subst (λ (h : ℕ). PassesLine (terms G M limits h c.args.bytes) i s e c.loop-place.replay c.line.new.self) now.handed (did.right s at)) (now.leads first lead);
      handed = did.handed ∙ now.handed;
      small = did.small;
      next = omega (arith, next);
      denied = omega (arith, denied);
      few = omega (arith, place);
    }
