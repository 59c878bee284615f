use Rattle.std.proofs.Common.{◌∙◌, ◌+◌, ◌<◌, ◌++◌, ◌∷◌, [], ap, sym, subst, arith, List, ℕ, Option, Some, length, take}
use Rattle.std.specs.Prelude.{max}
use Rattle.wg_machine.specs.declared.launch.Entry.{Entry}
use Rattle.wg_machine.specs.Bytes.{live_bytes}
use Rattle.wg_machine.specs.Run.{IsRun}
use Rattle.wg_machine.specs.State.{State, start}
use Rattle.wg_machine.specs.Step.{Step}
use Rattle.wg_plain.specs.declared.steps.Rest.{Rest}
use Rattle.wg_plain.specs.Stepped.{Steps, state_of}
use Rattle.wg_plain.proofs.Runs.{run_more, denied_more, peak_more, stops, take_next, got_here}
use Rattle.wg_plain.proofs.replays.replay.Goals as goal

pub returns-in_default-clause-no_run : goal.returns-in_default-clause-no_run
returns-in_default-clause-no_run g c =
    let G = g.B.Bodies.graph c.args.bodies.now in
    let made = g.B.Bodies.made c.args.bodies.now in
    let turns = c.args.turns in
    let s = start G c.args.script.now c.args.buffers.now in
    let entries = c.args.entries.now in
    let i = c.loop-i.i in
    let e = c.index-entries-i.result in
    let mid = state_of c.loop-i.rest in
    let before = c.loop-i.invariant in
    let less : i < length entries = c.loop-i-test.true in
    let none = subst (λ (r : Option Rest). Steps G made turns (length c.args.script.now) c.loop-i.rest e r) c.in_default.is c.in_ok-after.ensures in
    stops c.allowed_is_launch_in.ensures G made turns s entries i before.trail mid less before.run
    (λ f p got step. none p (subst (λ (x : Entry). Step G made turns mid x p) (got_here entries i e f less c.index-entries-i.is got) step))

pub loop-i-preserved : goal.loop-i-preserved
loop-i-preserved g c =
    let G = g.B.Bodies.graph c.args.bodies.now in
    let made = g.B.Bodies.made c.args.bodies.now in
    let turns = c.args.turns in
    let handed = length c.args.script.now in
    let s = start G c.args.script.now c.args.buffers.now in
    let entries = c.args.entries.now in
    let i = c.loop-i.i in
    let e = c.index-entries-i.result in
    let before = c.loop-i.invariant in
    let less : i < length entries = c.loop-i-test.true in
    let stepped : Steps G made turns handed c.loop-i.rest e (Some c.in-Some.after) =
    subst (λ (r : Option Rest). Steps G made turns handed c.loop-i.rest e r) c.in-Some.is c.in_ok-after.ensures in
    let p = stepped.0 in
    let did = stepped.2 in
    let trail = before.trail ++ p ∷ [] in
    let next_few = did.next_few in
    let denied_few = did.denied_few in
    let old_next = before.next_few in
    let old_denied = before.denied_few in
    record {
      trail = trail;
      run = subst (λ (u : State). IsRun G made turns s (take (i + 1) entries) trail u) did.after
          (subst (λ (es : List Entry). IsRun G made turns s es trail p.after) (sym (take_next entries i e less c.index-entries-i.is))
          (run_more G made turns s (take i entries) before.trail (state_of c.loop-i.rest) e p before.run stepped.1));
      denied = did.denied ∙ (ap (λ (n : ℕ). n + p.outcome.denied) before.denied ∙ sym (denied_more before.trail p));
      peak_is = did.peak ∙ (ap (λ (n : ℕ). max n (live_bytes G handed p.after)) before.peak_is ∙ sym (peak_more G handed s before.trail p));
      sound = did.sound;
      next_few = omega arith;
      denied_few = omega arith;
    }
