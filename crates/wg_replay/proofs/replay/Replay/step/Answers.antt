use Rattle.std.proofs.Common.{◌≡◌, ◌∙◌, ℕ, List, length, ap, subst, arith}
use Rattle.std.specs.Prelude.{if◌then◌else◌, ◌==◌}
use Rattle.wg_machine.specs.declared.memory.Write.{Write}
use Rattle.wg_machine.specs.declared.shape.Shape.{Shape}
use Rattle.wg_machine.specs.Buffers.{all_written}
use Rattle.wg_replay.specs.declared.ran.Ran.{Ran}
use Rattle.wg_replay.specs.Lines.{EntryRuns}
use Rattle.wg_replay.proofs.Going.{HasSettled, sends_few, steps_on}
use Rattle.wg_replay.proofs.replay.Replay.step.Goals as goal

pub settle-requires-clause-room : goal.settle-requires-clause-room
settle-requires-clause-room g c =
    let G = g.B.Bodies.graph c.args.bodies.now in
    let M = g.B.Bodies.made c.args.bodies.now in
    let s = c.requires.stands.0 in
    let at = c.requires.stands.1 in
    let runs = subst (λ (r : Ran). EntryRuns G M c.args.turns s c.args.entry.now r) c.in-Did.is (c.in_ok-run_entry.ensures s at) in
    let few = sends_few c.allowed_launches_fit.ensures c.few_are_sent.ensures G M c.args.turns s c.args.entry.now c.in-Did.made (all_written s.buffers c.in-Did.writes) c.requires.good
    (λ l m t f. g.met.B.Bodies.lawful c.args.bodies.now l m t c.requires.good f) at.fits runs in
    omega (arith, few)

pub returns-in_ok-settle-in-Did-clause-next : goal.returns-in_ok-settle-in-Did-clause-next
returns-in_ok-settle-in-Did-clause-next g c =
    let G = g.B.Bodies.graph c.args.bodies.now in
    let M = g.B.Bodies.made c.args.bodies.now in
    let s = c.requires.stands.0 in
    let at = c.requires.stands.1 in
    let runs = subst (λ (r : Ran). EntryRuns G M c.args.turns s c.args.entry.now r) c.in-Did.is (c.in_ok-run_entry.ensures s at) in
    let few = sends_few c.allowed_launches_fit.ensures c.few_are_sent.ensures G M c.args.turns s c.args.entry.now c.in-Did.made (all_written s.buffers c.in-Did.writes) c.requires.good
    (λ l m t f. g.met.B.Bodies.lawful c.args.bodies.now l m t c.requires.good f) at.fits runs in
    let next = c.in_ok-settle-in-Did.ensures.next in
    omega (arith, few, next)

pub returns-in_ok-settle-in-Did-clause-follows : goal.returns-in_ok-settle-in-Did-clause-follows
returns-in_ok-settle-in-Did-clause-follows g c = λ s at.
    (let G = g.B.Bodies.graph c.args.bodies.now in
    let M = g.B.Bodies.made c.args.bodies.now in
    let e = c.args.entry.now in
    let m = c.in-Did.made in
    let ws = c.in-Did.writes in
    let old = c.args.self.now in
    let new = c.settle.new.self in
    let runs = subst (λ (r : Ran). EntryRuns G M c.args.turns s e r) c.in-Did.is (c.in_ok-run_entry.ensures s at) in
    let did = c.in_ok-settle-in-Did.ensures in
    let outs = c.has_outs.ensures.0 c.if-not-has_outs.false in
    let n : c.len.result ≡ length m.sent = c.len.ensures in
    let settled : HasSettled G e m ws old new =
    subst (λ (x : Shape). HasSettled x e m ws old new) c.shape.ensures
    (subst (λ (x : List Write). HasSettled c.shape.result.now e m x old new) c.as_slice.ensures
    (record { keeps = did.keeps; next = did.next; buffers = did.buffers; denied = did.denied; peak = did.peak })) in
    steps_on G M c.args.turns s e old new m ws (λ lengths u f p fits step. c.steps_fit.ensures G M c.args.turns lengths u f p c.requires.good (λ l b t k. g.met.B.Bodies.lawful c.args.bodies.now l b t c.requires.good k) fits step)
    at runs settled (outs.0 ∙ ap (λ (k : ℕ). if k == 0 then 0 else old.records.next) n) (outs.1 ∙ n))
