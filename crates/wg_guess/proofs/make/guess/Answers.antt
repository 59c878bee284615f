use Rattle.std.proofs.Common.{rules, ◌≡◌, ◌∙◌, ap, sym, length, List, ℕ}
use Rattle.wg_machine.specs.Agreement.{Trace}
use Rattle.wg_machine.specs.Buffers.{Buffers, lengths_of}
use Rattle.wg_guess.proofs.Truth.{makes_true, spends_true}
use Rattle.wg_guess.proofs.Words.{length_of_lengths}
use Rattle.wg_guess.proofs.make.guess.Goals as goal

pub returns-in-Ok-launch-clause-truth : goal.returns-in-Ok-launch-clause-truth
returns-in-Ok-launch-clause-truth g c =
    let V = g.V.View.buffers in
    let G = g.B.Bodies.graph c.args.bodies.now in
    let old : Trace = record { over = V c.new-trial.result.view.now; log = c.new-trial.result.log.items; writes = c.new-trial.result.writes.items } in
    let new : Trace = record { over = V c.launch.new.mem.view.now; log = c.launch.new.mem.log.items; writes = c.launch.new.mem.writes.items } in
    let over : V c.launch.new.mem.view.now ≡ V c.args.view.now = c.in-Ok-launch.ensures.grows.over ∙ ap V c.new-trial.ensures.view in
    let took = c.guessed_from.ensures in
    let lengths : c.guessed_from.result.lengths ≡ lengths_of (V c.args.view.now) = took.lengths ∙ c.in-Ok.ensures in
    makes_true G (g.B.Bodies.made c.args.bodies.now) c.args.turns c.args.launch old new c.in-Ok-launch.made c.guessed_from.result c.in-Ok-launch.ensures.makes c.new-trial.ensures.writes (record {
      many = ap (λ (ns : List ℕ). length ns) lengths ∙ length_of_lengths (V c.args.view.now) ∙ c.requires.many;
      launch_is = took.launch;
      lengths = lengths ∙ ap (λ (m : Buffers). lengths_of m) (sym over);
      log = took.log;
      writes = took.writes;
      answer_is = took.answer;
    })

pub returns-in-Err-Turns-clause-truth : goal.returns-in-Err-Turns-clause-truth
returns-in-Err-Turns-clause-truth g c =
    let V = g.V.View.buffers in
    let G = g.B.Bodies.graph c.args.bodies.now in
    let old : Trace = record { over = V c.new-trial.result.view.now; log = c.new-trial.result.log.items; writes = c.new-trial.result.writes.items } in
    let new : Trace = record { over = V c.launch.new.mem.view.now; log = c.launch.new.mem.log.items; writes = c.launch.new.mem.writes.items } in
    let grows = c.in-Err-Turns.ensures.grows_when_spent (search rules) in
    let over : V c.launch.new.mem.view.now ≡ V c.args.view.now = grows.over ∙ ap V c.new-trial.ensures.view in
    let took = c.guessed_from-in-Err-Turns.ensures in
    let lengths : c.guessed_from-in-Err-Turns.result.lengths ≡ lengths_of (V c.args.view.now) = took.lengths ∙ c.in-Ok.ensures in
    spends_true G (g.B.Bodies.made c.args.bodies.now) c.args.turns c.args.launch old new c.guessed_from-in-Err-Turns.result (c.in-Err-Turns.ensures.spends (search rules)) c.new-trial.ensures.writes (record {
      many = ap (λ (ns : List ℕ). length ns) lengths ∙ length_of_lengths (V c.args.view.now) ∙ c.requires.many;
      launch_is = took.launch;
      lengths = lengths ∙ ap (λ (m : Buffers). lengths_of m) (sym over);
      log = took.log;
      writes = took.writes;
      answer_is = took.answer;
    })
