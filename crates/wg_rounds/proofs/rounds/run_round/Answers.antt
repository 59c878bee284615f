use Rattle.std.proofs.Common.{◌∙◌, subst, sym}
use Rattle.std.proofs.lemmas.Result.{err_from_is_err_and}
use Rattle.wg_rounds.specs.Ahead.{FailsToSettleAll, SettlesAll}
use Rattle.wg_rounds.specs.Ends.{KeepsOneEachRound, NoneIsShared, RoundEnds, RunsRound}
use Rattle.wg_rounds.proofs.Running.{each_opened, each_unopened, either_way, ends_part, ends_unopened, guessed_outs, kept_part, kept_unopened, kept_whole, on_err, on_ok, round_runs, same_shape, still_free}
use Rattle.wg_rounds.proofs.rounds.run_round.Goals as goal

pub returns-in_err-round-clause-ends : goal.returns-in_err-round-clause-ends
returns-in_err-round-clause-ends g c =
    let p = err_from_is_err_and c.from_residual.result c.from_residual.ensures.1 in
    rw (p.1, p.2) (ends_unopened (g.B.Bodies.made c.args.bodies.now) c.args.workers c.args.core.now c.open_round.new.core c.in_err-round.field-0.0 c.requires.free c.in_err-round.ensures.fails)

pub returns-in_err-round-clause-kept : goal.returns-in_err-round-clause-kept
returns-in_err-round-clause-kept g c = kept_unopened c.args.workers c.args.core.now c.open_round.new.core c.in_err-round.field-0.0 c.in_err-round.ensures.fails

pub returns-in_err-round-clause-alike : goal.returns-in_err-round-clause-alike
returns-in_err-round-clause-alike g c = λ quiet unshared. each_unopened c.args.workers c.args.core.now c.open_round.new.core c.in_err-round.field-0.0 c.in_err-round.ensures.fails

pub settle_round-requires-clause-graph : goal.settle_round-requires-clause-graph
settle_round-requires-clause-graph g c = c.requires.graph ∙ sym (same_shape (g.B.Bodies.made c.args.bodies.now) c.args.workers c.args.core.now c.open_round.new.core c.in_ok-round.round.items c.in_ok-round.ensures.opens)

pub settle_round-requires-clause-free : goal.settle_round-requires-clause-free
settle_round-requires-clause-free g c = still_free (g.B.Bodies.made c.args.bodies.now) c.args.workers c.args.core.now c.open_round.new.core c.in_ok-round.round.items c.in_ok-round.ensures.opens c.requires.free

pub settle_round-requires-clause-guessed : goal.settle_round-requires-clause-guessed
settle_round-requires-clause-guessed g c = guessed_outs (g.B.Bodies.made c.args.bodies.now) c.args.workers c.args.core.now c.open_round.new.core c.in_ok-round.round.items c.requires.none_out c.in_ok-round.ensures.opens

pub returns-clause-runs : goal.returns-clause-runs
returns-clause-runs g c =
    let made = g.B.Bodies.made c.args.bodies.now in
    let old = c.args.core.now in
    let mid = c.open_round.new.core in
    let new = c.settle_round.new.core in
    on_ok c.settle_round.result (SettlesAll made mid new) (RunsRound made c.args.workers old new) (λ s. round_runs made c.args.workers old mid new c.in_ok-round.round.items c.requires.none_out c.in_ok-round.ensures.opens s) c.settle_round.ensures.settles

pub returns-clause-ends : goal.returns-clause-ends
returns-clause-ends g c =
    let made = g.B.Bodies.made c.args.bodies.now in
    let old = c.args.core.now in
    let mid = c.open_round.new.core in
    let new = c.settle_round.new.core in
    on_err c.settle_round.result (FailsToSettleAll made mid new) (RoundEnds made c.args.workers old new) (λ w s. ends_part made c.args.workers old mid new c.in_ok-round.round.items w c.requires.none_out c.requires.free c.in_ok-round.ensures.opens s) c.settle_round.ensures.fails

pub returns-clause-kept : goal.returns-clause-kept
returns-clause-kept g c =
    let made = g.B.Bodies.made c.args.bodies.now in
    let old = c.args.core.now in
    let mid = c.open_round.new.core in
    let new = c.settle_round.new.core in
    let ahead = c.in_ok-round.round.items in
    either_way c.settle_round.result (SettlesAll made mid new) (KeepsOneEachRound c.args.workers old new) (FailsToSettleAll made mid new)
    (λ s. kept_whole made c.args.workers old mid new ahead c.requires.none_out c.in_ok-round.ensures.opens s)
    (λ w s. kept_part made c.args.workers old mid new ahead w c.requires.none_out c.in_ok-round.ensures.opens s)
    c.settle_round.ensures.settles c.settle_round.ensures.fails

pub returns-clause-alike : goal.returns-clause-alike
returns-clause-alike g c =
    let made = g.B.Bodies.made c.args.bodies.now in
    let old = c.args.core.now in
    let mid = c.open_round.new.core in
    let ahead = c.in_ok-round.round.items in
    let opens = c.in_ok-round.ensures.opens in
    λ quiet unshared.
    each_opened made c.args.workers old mid c.settle_round.new.core ahead opens
    (c.settle_round.ensures.alike (subst NoneIsShared (sym (same_shape made c.args.workers old mid ahead opens)) unshared) (c.in_ok-round.ensures.quiet quiet))
