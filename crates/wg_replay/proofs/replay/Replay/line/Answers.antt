use Rattle.std.proofs.Common.{◌<◌, arith}
use Rattle.std.proofs.lemmas.Result.{err_from_is_err_and}
use Rattle.wg_replay.proofs.Going.{no_step_fault}
use Rattle.wg_replay.proofs.replay.Replay.line.Goals as goal

pub returns-in_err-step-clause-fault : goal.returns-in_err-step-clause-fault
returns-in_err-step-clause-fault g c =
    let p = err_from_is_err_and c.from_residual.result c.from_residual.ensures.1 in
    let place : c.args.before < c.args.limits.now.launches = omega arith in
    rw (p.1, p.2) (λ s at. no_step_fault _ c.args.before s c.args.entry.now c.in_err-step.field-0.0 place (c.in_err-step.ensures.fault s at))
