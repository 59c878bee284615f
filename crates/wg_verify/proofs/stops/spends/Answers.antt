use Rattle.std.proofs.Common.{subst}
use Rattle.wg_replay.specs.declared.ran.Ran.{Ran}
use Rattle.wg_replay.specs.Lines.{EntryRuns}
use Rattle.wg_verify.proofs.Spending.{spends_only}
use Rattle.wg_verify.proofs.stops.spends.Goals as goal

pub returns : goal.returns
returns g c = λ s at.
    (let G = g.B.Bodies.graph c.args.bodies.now in
    let M = g.B.Bodies.made c.args.bodies.now in
    let e = c.args.entry.now in
    let runs = c.in_ok-ran.ensures s at in (
      λ t. subst (λ (r : Ran). EntryRuns G M c.args.turns s e r) (c.is_spent.ensures.0 t) runs,
      λ spent. c.is_spent.ensures.1 (spends_only c.allowed_is_launch_in.ensures G M c.args.turns s e c.in_ok-ran.ran runs spent),
    ))
