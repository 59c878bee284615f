use Rattle.std.proofs.Common.{[], ◌∷◌, ◌++◌, refl, subst, sym}
use Rattle.wg_rounds.specs.Ends.{NoneIsShared}
use Rattle.wg_rounds.proofs.Running.{each_then, one_round_more, ran_none, run_ends}
use Rattle.wg_rounds.proofs.rounds.run_rounds.Goals as goal

pub loop-why-init : goal.loop-why-init
loop-why-init g c = ([], ran_none (g.B.Bodies.made c.args.bodies.now) c.args.workers c.args.core c.requires.none_out c.keeps_laws.ensures.stopped_is_out, λ quiet unshared. refl, λ script start h. h)

pub returns-in-Err-clause-ends : goal.returns-in-Err-clause-ends
returns-in-Err-clause-ends g c =
    let i = c.loop-why.invariant in
    run_ends (g.B.Bodies.made c.args.bodies.now) c.args.workers c.args.core c.loop-why.core c.run_round.new.core i.0 c.in-Err.why i.1 c.in-Err.ensures.ends

pub loop-why-preserved : goal.loop-why-preserved
loop-why-preserved g c =
    let made = g.B.Bodies.made c.args.bodies.now in
    let i = c.loop-why.invariant in
    let r = c.in_default.ensures.runs in (
      i.0 ++ r.os ∷ [],
      one_round_more made c.args.workers c.args.core c.loop-why.core c.run_round.new.core i.0 i.1 r c.run_round.ensures.kept,
      λ quiet unshared. each_then c.args.core c.loop-why.core c.run_round.new.core (i.2 quiet unshared) (c.run_round.ensures.alike quiet (subst NoneIsShared (sym i.1.shape) unshared)),
      λ script start h. c.run_round.ensures.stands script start (i.3 script start h),
    )
