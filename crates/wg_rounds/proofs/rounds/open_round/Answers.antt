use Rattle.std.proofs.Common.{◌≡◌, ◌∙◌, [], ◌∷◌, ◌++◌, IfSome, List, Option, ap, length, subst, sym, arith}
use Rattle.std.proofs.lemmas.List.{length_push}
use Rattle.std.proofs.lemmas.Result.{err_from_is_err_and}
use Rattle.wg_rounds.specs.declared.ahead.Ahead.{Ahead}
use Rattle.wg_rounds.specs.Ahead.{NothingRead, OpensAhead}
use Rattle.wg_rounds.proofs.Opening.{OpensSoFar, fails_round, opens_ahead, opens_some, nothing_more, round_full, round_less, so_far_free, so_far_shape}
use Rattle.wg_rounds.proofs.rounds.open_round.Goals as goal

pub open_next-requires-clause-graph : goal.open_next-requires-clause-graph
open_next-requires-clause-graph g c =
    let i = c.loop-core.invariant in
    c.requires.graph ∙ sym (so_far_shape (g.B.Bodies.made c.args.bodies.now) c.args.core.now c.loop-core.core i.0 c.loop-core.round.items i.1)

pub open_next-requires-clause-free : goal.open_next-requires-clause-free
open_next-requires-clause-free g c =
    let i = c.loop-core.invariant in
    so_far_free (g.B.Bodies.made c.args.bodies.now) c.args.core.now c.loop-core.core i.0 c.loop-core.round.items i.1 ∙ c.requires.free

pub returns-in_err-next-clause-fails : goal.returns-in_err-next-clause-fails
returns-in_err-next-clause-fails g c =
    let i = c.loop-core.invariant in
    let p = err_from_is_err_and c.from_residual.result c.from_residual.ensures.1 in
    rw (p.1, p.2) (fails_round c.args.workers (g.B.Bodies.made c.args.bodies.now) c.args.core.now c.loop-core.core c.open_next.new.core i.0 c.loop-core.round.items c.in_err-next.field-0.0 i.1 (omega (arith, c.loop-core-test.true, c.len.ensures, c.loop-core.round.ok.0)) c.in_err-next.ensures.fails)

pub returns-in_default-clause-opens : goal.returns-in_default-clause-opens
returns-in_default-clause-opens g c =
    let made = g.B.Bodies.made c.args.bodies.now in
    let i = c.loop-core.invariant in
    let o = subst (OpensAhead made c.loop-core.core c.open_next.new.core) c.in_default.is c.in_ok-next.ensures.opens in
    round_less made c.args.workers c.args.core.now c.loop-core.core c.open_next.new.core i.0 c.loop-core.round.items c.requires.none_out i.1 (omega (arith, c.loop-core-test.true, c.len.ensures, c.loop-core.round.ok.0)) o

pub returns-in_default-push-clause-fails : goal.returns-in_default-push-clause-fails
returns-in_default-push-clause-fails g c =
    let made = g.B.Bodies.made c.args.bodies.now in
    let i = c.loop-core.invariant in
    let o = subst (OpensAhead made c.loop-core.core c.open_next.new.core) c.in-Some.is c.in_ok-next.ensures.opens in
    opens_some c.args.workers made c.args.core.now c.loop-core.core c.open_next.new.core i.0 c.loop-core.round.items c.in-Some.next i.1 (omega (arith, c.loop-core-test.true, c.len.ensures, c.loop-core.round.ok.0)) o

pub returns-in_default-push-clause-stands : goal.returns-in_default-push-clause-stands
returns-in_default-push-clause-stands g c =
    let i = c.loop-core.invariant in
    λ made script start h. c.open_next.ensures.stands made script start (i.4 made script start h)

pub loop-core-preserved : goal.loop-core-preserved
loop-core-preserved g c =
    let made = g.B.Bodies.made c.args.bodies.now in
    let i = c.loop-core.invariant in
    let o = subst (OpensAhead made c.loop-core.core c.open_next.new.core) c.in-Some.is c.in_ok-next.ensures.opens in
    let items = c.in-Ok.ensures.items in
    let long = ap (λ (l : List Ahead). length l) items ∙ length_push c.loop-core.round.items c.in-Some.next in (
      i.0 ++ o.0 ∷ [],
      subst (OpensSoFar made c.args.core.now c.open_next.new.core (i.0 ++ o.0 ∷ [])) (sym items) (opens_ahead made c.args.core.now c.loop-core.core c.open_next.new.core i.0 c.loop-core.round.items c.in-Some.next i.1 o),
      omega (arith, long, c.loop-core-test.true, c.len.ensures, c.loop-core.round.ok.0),
      λ q. subst NothingRead (sym items) (nothing_more c.loop-core.round.items c.in-Some.next (i.3 q) (subst (λ (r : Option Ahead). IfSome r (λ (a : Ahead). a.guess.log ≡ [])) c.in-Some.is (c.in_ok-next.ensures.quiet q))),
      λ made script start h. c.open_next.ensures.stands made script start (i.4 made script start h),
    )

pub returns-clause-opens : goal.returns-clause-opens
returns-clause-opens g c =
    let i = c.loop-core.invariant in
    let le = i.2 in
    round_full (g.B.Bodies.made c.args.bodies.now) c.args.workers c.args.core.now c.loop-core.core i.0 c.loop-core.round.items c.requires.some i.1 (omega (arith, le, c.loop-core-test.false, c.len.ensures, c.loop-core.round.ok.0))
