use Rattle.std.proofs.Common.{◌≡◌, ◌∷◌, ◌++◌, [], arith, subst, sym}
use Rattle.std.proofs.lemmas.List.{nil_from_length}
use Rattle.wg_machine.specs.declared.shape.Shape.{Shape}
use Rattle.wg_guess.specs.Guesses.{IsTrueOf}
use Rattle.wg_rounds.proofs.Running.{SettlesSoFar, all_settled, next_first, next_is, none_so_far, one_settled, still_true}
use Rattle.wg_rounds.proofs.rounds.settle_round.Goals as goal

pub loop-next-init : goal.loop-next-init
loop-next-init g c =
    let made = g.B.Bodies.made c.args.bodies.now in
    let old = c.args.core.now in
    let all = c.args.round.items in
    ([], old.outs, subst (SettlesSoFar made old old [] old.outs all) (sym c.from_vec-queue.ensures.items) (none_so_far made old all c.requires.free c.requires.guessed), λ script start h. h)

pub settle_next-requires-clause-first : goal.settle_next-requires-clause-first
settle_next-requires-clause-first g c =
    let made = g.B.Bodies.made c.args.bodies.now in
    let i = c.loop-next.invariant in
    let x = subst (SettlesSoFar made c.args.core.now c.loop-next.core i.0 i.1 c.args.round.items) c.in-Some.ensures.items i.2 in
    next_first made c.args.core.now c.loop-next.core i.0 i.1 c.in-Some.next c.pop_front.new.self.items (next_is made c.args.core.now c.loop-next.core i.0 i.1 c.args.round.items c.in-Some.next c.pop_front.new.self.items x)

pub settle_next-requires-clause-truth : goal.settle_next-requires-clause-truth
settle_next-requires-clause-truth g c =
    let made = g.B.Bodies.made c.args.bodies.now in
    let i = c.loop-next.invariant in
    let x = subst (SettlesSoFar made c.args.core.now c.loop-next.core i.0 i.1 c.args.round.items) c.in-Some.ensures.items i.2 in
    subst (λ (s : Shape). IsTrueOf s made c.loop-next.core.limits.turns c.in-Some.next.guess) (sym c.requires.graph) (still_true made c.args.core.now c.loop-next.core i.0 i.1 c.args.round.items c.in-Some.next c.pop_front.new.self.items x)

pub loop-next-preserved : goal.loop-next-preserved
loop-next-preserved g c =
    let made = g.B.Bodies.made c.args.bodies.now in
    let old = c.args.core.now in
    let i = c.loop-next.invariant in
    let rest = c.pop_front.new.self.items in
    let x = subst (SettlesSoFar made old c.loop-next.core i.0 i.1 c.args.round.items) c.in-Some.ensures.items i.2 in
    let n = next_is made old c.loop-next.core i.0 i.1 c.args.round.items c.in-Some.next rest x in (
      i.0 ++ n.pending ∷ [],
      n.others,
      one_settled c.unshared_stay.ensures made old c.loop-next.core c.settle_next.new.core i.0 i.1 c.args.round.items c.in-Some.next rest c.keeps_laws.ensures.placed x n c.in_ok-settle_next.ensures.settles (λ of. c.in_ok-settle_next.ensures.keeps of),
      λ script start h. c.settle_next.ensures.stands script start (i.3 script start h),
    )

pub returns-clause-settles : goal.returns-clause-settles
returns-clause-settles g c =
    let made = g.B.Bodies.made c.args.bodies.now in
    let i = c.loop-next.invariant in
    let none : c.loop-next.queue.items ≡ [] = nil_from_length c.loop-next.queue.items (omega (arith, c.in_default.ensures.cases.0, c.loop-next.queue.ok.0)) in
    all_settled made c.args.core.now c.loop-next.core i.0 i.1 c.args.round.items (subst (SettlesSoFar made c.args.core.now c.loop-next.core i.0 i.1 c.args.round.items) none i.2)
