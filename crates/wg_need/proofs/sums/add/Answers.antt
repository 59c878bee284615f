use Rattle.std.proofs.Common.{◌<◌, length, ap, refl, ◌∙◌, arith, length-append}
use Rattle.wg_need.proofs.Adding.{sum_pushed, sum_raised}
use Rattle.wg_need.proofs.sums.add.Goals as goal

pub returns-in_ok-push-clause-sums : goal.returns-in_ok-push-clause-sums
returns-in_ok-push-clause-sums c v h =
    let longer = ap length c.in_ok-push.ensures.items in
    let more = length-append c.args.needs.now.items in
    let later : c.args.start < c.len.result = omega (arith, c.len.ensures, longer, more, c.requires.open.begun) in
    rw c.in_ok-push.ensures.items
    (sum_pushed c.args.budget c.args.start c.args.seen.now c.args.needs.now.items c.args.target v _ _
    c.requires.open.begun (omega arith) (omega arith) refl c.from.ensures later refl)

pub returns-then-seen-unit-clause-sums : goal.returns-then-seen-unit-clause-sums
returns-then-seen-unit-clause-sums c v h =
    sum_raised c.args.budget c.args.start c.args.seen.now c.args.needs.now.items c.args.target v _ c.index_mut.result.now _ _
    (omega arith) (omega arith) (omega (arith, c.requires.open.low c.args.target)) (c.requires.open.own c.args.target (omega arith) _) (λ e. absurd (omega (arith, c.if-seen-unit.true, e)))
    (ap (λ n. n.unit) c.index_mut.ensures.value ∙ c.requires.open.own c.args.target (omega arith) _)
    (omega (arith, c.from-then-seen-unit.ensures, ap (λ n. n.records) c.index_mut.ensures.value)) (omega arith) refl
