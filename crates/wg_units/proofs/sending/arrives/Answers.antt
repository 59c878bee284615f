use Rattle.std.proofs.Common.{◌≡◌, ◌+◌, ◌-◌, ◌∙◌, ℕ, Option, Some, length, slice_get, unwrap_or, ap, sym, subst, arith}
use Rattle.wg_machine.specs.Unrolling.{unrolled}
use Rattle.wg_shapes.specs.Level.{top_levels}
use Rattle.wg_shapes.specs.ShapeOf.{arrival}
use Rattle.wg_shapes.proofs.Depths.{top_at}
use Rattle.wg_units.specs.Numbers.{first_unit, first_units, IsNodeBelow, IsPlaceOf}
use Rattle.wg_units.proofs.Counted.{count_tops}
use Rattle.wg_units.proofs.Placed.{at_own, at_other}
use Rattle.wg_units.proofs.sending.arrives.Goals as goal

pub returns-then-m-n : goal.returns-then-m-n
returns-then-m-n c nodes tops lt le below =
    let is : c.args.element ≡ Some c.in-Some.m = c.in-Some.is in
    subst (λ (e : Option ℕ). IsPlaceOf (unrolled 0 (top_levels nodes)) (arrival nodes c.args.n c.args.level e) (Some c.at.result)) (sym is)
    (at_other nodes c.args.levels.now.firsts c.args.n c.args.level c.in-Some.m c.at.result c.if-m-n.true (c.requires.lawful.firsts ∙ ap first_units tops) (subst (IsNodeBelow (length nodes)) is below) c.at.ensures)

pub returns : goal.returns
returns c nodes tops lt le below =
    let is : c.args.element ≡ Some c.in-Some.m = c.in-Some.is in
    let count = count_tops nodes in
    let same = ap length tops in
    let own = c.own_number.ensures.number (omega (arith, count, same, lt)) ∙ (ap (λ l. first_unit l c.args.n + (unwrap_or (slice_get l c.args.n) 0 - c.args.level)) tops ∙ ap (λ o. first_unit (top_levels nodes) c.args.n + (unwrap_or o 0 - c.args.level)) (top_at nodes c.args.n lt)) in
    subst (λ (e : Option ℕ). IsPlaceOf (unrolled 0 (top_levels nodes)) (arrival nodes c.args.n c.args.level e) (Some (c.own_number.result + 1))) (sym is)
    (at_own nodes c.args.n c.args.level c.in-Some.m c.own_number.result (c.own_number.result + 1) c.if-m-n.false c.if-level-eq0.false lt le own (omega arith))
