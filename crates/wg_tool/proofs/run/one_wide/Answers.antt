use Rattle.std.proofs.Common.{◌≤◌, None, arith, subst, sym}
use Rattle.std.proofs.lemmas.Option.{none-some}
use Rattle.wg_machine.specs.declared.shape.Shape.{Shape}
use Rattle.wg_machine.specs.Bytes.{least}
use Rattle.wg_machine.specs.GoodShape.{IsGoodShape}
use Rattle.wg_plan.specs.declared.answer.PlanFault.{PlanFault}
use Rattle.wg_plan.specs.Plan.{IsCause}
use Rattle.wg_tool.proofs.GoodShapes.{good_shape}
use Rattle.wg_tool.proofs.PlanLemmas.{least_few}
use Rattle.wg_tool.proofs.run.one_wide.Goals as goal

pub plan-requires-clause-small : goal.plan-requires-clause-small
plan-requires-clause-small c = c.good_shapes_are_small.ensures c.args.shape.now (subst (λ (s : Shape). IsGoodShape s) (sym c.requires.2) (good_shape c.requires.0 c.requires.1))

pub unreachable-requires : goal.unreachable-requires
unreachable-requires c =
    let e = c.in-Err-TooSmall in
    let cause = subst (λ (f : PlanFault). IsCause None 1 (least c.args.shape.now) f) e.field-0-is e.ensures.causes in
    none-some e.field-0-1 cause.0

pub unreachable-requires-in-Err-TooLarge : goal.unreachable-requires-in-Err-TooLarge
unreachable-requires-in-Err-TooLarge c =
    let e = c.in-Err-TooLarge in
    let cause = subst (λ (f : PlanFault). IsCause None 1 (least c.args.shape.now) f) e.field-0-is e.ensures.causes in
    let few = subst (λ (s : Shape). least s ≤ 128) (sym c.requires.2) (least_few c.requires.0 c.requires.1) in
    let more = cause.2 in
    omega (arith, few, more)
