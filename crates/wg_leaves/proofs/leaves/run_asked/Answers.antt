use Rattle.std.proofs.Common.{false}
use Rattle.wg_code.specs.Functions.{missing}
use Rattle.wg_code.specs.OpMeaning.{does}
use Rattle.wg_code.specs.declared.op.Op.TheOpen.{Op-F}
use Rattle.wg_registers.specs.Given.{around_of}
use Rattle.wg_leaves.specs.Leaves.{asked_does, sure_does}
use Rattle.wg_leaves.proofs.Leaf.{makes, asked_Request, asked_Increment}
use Rattle.wg_leaves.proofs.NotRequests.{not_requests}
use Rattle.wg_leaves.proofs.leaves.run_asked.Goals as goal

pub returns-in_ok-request-in-Request-clause-makes : goal.returns-in_ok-request-in-Request-clause-makes
returns-in_ok-request-in-Request-clause-makes c =
    makes (asked_does (around_of c.args.around.now) c.args.op.now) (does (around_of c.args.around.now) (λ f. missing false) (Op-F.Request c.in-Request.handle c.in-Request.element c.in-Request.amount)) (asked_Request (around_of c.args.around.now) c.args.op.now c.in-Request.handle c.in-Request.element c.in-Request.amount c.in-Request.is) c.args.registers.now c.args.s.now c.args.registers.now c.request.new.s c.in_ok-request-in-Request.ensures.makes

pub returns-in_ok-increment-in-Increment-clause-makes : goal.returns-in_ok-increment-in-Increment-clause-makes
returns-in_ok-increment-in-Increment-clause-makes c =
    makes (asked_does (around_of c.args.around.now) c.args.op.now) (does (around_of c.args.around.now) (λ f. missing false) (Op-F.Increment c.in-Increment.output c.in-Increment.element c.in-Increment.amount)) (asked_Increment (around_of c.args.around.now) c.args.op.now c.in-Increment.output c.in-Increment.element c.in-Increment.amount c.in-Increment.is) c.args.registers.now c.args.s.now c.args.registers.now c.increment.new.s c.in_ok-increment-in-Increment.ensures.makes

pub returns-in_default-clause-makes : goal.returns-in_default-clause-makes
returns-in_default-clause-makes c =
    makes (asked_does (around_of c.args.around.now) c.args.op.now) (sure_does (around_of c.args.around.now) c.args.op.now) (not_requests (around_of c.args.around.now) c.args.op.now (record { not_InputCount = c.in_default.not-InputCount; not_Request = c.in_default.not-Request; not_Increment = c.in_default.not-Increment })) c.args.registers.now c.args.s.now c.run_sure.new.registers c.run_sure.new.s c.run_sure.ensures.makes
