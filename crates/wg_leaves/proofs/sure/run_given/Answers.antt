use Rattle.wg_registers.specs.Given.{around_of}
use Rattle.wg_leaves.specs.Leaves.{given_does}
use Rattle.wg_leaves.proofs.Leaf.{makes_nothing}
use Rattle.wg_leaves.proofs.NotGiven.{not_given}
use Rattle.wg_leaves.proofs.sure.run_given.Goals as goal

pub returns-in_default : goal.returns-in_default
returns-in_default c = λ s. makes_nothing (given_does (around_of c.args.around.now) c.args.op.now) (not_given (around_of c.args.around.now) c.args.op.now (record { not_Level = c.in_default.not-Level; not_System = c.in_default.not-System; not_Last = c.in_default.not-Last; not_Valid = c.in_default.not-Valid })) c.args.registers.now s
