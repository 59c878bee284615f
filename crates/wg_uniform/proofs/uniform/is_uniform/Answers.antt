use Rattle.std.proofs.Common.{subst}
use Rattle.wg_uniform.specs.OneValue.{HasOneValue}
use Rattle.wg_uniform.proofs.uniform.is_uniform.Goals as goal

pub returns-clause-one : goal.returns-clause-one
returns-clause-one c = λ holds. subst (λ u. HasOneValue u c.args.condition.now) c.of.ensures (c.is_uniform_in.ensures.one holds)
