use Rattle.std.proofs.Common.{ap, sym, ◌∙◌}
use Rattle.wg_typed.specs.Uniform.{Spread}
use Rattle.wg_uniform.proofs.Alike.{one_value}
use Rattle.wg_uniform.proofs.uniform.is_uniform_in.Goals as goal

pub returns-clause-one : goal.returns-clause-one
returns-clause-one c = λ holds. one_value _ _ (ap (λ (z : Spread). z.whole) (sym c.spread.ensures) ∙ holds)
