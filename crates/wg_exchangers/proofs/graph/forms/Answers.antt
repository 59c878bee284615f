use Rattle.std.proofs.Common.{◌≡◌, ℕ, false, subst, sym}
use Rattle.wg_machine.specs.declared.shape.Shape.{Shape}
use Rattle.wg_machine.specs.GoodShape.{IsGoodShape}
use Rattle.wg_machine.specs.Units.{shared_at}
use Rattle.wg_exchangers.proofs.GoodGraph.{forms_good, forms_unshared}
use Rattle.wg_exchangers.proofs.graph.forms.Goals as goal

pub returns-clause-good : goal.returns-clause-good
returns-clause-good c = subst IsGoodShape (sym c.in_ok-shape.ensures) forms_good

pub returns-clause-none_shared : goal.returns-clause-none_shared
returns-clause-none_shared c = subst (λ (s : Shape). (u : ℕ) → shared_at s u ≡ false) (sym c.in_ok-shape.ensures) forms_unshared
