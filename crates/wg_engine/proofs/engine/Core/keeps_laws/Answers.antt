use Rattle.std.proofs.Common.{refl, subst, IfSome}
use Rattle.wg_standing.specs.Core.{CoreView}
use Rattle.wg_standing.specs.Idle.{SomeIsOut}
use Rattle.wg_engine.proofs.Stopped.{stopped_out}
use Rattle.wg_engine.proofs.engine.Core.keeps_laws.Goals as goal

pub returns-clause-stopped_is_out : goal.returns-clause-stopped_is_out
returns-clause-stopped_is_out g c = subst (λ (n : CoreView). IfSome n.stopped (SomeIsOut n)) c.self.view_is (stopped_out _ c.self.inside.spent c.self.invariant refl)
