use Rattle.std.proofs.Common.{subst}
use Rattle.std.specs.Prelude.{IfSome}
use Rattle.wg_store.specs.Keep.{Kept}
use Rattle.wg_engine.specs.Calls.{IsFirstOut}
use Rattle.wg_kept.proofs.Pendings.{first_some}
use Rattle.wg_kept.proofs.keep.KeepKeeping.first_out.Goals as goal

pub returns-clause-some : goal.returns-clause-some
returns-clause-some c =
    let s = c.self.inside in
    subst (λ (n : Kept). IfSome c.first.result (IsFirstOut n.outs)) c.self.view_is (first_some s.outs c.first.result c.self.invariant.named c.first.ensures.some)
