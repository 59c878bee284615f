use Rattle.std.proofs.Common.{sym, ap, ◌∙◌}
use Rattle.wg_code.specs.Given.{scope_of}
use Rattle.wg_code.specs.Valid.{Judged}
use Rattle.wg_code.proofs.NotShared.{not_shared}
use Rattle.wg_code.proofs.leaves.shared_fits.Goals as goal

pub returns-in_default : goal.returns-in_default
returns-in_default c =
    c.buffer_fits.ensures ∙ sym (ap (λ (j : Judged). j c.args.in_loop) (not_shared (scope_of c.args.k.now) c.args.op.now (record { not_SharedGet = c.in_default.not-SharedGet; not_SharedPut = c.in_default.not-SharedPut; not_SharedAtomic = c.in_default.not-SharedAtomic })))
