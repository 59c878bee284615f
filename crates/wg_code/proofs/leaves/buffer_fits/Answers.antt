use Rattle.std.proofs.Common.{sym, ap, ◌∙◌}
use Rattle.wg_code.specs.Given.{scope_of}
use Rattle.wg_code.specs.Valid.{Judged}
use Rattle.wg_code.proofs.NotBuffers.{not_buffers}
use Rattle.wg_code.proofs.leaves.buffer_fits.Goals as goal

pub returns-in_default : goal.returns-in_default
returns-in_default c =
    c.record_fits.ensures ∙ sym (ap (λ (j : Judged). j c.args.in_loop) (not_buffers (scope_of c.args.k.now) c.args.op.now (record { not_BufferGet = c.in_default.not-BufferGet; not_BufferPut = c.in_default.not-BufferPut; not_BufferAdd = c.in_default.not-BufferAdd; not_BufferAtomic = c.in_default.not-BufferAtomic; not_BufferLength = c.in_default.not-BufferLength })))
