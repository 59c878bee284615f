use Rattle.std.proofs.Common.{sym, ap}
use Rattle.wg_code.specs.Given.{scope_of}
use Rattle.wg_code.specs.Valid.{Judged}
use Rattle.wg_code.proofs.NotRecords.{not_records}
use Rattle.wg_code.proofs.leaves.record_fits.Goals as goal

pub returns-in_default : goal.returns-in_default
returns-in_default c =
    sym (ap (λ (j : Judged). j c.args.in_loop) (not_records (scope_of c.args.k.now) c.args.op.now (record { not_Valid = c.in_default.not-Valid; not_Request = c.in_default.not-Request; not_Increment = c.in_default.not-Increment; not_RecordGet = c.in_default.not-RecordGet; not_RecordPut = c.in_default.not-RecordPut; not_Complete = c.in_default.not-Complete })))
