use Rattle.std.proofs.Common.{◌+◌, ℕ, ap, refl}
use Rattle.wg_records.proofs.Keeping.{empty_put, full_put}
use Rattle.wg_records.proofs.Loops.{positive}
use Rattle.wg_records.proofs.live.LiveRecords.put.Goals as goal

pub returns-then-slot-eq0-clause-keeps : goal.returns-then-slot-eq0-clause-keeps
returns-then-slot-eq0-clause-keeps c = λ bag keeps.
    empty_put c.args.shape.now c.args.self.now _ bag c.args.sent.now c.in_ok-slot.slot c.in_ok-slot.ensures c.if-slot-eq0.true keeps refl refl (λ q. refl) refl

pub returns-clause-keeps : goal.returns-clause-keeps
returns-clause-keeps c = λ bag keeps.
    full_put c.args.shape.now c.args.self.now _ bag c.args.sent.now c.in_ok-slot.slot c.in_ok-slot.ensures (positive c.in_ok-slot.slot.left c.if-slot-eq0.false) keeps refl refl c.in_ok-insert.ensures.updates.0
    (ap (λ (n : ℕ). c.args.self.now.bytes + n) c.bytes_at-bytes.ensures)
