use Rattle.std.proofs.Common.{◌≡◌, length, arith}
use Rattle.wg_need.proofs.Adding.{sound_row}
use Rattle.wg_need.proofs.sums.sum_up.Goals as goal

pub returns-clause-sound : goal.returns-clause-sound
returns-clause-sound c =
    let e : c.len-start.result ≡ length c.args.needs.now.items = omega (arith, c.len-start.ensures, c.args.needs.now.ok) in
    let row = rw e at c.loop-number.invariant.0 in
    rw c.loop-number.auto.seen at (sound_row _ c.loop-number.number c.loop-number.seen c.loop-number.needs.items row)
