use Rattle.std.proofs.Common.{◌<◌, arith}
use Rattle.wg_room.proofs.Rows.{need_within}
use Rattle.wg_room.proofs.room.Room.new.Goals as goal

pub returns-clause-within : goal.returns-clause-within
returns-clause-within c = λ u v some.
    let w = need_within _ c.in_ok-needs_of.field-0 u v c.in_ok-needs_of.ensures.sound some in
    let n = c.requires.count in
    omega (arith, w, n)
