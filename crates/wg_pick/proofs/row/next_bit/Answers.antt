use Rattle.std.proofs.Common.{◌^◌, arith}
use Rattle.std.proofs.Math.Nat.{div-le_self}
use Rattle.wg_pick.proofs.Flags.{no_bit, first_bit}
use Rattle.wg_pick.proofs.row.next_bit.Goals as goal

pub returns-then-rest-eq0 : goal.returns-then-rest-eq0
returns-then-rest-eq0 c = no_bit c.args.word c.args.low c.if-rest-eq0.true

pub returns-else-rest-eq0 : goal.returns-else-rest-eq0
returns-else-rest-eq0 c =
    first_bit c.args.word c.args.low c.ranges.word.fits (omega (arith, div-le_self c.args.word (2 ^ c.args.low), c.ranges.word.fits)) (omega (arith, c.if-rest-eq0.false))
