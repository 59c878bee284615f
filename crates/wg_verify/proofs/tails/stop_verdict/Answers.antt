use Rattle.std.proofs.Common.{refl}
use Rattle.wg_verify.proofs.tails.stop_verdict.Goals as goal

pub returns-then-right : goal.returns-then-right
returns-then-right g c = λ handed bytes s at. (c.in-Ok.ensures handed bytes s at).0 c.if-right.true

pub returns : goal.returns
returns g c = λ handed bytes s at. (
  refl,
  λ right. (let t = (c.in-Ok.ensures handed bytes s at).1 right in
      let f = c.if-right.false in
      cc),
)
