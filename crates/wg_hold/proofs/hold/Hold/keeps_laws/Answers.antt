use Rattle.std.proofs.Common.{subst}
use Rattle.wg_hold.specs.Held.{IsHeldSound}
use Rattle.wg_hold.proofs.Holding.{held_sound}
use Rattle.wg_hold.proofs.hold.Hold.keeps_laws.Goals as goal

pub returns : goal.returns
returns c = subst IsHeldSound c.self.view_is (held_sound c.self.inside.shape c.self.inside.rows c.self.inside.room c.self.inside.bytes c.self.invariant c.keeps_laws.ensures.rises c.keeps_laws.ensures.left)
