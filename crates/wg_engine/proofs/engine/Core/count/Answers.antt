use Rattle.std.proofs.Common.{◌<◌, length, sym, subst}
use Rattle.wg_standing.specs.Core.{CoreView}
use Rattle.wg_engine.specs.Inside.{core_of}
use Rattle.wg_engine.proofs.Settlings.{counted_sound}
use Rattle.wg_engine.proofs.engine.Core.count.Goals as goal

pub invariant_of-self : goal.invariant_of-self
invariant_of-self g c =
    let s = c.self.inside in
    let core : CoreView = core_of (g.K.Keeping.seen s.keep) s.buffers s.denied s.peak s.kept s.spent in
    counted_sound c.keepings_place.ensures core s.spent c.self.invariant (subst (λ (n : CoreView). n.kept < length n.journal) (sym c.self.view_is) c.requires)
