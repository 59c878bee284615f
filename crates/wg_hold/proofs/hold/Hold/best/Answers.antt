use Rattle.std.proofs.Common.{List, subst}
use Rattle.wg_store.specs.declared.item.Item.{Item as ItemOf}
use Rattle.wg_store.specs.Best.{IsBestOf}
use Rattle.wg_hold.specs.Held.{Held}
use Rattle.wg_hold.proofs.Scans.{best_left}
use Rattle.wg_hold.proofs.hold.Hold.best.Goals as goal

pub returns : goal.returns
returns c =
    let i = c.self.inside in
    let best = best_left i.shape i.room c.scan.result.now c.best_unit.result c.scan.ensures.ends c.best_unit.ensures in
    subst (λ (h : Held). IsBestOf h.shape h.room h.items c.best_unit.result) c.self.view_is (subst (λ (xs : List ItemOf). IsBestOf i.shape i.room xs c.best_unit.result) c.scan.ensures.live best)
