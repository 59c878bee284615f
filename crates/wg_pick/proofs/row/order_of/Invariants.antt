use Rattle.wg_pick.proofs.Orders.{AreRanked}
use Rattle.wg_pick.proofs.row.order_of.Given as goal

-- the units so far with their depths
abbrev pub invariant-loop-unit : goal.invariant-loop-unit
invariant-loop-unit l = AreRanked (λ r. r.0.0) (λ r. r.1) l.depths l.unit l.ranked.items
