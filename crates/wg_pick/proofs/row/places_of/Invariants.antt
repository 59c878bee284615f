use Rattle.wg_pick.proofs.Orders.{ArePlaced}
use Rattle.wg_pick.proofs.row.places_of.Given as goal

-- the units of the first places have theirs
abbrev pub invariant-loop-place : goal.invariant-loop-place
invariant-loop-place l = ArePlaced l.order l.places.items l.place
