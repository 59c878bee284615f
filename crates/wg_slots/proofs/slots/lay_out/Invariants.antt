use Rattle.wg_slots.proofs.Rows.{UnitsSoFar}
use Rattle.wg_slots.proofs.slots.lay_out.Given as goal

-- the rows of the units so far end where the next begins
abbrev pub invariant-loop-unit : goal.invariant-loop-unit
invariant-loop-unit l = UnitsSoFar l.counts l.words l.units.items l.unit l.first
