use Rattle.std.proofs.Common.{◌≡◌, take}
use Rattle.wg_slots.specs.SlotsOf.{slots_at, waiting_of}
use Rattle.wg_keep.proofs.records.front_records.Given as goal

abbrev pub invariant-loop-place : goal.invariant-loop-place
invariant-loop-place l = l.records ≡ take l.place (waiting_of (slots_at l.slots l.unit))
