use Rattle.std.proofs.Common.{◌≡◌, ℕ, ◌*◌, ◌<◌, length, slice_index}
use Rattle.wg_plan.proofs.planning.slots_of.Given as goal

abbrev pub invariant-loop-most : goal.invariant-loop-most
invariant-loop-most l =
    (length l.slots ≡ l.most-index)
    × ((v : ℕ) → v < l.most-index → slice_index l.slots v ≡ l.width * slice_index l.mosts v)
