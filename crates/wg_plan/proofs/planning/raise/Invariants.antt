use Rattle.std.proofs.Common.{◌≡◌, ℕ, max, slice_index, drop}
use Rattle.wg_need.specs.Rows.{need_in}
use Rattle.wg_plan.proofs.planning.raise.Given as goal

-- the numbers so far, raised to the needs that are left, are those raised to all
abbrev pub invariant-loop-need : goal.invariant-loop-need
invariant-loop-need l =
    (v : ℕ) → max (slice_index l.mosts v) (need_in (drop l.need-index l.needs) v) ≡ max (slice_index l.initial.mosts v) (need_in l.needs v)
