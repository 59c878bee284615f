use Rattle.std.proofs.Common.{◌≡◌, ℕ, ◌+◌, slice_index, drop}
use Rattle.wg_need.specs.Rows.{need_in}
use Rattle.wg_room.proofs.room.reserve_all.Given as goal

-- what is reserved, with what is left to add
abbrev pub invariant-loop-need : goal.invariant-loop-need
invariant-loop-need l =
    (v : ℕ) → slice_index l.reserved v + need_in (drop l.need-index l.needs) v ≡ slice_index l.initial.reserved v + need_in l.needs v
