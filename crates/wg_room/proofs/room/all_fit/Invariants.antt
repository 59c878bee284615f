use Rattle.std.proofs.Common.{ℕ, ◌<◌, get_or}
use Rattle.wg_need.specs.declared.table.Need.{Need}
use Rattle.wg_room.specs.Sound.{IsMet}
use Rattle.wg_room.proofs.room.all_fit.Given as goal

-- the needs so far are met
abbrev pub invariant-loop-need : goal.invariant-loop-need
invariant-loop-need l =
    (k : ℕ) → k < l.need-index → (d : Need) → IsMet l.bounds l.used l.reserved (get_or l.needs k d)
