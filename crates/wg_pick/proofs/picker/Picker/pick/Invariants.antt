use Rattle.std.proofs.Common.{◌≡◌, ℕ, ◌-◌, ◌*◌, ◌<◌, true, false, length, slice_index}
use Rattle.wg_pick.specs.Row.{is_flagged}
use Rattle.wg_pick.proofs.picker.Picker.pick.Given as goal

-- the units of the places so far that wait have no room
abbrev pub invariant-loop-place : goal.invariant-loop-place
invariant-loop-place g l =
    (from : ℕ) → from < l.from → is_flagged l.self-inside.flags.items from ≡ true → goal.F-post g l.room (slice_index l.self-inside.order.items from) false

abbrev pub decreases-loop-place : goal.decreases-loop-place
decreases-loop-place g l = 64 * length l.self-inside.flags.items - l.from
