-- What an answer says of a body that was run on a frame. Own.
use Rattle.std.specs.Prelude.{◌≡◌, ℕ, true, List}
use Rattle.wg_machine.specs.Agreement.{Trace, AgreesWith, now_of}
use Rattle.wg_machine.specs.Buffers.{Buffers}
use Rattle.wg_code.specs.FrameMeaning.{lane_verdict, LaneMakes, LaneSpends}
use Rattle.wg_code.specs.declared.code.RawCode.{RawCode}
use Rattle.wg_code.specs.declared.frame.Frame.{Frame}
use Rattle.wg_code.specs.declared.op.Op.{Op}

-- the frame is the body's own, for each start that agrees with the memory afterwards
abbrev pub MakesFrame : RawCode → List Op → Frame → ℕ → Trace → Trace → Frame → Type 0
MakesFrame code body frame turns old new after = (start : Buffers) → AgreesWith new start
    → lane_verdict true code body frame (now_of old start) turns ≡ LaneMakes after (now_of new start)

-- the body spends its turns
abbrev pub SpendsFrame : RawCode → List Op → Frame → ℕ → Trace → Trace → Type 0
SpendsFrame code body frame turns old new = (start : Buffers) → AgreesWith new start → lane_verdict true code body frame (now_of old start) turns ≡ LaneSpends
