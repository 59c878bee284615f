use Rattle.std.proofs.Common.{◌≤◌}
use Rattle.wg_machine.specs.Bytes.{KeepsSlots, live_bytes, plan_bytes}
use Rattle.wg_machine.specs.State.{State, start}
use Rattle.wg_standing.proofs.Stands.{states_weaker}
use Rattle.wg_standing.proofs.laws.live_bytes_fit_plan.Goals as goal

pub returns : goal.returns
returns c = λ made script start_buffers core s.
    states_weaker (KeepsSlots core.shape core.width core.handed) (λ (t : State). live_bytes core.shape core.handed t ≤ plan_bytes core.shape core.width)
    (λ t. c.slots_hold_bytes.ensures core.shape core.width core.handed t) (start core.shape script start_buffers) s.trail s.slots
