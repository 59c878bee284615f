use Rattle.std.proofs.Common.{◌≤◌, ℕ, subst, sym}
use Rattle.wg_machine.specs.Bytes.{plan_bytes}
use Rattle.wg_machine.specs.State.{start}
use Rattle.wg_standing.proofs.laws.peaks_fit_plan.Goals as goal

pub returns : goal.returns
returns c = λ made script start_buffers core s.
    subst (λ (n : ℕ). n ≤ plan_bytes core.shape core.width) (sym s.peak) (c.peak_is_within_plan.ensures core.shape core.width core.handed (start core.shape script start_buffers) s.trail s.slots)
