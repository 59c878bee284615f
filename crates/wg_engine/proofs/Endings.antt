-- How a core ends, by its keep.
use Rattle.std.proofs.Common.{◌≡◌, List, length, refl, ap, sym, subst, arith, None, Some, Option}
use Rattle.wg_standing.specs.declared.pending.Pending.{Pending}
use Rattle.wg_standing.specs.Core.{CoreView}
use Rattle.wg_engine.specs.declared.report.End.{End}
use Rattle.wg_engine.specs.declared.report.End.TheVariants as end
use Rattle.wg_engine.specs.declared.stepping.Spent.{Spent}
use Rattle.wg_engine.specs.Ending.{EndIs, EndsAs}
use Rattle.wg_engine.specs.Inside.{IsSoundCore, core_of}
use Rattle.wg_engine.proofs.Views.{Own, core_with, idle_down, idle_up}

ends_by : (k : CoreView) (w : Own) (spent : Option Spent) (e : End) → w.spent ≡ spent → IsSoundCore (core_with k w) w.spent → EndIs k spent e → EndsAs (core_with k w) e
ends_by k w (Some t) e is sound by =
    let old = sound.stopped t is in
    subst (EndsAs (core_with k w)) (sym by) (record { ticket = t.ticket; before = old.before; pending = old.pending; later = old.later; stopped = ap (λ (x : Option Spent). (core_of k w.buffers w.denied w.peak w.kept x).stopped) is; out = old.out; is = old.launch })
ends_by k w None (end.Turns launch) is sound by = absurd by
ends_by k w None end.Complete is sound by = (ap (λ (x : Option Spent). (core_of k w.buffers w.denied w.peak w.kept x).stopped) is, idle_up k w by)
ends_by k w None end.Launches is sound by =
    let z = ap (λ (os : List Pending). length os) by.1 in
    let n = by.2 in
    (ap (λ (x : Option Spent). (core_of k w.buffers w.denied w.peak w.kept x).stopped) is, λ i. by.0 (idle_down k w i), by.1, omega (arith, z, n))
ends_by k w None end.Open is sound by = (
  ap (λ (x : Option Spent). (core_of k w.buffers w.denied w.peak w.kept x).stopped) is,
  λ i. by.0 (idle_down k w i),
  λ p. by.1 (p.2, let z = ap (λ (os : List Pending). length os) p.2 in let n = p.3 in omega (arith, z, n)),
)

-- how a core ends by its keep and the launch that was spent is how it ends
pub ends_as : (k : CoreView) (w : Own) (e : End) → IsSoundCore (core_with k w) w.spent → EndIs k w.spent e → EndsAs (core_with k w) e
ends_as k w e sound by = ends_by k w w.spent e refl sound by
