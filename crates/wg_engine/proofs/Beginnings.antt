-- A core at the start of a script.
use Rattle.std.proofs.Common.{◌≡◌, length, ap, sym, subst, arith, None}
use Rattle.wg_machine.specs.Buffers.{Buffers}
use Rattle.wg_standing.specs.Core.{CoreView, core_begun}
use Rattle.wg_standing.specs.Laws.{BeginningsPlace}
use Rattle.wg_engine.specs.Inside.{IsBegun, IsSoundCore, core_of}

-- a core whose keep is at the start of a script is sound
pub begun_sound : BeginningsPlace → (k : CoreView) (b : Buffers) → IsBegun k → length b ≡ length k.shape.buffers → IsSoundCore (core_of k b 0 0 0 None) None
begun_sound law k b s many =
    let core : CoreView = core_begun k.shape k.width k.limits s.script b in
    let is : core_of k b 0 0 0 None ≡ core = ap (λ (x : CoreView). core_of x b 0 0 0 None) s.begun in
    let few = s.few in
    let sound : IsSoundCore core None =
    record {
      placed = law k.shape k.width k.limits s.script b s.arrive;
      good = s.good;
      wide = s.wide;
      buffers = many;
      few = s.launches;
      next = omega (arith, few);
      denied = omega arith;
      kept = omega arith;
      born = tt;
      stopped = λ t is. absurd (cc);
    } in
    subst (λ (n : CoreView). IsSoundCore n None) (sym is) sound
