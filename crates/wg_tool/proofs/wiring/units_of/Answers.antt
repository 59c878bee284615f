use Rattle.std.proofs.Common.{◌≡◌, ◌++◌, ◌+◌, ◌^◌, ◌<◌, [], ◌∷◌, ℕ, List, None, get_or, ap, ◌∙◌, arith}
use Rattle.wg_machine.specs.declared.shape.Unit.{Unit}
use Rattle.wg_machine.specs.Unrolling.{depth_of}
use Rattle.wg_tool.specs.Wiring.{unit_of}
use Rattle.wg_tool.proofs.ShapeLemmas.{shallow_depth, shallow_next, units_step}
use Rattle.wg_tool.proofs.wiring.units_of.Goals as goal

pub depth_of-depth-requires : goal.depth_of-depth-requires
depth_of-depth-requires c =
    let h = shallow_depth c.loop-place.place c.loop-place.place c.loop-place.units c.loop-place.invariant.shallow in
    let few : c.loop-place.place + 1 < 2 ^ 32 = omega arith in
    rw c.as_slice.ensures (omega (arith, h))

pub loop-place-preserved : goal.loop-place-preserved
loop-place-preserved c =
    let ts = c.args.targets.now in
    let k = c.loop-place.place in
    let us = c.loop-place.units in
    let t = get_or ts k None in
    let depth : c.depth_of-depth.result ≡ depth_of us k = c.depth_of-depth.ensures ∙ ap (λ (l : List Unit). depth_of l k) c.as_slice.ensures in
    let made : c.in_ok-unit_of.field-0 ≡ unit_of ts k (depth_of us k) t = c.in_ok-unit_of.ensures ∙ ap (λ (d : ℕ). unit_of ts k d t) depth in
    let pushed : c.push.new.self ≡ us ++ unit_of ts k (depth_of us k) t ∷ [] = c.in_ok-push.ensures.ok ∙ ap (λ (u : Unit). us ++ u ∷ []) made in
    record {
      so_far = rw pushed (units_step ts us k c.loop-place-test.true c.loop-place.invariant.so_far);
      shallow = rw pushed (shallow_next ts us k t c.loop-place.invariant.shallow);
    }
