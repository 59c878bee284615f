use Rattle.std.proofs.Common.{◌≡◌, ◌∙◌, ◌++◌, [], refl, ap, sym, subst, List, None, arith}
use Rattle.std.specs.List.{flat_map}
use Rattle.wg_machine.specs.declared.launch.Live.{Live}
use Rattle.wg_machine.specs.Buffers.{Buffers}
use Rattle.wg_machine.specs.State.{born, kept}
use Rattle.wg_plain.specs.Sizes.{AreShort}
use Rattle.wg_plain.proofs.Stepping.{bag_few, start_sound}
use Rattle.wg_plain.proofs.steps.started.Goals as goal

pub bytes_of-peak-requires-clause-strides : goal.bytes_of-peak-requires-clause-strides
bytes_of-peak-requires-clause-strides c = λ u. c.strides_are_small.ensures c.args.shape.now u c.requires.good

pub bytes_of-peak-requires-clause-few : goal.bytes_of-peak-requires-clause-few
bytes_of-peak-requires-clause-few c =
    let shape = c.args.shape.now in
    let script = c.args.script.now in
    let new : c.as_slice.result.now ≡ flat_map kept (born shape 0 script) =
    c.as_slice.ensures ∙ (c.in_ok-arrive.ensures ∙ ap (λ (b : List Live). b ++ flat_map kept (born shape 0 script)) c.new-bag.ensures) in
    let few = bag_few shape [] [] None [] 0 script c.as_slice.result.now new in
    let most = c.requires.few in
    omega arith

pub returns-clause-sound : goal.returns-clause-sound
returns-clause-sound c =
    let shape = c.args.shape.now in
    let script = c.args.script.now in
    let new : c.arrive.new.bag ≡ flat_map kept (born shape 0 script) =
    c.in_ok-arrive.ensures ∙ ap (λ (b : List Live). b ++ flat_map kept (born shape 0 script)) c.new-bag.ensures in
    start_sound c.runs_fit.ensures shape script _ c.requires.good c.requires.arrive (subst (λ (m : Buffers). AreShort m) (sym c.in_ok-copies.ensures) c.requires.short) (c.bag.view_is ∙ new) refl
