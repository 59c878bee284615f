use Rattle.std.proofs.Common.{◌≡◌, ◌∙◌, ◌++◌, ap, List, arith}
use Rattle.std.specs.List.{flat_map}
use Rattle.wg_machine.specs.declared.launch.Live.{Live}
use Rattle.wg_machine.specs.declared.launch.Sent.{Sent}
use Rattle.wg_machine.specs.State.{born, kept}
use Rattle.wg_machine.specs.Step.{left_after}
use Rattle.wg_plain.proofs.Stepping.{bag_few}
use Rattle.wg_plain.proofs.steps.commit.Goals as goal

pub bytes_of-bytes-requires-clause-few : goal.bytes_of-bytes-requires-clause-few
bytes_of-bytes-requires-clause-few c =
    let e = c.args.entry.now in
    let shape = c.args.shape.now in
    let old = c.args.rest in
    let sent = c.args.ran.made.sent in
    let left : c.in_ok-bag.bag ≡ left_after e.inputs e.at c.args.ran.made.shared old.bag = c.in_ok-bag.ensures ∙ ap (λ (ns : List _). left_after ns e.at c.args.ran.made.shared old.bag) c.as_slice.ensures in
    let new : c.as_slice-3.result.now ≡ left_after e.inputs e.at c.args.ran.made.shared old.bag ++ flat_map kept (born shape old.next sent) =
    c.as_slice-3.ensures ∙ (c.in_ok-arrive.ensures
    ∙ (ap (λ (ss : List Sent). c.in_ok-bag.bag ++ flat_map kept (born shape old.next ss)) c.as_slice-2.ensures
    ∙ ap (λ (b : List Live). b ++ flat_map kept (born shape old.next sent)) left)) in
    let few = bag_few shape e.inputs e.at c.args.ran.made.shared old.bag old.next sent c.as_slice-3.result.now new in
    let room = c.requires.records in
    omega arith
