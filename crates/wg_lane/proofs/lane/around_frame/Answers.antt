use Rattle.std.proofs.Common.{◌≡◌, List, refl, ap, ◌∙◌}
use Rattle.std.specs.Prelude.{slice_get}
use Rattle.std.proofs.lemmas.Option.{get_or_from_slice_get}
use Rattle.wg_machine.specs.declared.shape.Unit.{Unit as OfShape}
use Rattle.wg_code.specs.CodeMeaning.{around_of as around_at}
use Rattle.wg_code.specs.FrameMeaning.{launch_of}
use Rattle.wg_code.specs.declared.code.NodeCode.{NodeCode as OfCode}
use Rattle.wg_lane.proofs.lane.around_frame.Goals as goal

pub returns : goal.returns
returns c = λ u node is_u is_node.
    let code = c.args.code.now in
    let frame = c.args.frame.now in
    let U = c.index-as_slice-frame.result in
    let N = c.index-as_slice-unit.result in
    let one : U ≡ u = c.index-as_slice-frame.is ∙ get_or_from_slice_get c.as_slice.result.now frame.unit u U (ap (λ (l : List OfShape). slice_get l frame.unit) c.as_slice.ensures ∙ is_u) in
    let two : N ≡ node = c.index-as_slice-unit.is ∙ get_or_from_slice_get c.as_slice-2.result.now U.node node N (ap (λ (l : List OfCode). slice_get l U.node) c.as_slice-2.ensures ∙ (ap (λ (v : OfShape). slice_get code.nodes v.node) one ∙ is_node)) in
    c.around.ensures (launch_of frame) refl refl refl ∙ (ap (λ (n : OfCode). around_at code n U (launch_of frame) frame.lane) two ∙ ap (λ (v : OfShape). around_at code node v (launch_of frame) frame.lane) one)
