use Rattle.std.proofs.Common.{arith, ◌≡◌, ◌∙◌, ap, get_or}
use Rattle.wg_typed.specs.Weight.{function_weight, weights_before}
use Rattle.wg_typed.proofs.Earlier.{one_of_all}
use Rattle.wg_typed.proofs.weigh.weight.Goals as goal

-- src/weigh.rt:16:1
pub returns : goal.returns
returns c =
    let at : c.index-as_slice-function.result ≡ get_or c.args.typed.now.functions c.args.function c.index-as_slice-function.result = c.index-as_slice-function.is ∙ ap (λ l. get_or l c.args.function c.index-as_slice-function.result) c.as_slice.ensures in
    let e = one_of_all function_weight 0 c.args.typed.now.functions c.args.function c.index-as_slice-function.result c.requires at in
    let same = ap (function_weight (weights_before c.args.typed.now.functions c.args.function)) c.index-as_slice-function.is in
    omega (arith, e, same, c.add_body.ensures)
