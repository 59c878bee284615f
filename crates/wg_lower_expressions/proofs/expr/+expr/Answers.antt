use Rattle.wg_lower_expressions.proofs.Layers.{on_ok, choice_code}
use Rattle.wg_lower_expressions.proofs.expr.+expr.Goals as goal

pub kind-returns-in_ok-no-in-Choice-clause-code : goal.kind-returns-in_ok-no-in-Choice-clause-code
kind-returns-in_ok-no-in-Choice-clause-code t c =
    on_ok c.choose.result _ _
    (choice_code c.args.names.now c.args.kind.now c.args.t c.args.d c.in-Choice.test c.in-Choice.then c.in-Choice.other c.get-in-Choice.result.now c.get-in-Choice-2.result.now c.get-in-Choice-3.result.now
    c.in-Choice.is c.get-in-Choice.ensures c.get-in-Choice-2.ensures c.get-in-Choice-3.ensures
    c.in_ok-tested-in-Choice.tested.at c.in_ok-tested-in-Choice.tested.next c.register_at-a.result c.in_ok-tested-in-Choice.ensures.at c.in_ok-tested-in-Choice.ensures.next c.register_at-a.ensures
    c.in_ok-yes-in-Choice.yes.ops c.in_ok-yes-in-Choice.yes.at c.in_ok-yes-in-Choice.yes.next c.in_ok-yes-in-Choice.ensures.code c.in_ok-yes-in-Choice.ensures.at c.in_ok-yes-in-Choice.ensures.next
    c.in_ok-no-in-Choice.no.ops c.in_ok-no-in-Choice.no.at c.in_ok-no-in-Choice.no.next c.in_ok-no-in-Choice.ensures.code c.in_ok-no-in-Choice.ensures.at c.in_ok-no-in-Choice.ensures.next
    c.args.ops.now c.value-in-Choice.new.ops c.choose.new.ops c.in_ok-tested-in-Choice.ensures.code)
    c.choose.ensures.code
