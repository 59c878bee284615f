use Rattle.std.proofs.Common.{drop, sym, ◌∙◌}
use Rattle.std.proofs.lemmas.List.{at_drop_all}
use Rattle.wg_code.specs.Lane.{set_all}
use Rattle.wg_operations.proofs.Registers.{set_all_nothing}
use Rattle.wg_operations.proofs.calls.put_results.Goals as goal

pub returns-then-at-values : goal.returns-then-at-values
returns-then-at-values c =
    sym (set_all_nothing c.loop-r.registers (drop c.loop-r.r-index c.args.results.now))
    ∙ sym (at_drop_all (set_all c.loop-r.registers (drop c.loop-r.r-index c.args.results.now)) c.args.values.now c.loop-r.at c.if-at-values.true)
    ∙ c.loop-r.invariant
