use Rattle.std.proofs.Common.{ℕ, map, ◌∙◌}
use Rattle.std.specs.Prelude.{slice_index}
use Rattle.wg_operations.proofs.Registers.{next_register}
use Rattle.wg_operations.proofs.calls.window.Goals as goal

pub loop-at-preserved : goal.loop-at-preserved
loop-at-preserved c =
    c.in_ok-push.ensures.items ∙ next_register (map (λ (r : ℕ). slice_index c.args.registers.now r) c.args.args.now) c.args.count c.loop-at.at c.argument.result c.loop-at.list.items c.loop-at-test.true c.argument.ensures c.loop-at.invariant
