use Rattle.std.proofs.Common.{◌∙◌, ap, Bool, ◌++◌, ◌∷◌, []}
use Rattle.std.specs.Prelude.{if◌then◌else◌}
use Rattle.wg_machine.specs.State.{kept}
use Rattle.wg_machine.specs.Step.{after_group}
use Rattle.wg_plain.proofs.Leaving.{left_more}
use Rattle.wg_plain.proofs.changes.after_launch.Goals as goal

pub loop-live-preserved : goal.loop-live-preserved
loop-live-preserved c = left_more c.args.numbers.now c.args.at.now c.args.new.now c.loop-live.yielded c.in-Some.live c.loop-live.left c.push_left.new.bag c.loop-live.invariant (c.in_ok-push_left.ensures ∙ ap (λ (b : Bool). c.loop-live.left ++ (if b then kept (after_group c.args.at.now c.args.new.now c.in-Some.live) else c.in-Some.live ∷ [])) c.is_listed-ran.ensures)
