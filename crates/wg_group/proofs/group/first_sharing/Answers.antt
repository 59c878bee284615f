use Rattle.std.proofs.Common.{◌≡◌, [], ap, ◌∙◌}
use Rattle.std.proofs.lemmas.Result.{IfOk-weaker}
use Rattle.wg_state.specs.Launching.{world_before}
use Rattle.wg_state.specs.declared.world.World.{World}
use Rattle.wg_group.proofs.Ending.{world_is}
use Rattle.wg_group.proofs.group.first_sharing.Goals as goal

pub returns : goal.returns
returns c =
    IfOk-weaker c.sharing_of.result (λ (s : World). s ≡ record c.in_ok-world.world { shared = []; buffers = [] }) (λ (s : World). s ≡ world_before [] c.args.unit.now c.args.launch.now [])
    (λ s e. e ∙ ap (λ (w : World). record w { shared = []; buffers = [] }) (world_is c.args.unit.now c.args.launch.now c.new-none.result c.new.result c.in_ok-world.world c.new-none.ensures c.new.ensures c.in_ok-world.ensures))
    c.sharing_of.ensures
