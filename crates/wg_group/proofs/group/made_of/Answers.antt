use Rattle.std.proofs.Common.{◌≡◌, sym, ap, ◌∙◌}
use Rattle.std.proofs.lemmas.Result.{IfOk-weaker}
use Rattle.wg_machine.specs.Buffers.{Buffers}
use Rattle.wg_machine.specs.LaunchMeaning.{outcome_of}
use Rattle.wg_machine.specs.declared.launch.Made.{Made}
use Rattle.wg_state.specs.Launching.{outcome_with}
use Rattle.wg_state.specs.declared.world.World.{World}
use Rattle.wg_group.proofs.group.made_of.Goals as goal

pub returns : goal.returns
returns c =
    let unit = c.args.unit.now in
    let left = c.args.left in
    IfOk-weaker c.made_by.result (λ (made : Made). (b : Buffers) → outcome_with unit c.args.turns (record c.in_ok-world.world { buffers = b }) left.turns ≡ outcome_of made b)
    (λ (made : Made). (b : Buffers) → outcome_with unit c.args.turns (record left.world { buffers = b }) left.turns ≡ outcome_of made b)
    (λ made d b. ap (λ (w : World). outcome_with unit c.args.turns (record w { buffers = b }) left.turns) (sym c.in_ok-world.ensures) ∙ d b)
    c.made_by.ensures
