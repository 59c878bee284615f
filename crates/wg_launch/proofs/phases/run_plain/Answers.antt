use Rattle.std.proofs.Common.{ap, sym, subst}
use Rattle.wg_semantics.specs.LaunchMeaning.{OnLanes, entry_doing}
use Rattle.wg_evaluation.specs.Says.{Says}
use Rattle.wg_launch.proofs.Parts.{by_lanes_is}
use Rattle.wg_launch.proofs.phases.run_plain.Goals as goal

pub returns : goal.returns
returns c =
    let doing = entry_doing c.args.entry.now.text.now c.args.entry.now.function.now c.args.entry.now.unit.now c.args.entry.now.last in
    subst (λ o. Says o c.run_one.result c.run_one.new.run.state.world c.run_one.new.run.turns)
    (ap (λ (m : OnLanes). m c.args.lanes c.args.run.now.state.world c.args.run.now.turns) (sym (by_lanes_is doing c.args.s.now c.requires.plain)))
    c.run_one.ensures
