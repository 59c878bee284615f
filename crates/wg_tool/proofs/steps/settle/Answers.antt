use Rattle.wg_tool.specs.Sending.{sender}
use Rattle.wg_tool.proofs.RunLemmas.{ran_one}
use Rattle.wg_tool.proofs.steps.settle.Goals as goal

pub returns-in-Redone-clause-ran : goal.returns-in-Redone-clause-ran
returns-in-Redone-clause-ran c =
    ran_one (sender c.args.senders.now.targets c.args.senders.now.adds) c.args.core.now c.settle.new.self c.args.ticket c.requires.out c.in-Redone.ensures.settles.1.step
