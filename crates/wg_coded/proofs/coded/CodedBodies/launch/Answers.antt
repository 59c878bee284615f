use Rattle.wg_machine.specs.Agreement.{now_of}
use Rattle.wg_coded.specs.CodeLaws.{code_lawful}
use Rattle.wg_coded.proofs.Shares.{shares}
use Rattle.wg_coded.proofs.coded.CodedBodies.launch.Goals as goal

pub returns-clause-shares : goal.returns-clause-shares
returns-clause-shares g c =
    let self = c.args.self.now in
    let old = g.M.Memory.trace c.args.mem.now in
    let new = g.M.Memory.trace c.run_group.new.mem in
    shares self.code c.args.launch.now c.args.turns (now_of old new.over) (now_of new new.over) c.run_group.result
    (c.run_group.ensures.says new.over (g.met.M.Memory.fits c.run_group.new.mem))
    (code_lawful self.code self.checked c.args.launch.now (now_of old new.over) c.args.turns c.requires.good c.requires.fits)
