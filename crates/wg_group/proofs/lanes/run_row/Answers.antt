use Rattle.std.proofs.Common.{arith}
use Rattle.wg_group.proofs.Rows.{row_kept}
use Rattle.wg_group.proofs.lanes.run_row.Goals as goal

pub returns-clause-others : goal.returns-clause-others
returns-clause-others g c = λ k other.
    row_kept c.args.registers.now c.run_on.new.registers c.args.lane c.args.group.now.node.now.registers c.requires.inside
    (let same = c.run_on.auto.registers in let i = c.requires.inside in omega (arith, same, i)) _ k (omega arith) other
