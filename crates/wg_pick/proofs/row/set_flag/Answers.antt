use Rattle.wg_pick.proofs.Flags.{flag_on, flag_off}
use Rattle.wg_pick.proofs.row.set_flag.Goals as goal

pub returns-then-is_set : goal.returns-then-is_set
returns-then-is_set c = rw c.if-is_set.true (flag_on c.args.flags.now.items c.args.place c.index_mut.result.now c.requires c.index_mut.ensures.value)

pub returns-else-is_set : goal.returns-else-is_set
returns-else-is_set c =
    rw c.if-is_set.false (flag_off c.args.flags.now.items c.args.place c.index_mut-else-is_set.result.now c.requires c.index_mut-else-is_set.ensures.value)
