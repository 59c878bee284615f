use Rattle.std.proofs.Common.{◌+◌, ◌-◌, length, arith}
use Rattle.wg_slots.proofs.Blocks.{written}
use Rattle.wg_slots.proofs.block.write.Goals as goal

pub returns : goal.returns
returns c =
    written c.args.block.now c.copy_from_slice.new.self c.args.words.now c.args.at (c.args.at + length c.args.words.now - c.args.at) c.copy_from_slice.ensures.after (omega arith) c.requires
