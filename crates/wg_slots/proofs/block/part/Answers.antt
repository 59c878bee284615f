use Rattle.std.proofs.Common.{◌∙◌, ℕ, take, drop, ap, arith}
use Rattle.wg_slots.proofs.Blocks.{part_is}
use Rattle.wg_slots.proofs.block.part.Goals as goal

pub returns : goal.returns
returns c =
    ap (λ (n : ℕ). take n (drop c.args.at c.args.block.now)) (omega arith)
    ∙ part_is c.args.block.now c.args.at c.args.words c.requires
