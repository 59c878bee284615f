use Rattle.std.proofs.Common.{arith}
use Rattle.wg_registers.specs.Given.{around_of}
use Rattle.wg_leaves.specs.Going.{is_quiet_op}
use Rattle.wg_leaves.specs.Leaves.{leaf_does, asked_does}
use Rattle.wg_leaves.proofs.Growth.{fewer_turns}
use Rattle.wg_leaves.proofs.Leaf.{runs}
use Rattle.wg_leaves.proofs.NotBuffers.{not_buffers}
use Rattle.wg_leaves.proofs.leaves.run_leaf.Goals as goal

pub returns-in_ok-run_asked-in_default-clause-says : goal.returns-in_ok-run_asked-in_default-clause-says
returns-in_ok-run_asked-in_default-clause-says g c =
    runs (leaf_does (around_of c.args.around.now) c.args.op.now) (asked_does (around_of c.args.around.now) c.args.op.now) (not_buffers (around_of c.args.around.now) c.args.op.now (record { not_BufferGet = c.in_default.not-BufferGet; not_BufferPut = c.in_default.not-BufferPut; not_BufferAdd = c.in_default.not-BufferAdd; not_BufferAtomic = c.in_default.not-BufferAtomic; not_BufferLength = c.in_default.not-BufferLength })) c.args.registers.now c.args.s.now c.run_asked.new.registers c.run_asked.new.s (g.M.Memory.trace c.args.mem.now) c.in_ok-run_asked-in_default.ensures.makes c.in_ok-run_asked-in_default.ensures.turns

pub returns-in_ok-run_asked-in_default-clause-kept : goal.returns-in_ok-run_asked-in_default-clause-kept
returns-in_ok-run_asked-in_default-clause-kept g c =
    fewer_turns (is_quiet_op c.args.op.now) c.args.s.now.turns c.run_asked.new.s.turns (g.M.Memory.trace c.args.mem.now) (let e = c.in_ok-run_asked-in_default.ensures.turns in omega (arith, e))
