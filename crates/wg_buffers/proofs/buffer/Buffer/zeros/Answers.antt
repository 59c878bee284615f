use Rattle.std.proofs.Common.{arith}
use Rattle.wg_buffers.proofs.Joining.{blank_pages, blank_words}
use Rattle.wg_buffers.proofs.buffer.Buffer.zeros.Goals as goal

pub invariant_of-result : goal.invariant_of-result
invariant_of-result c =
    let e = c.loop.invariant in
    rw e (blank_pages c.loop.counter c.args.size (omega (arith, c.div_ceil-count.ensures, c.loop-test.false)) c.ranges.size.fits)

pub returns : goal.returns
returns c =
    let e = c.loop.invariant in
    rw e (blank_words c.loop.counter c.args.size (omega (arith, c.div_ceil-count.ensures, c.loop-test.false)) c.ranges.size.fits)
