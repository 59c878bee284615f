use Rattle.std.proofs.Common.{◌≡◌, replicate}
use Rattle.wg_buffers.proofs.buffer.Buffer.zeros.Given as goal

-- that many blank pages so far
abbrev pub invariant-loop : goal.invariant-loop
invariant-loop l = l.pages.items ≡ replicate l.counter (replicate 256 0)
