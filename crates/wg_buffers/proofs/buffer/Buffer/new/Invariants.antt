use Rattle.wg_buffers.proofs.Started.{AreStarted}
use Rattle.wg_buffers.proofs.buffer.Buffer.new.Given as goal

-- the start words so far, and then zeros
abbrev pub invariant-loop-place : goal.invariant-loop-place
invariant-loop-place l = AreStarted l.buffer l.size l.start l.place
