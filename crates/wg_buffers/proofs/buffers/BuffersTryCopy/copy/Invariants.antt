use Rattle.std.proofs.Common.{◌≡◌, take}
use Rattle.wg_buffers.proofs.buffers.BuffersTryCopy.copy.Given as goal

abbrev pub invariant-loop-buffer : goal.invariant-loop-buffer
invariant-loop-buffer l = l.buffers.items ≡ take l.buffer-index l.buffer-items
