use Rattle.std.proofs.Common.{◌≡◌, take}
use Rattle.wg_buffers.proofs.buffer.BufferTryCopy.copy.Given as goal

abbrev pub invariant-loop-page : goal.invariant-loop-page
invariant-loop-page l = l.pages.items ≡ take l.page-index l.page-items
