use Rattle.std.proofs.Common.{◌≡◌, drop}
use Rattle.wg_buffers.specs.Pages.{page_written}
use Rattle.wg_buffers.proofs.page.write_each.Given as goal

-- the writes that are left lead where all of them do
abbrev pub invariant-loop-write : goal.invariant-loop-write
invariant-loop-write l = page_written l.words (drop l.write-index l.writes) ≡ page_written l.initial.words l.writes
