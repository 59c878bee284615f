use Rattle.std.proofs.Common.{◌≡◌, drop}
use Rattle.wg_machine.specs.Buffers.{all_written}
use Rattle.wg_buffers.proofs.buffers.Buffers.write_pages.Given as goal

-- the writes that are left lead where all of them do
abbrev pub invariant-loop-write : goal.invariant-loop-write
invariant-loop-write l =
    (all_written l.next (drop l.write-index l.writes) ≡ all_written l.initial.next l.writes) × (l.self ≡ l.initial.self)
