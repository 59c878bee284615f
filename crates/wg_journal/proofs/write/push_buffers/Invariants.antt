use Rattle.std.proofs.Common.{◌≡◌, ◌++◌, take}
use Rattle.std.specs.List.{flat_map}
use Rattle.wg_journal.specs.Texts.{buffer_line}
use Rattle.wg_journal.proofs.write.push_buffers.Given as goal

abbrev pub invariant-loop-buffer : goal.invariant-loop-buffer
invariant-loop-buffer l = l.text.items ≡ l.fn.text.items ++ flat_map buffer_line (take l.buffer-index l.buffers)
