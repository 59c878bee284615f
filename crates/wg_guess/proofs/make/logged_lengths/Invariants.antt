use Rattle.std.proofs.Common.{◌≡◌, take}
use Rattle.wg_machine.specs.Buffers.{lengths_of}
use Rattle.wg_guess.proofs.make.logged_lengths.Given as goal

abbrev pub invariant-loop-buffer : goal.invariant-loop-buffer
invariant-loop-buffer g l = l.lengths ≡ take l.buffer (lengths_of (g.V.View.buffers l.view))
