use Rattle.std.proofs.Common.{◌≡◌, take}
use Rattle.wg_machine.specs.Buffers.{lengths_of}
use Rattle.wg_guess.proofs.guesses.has_lengths.Given as goal

abbrev pub invariant-loop-buffer : goal.invariant-loop-buffer
invariant-loop-buffer g l = take l.buffer (lengths_of (g.V.View.buffers l.view)) ≡ take l.buffer l.lengths
