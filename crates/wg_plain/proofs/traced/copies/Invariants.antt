use Rattle.std.proofs.Common.{◌≡◌, take}
use Rattle.wg_plain.proofs.traced.copies.Given as goal

abbrev pub invariant-loop-words : goal.invariant-loop-words
invariant-loop-words l = l.copied ≡ take l.words-index l.buffers
