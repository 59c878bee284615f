use Rattle.std.proofs.Common.{◌≡◌, length, take}
use Rattle.wg_machine.specs.Buffers.{buffer_at}
use Rattle.wg_verify.proofs.buffers.are_words.Given as goal

abbrev pub invariant-loop-word : goal.invariant-loop-word
invariant-loop-word l = record {
  same : take l.word l.words ≡ take l.word (buffer_at l.buffers l.place);
  long : length l.words ≡ length (buffer_at l.buffers l.place);
}
