use Rattle.std.proofs.Common.{◌≡◌, ◌≤◌, length, take}
use Rattle.wg_verify.specs.Tails.{buffer_lines}
use Rattle.wg_verify.proofs.buffers.first_wrong.Given as goal

abbrev pub invariant-loop-place : goal.invariant-loop-place
invariant-loop-place l = record {
  same : take l.place l.lines ≡ take l.place (buffer_lines l.names l.buffers);
  within : l.place ≤ length l.names;
}
