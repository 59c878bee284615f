use Rattle.std.proofs.Common.{◌≡◌, ◌+◌, drop}
use Rattle.wg_tool.specs.Parts.{lower_length}
use Rattle.wg_tool.proofs.parts.lower_letters.Given as goal

-- all letters so far are lower-case
abbrev pub invariant-loop-place : goal.invariant-loop-place
invariant-loop-place l = lower_length l.bytes ≡ l.place + lower_length (drop l.place l.bytes)
