use Rattle.std.proofs.Common.{◌≡◌, None, replicate}
use Rattle.wg_script.proofs.draft.Draft.new.Given as goal

-- so many buffers have no line
abbrev pub invariant-loop : goal.invariant-loop
invariant-loop l = l.given.items ≡ replicate l.counter None
