use Rattle.std.proofs.Common.{◌≡◌, ◌++◌, ◌+◌, ◌-◌}
use Rattle.std.specs.List.{range_with_len}
use Rattle.wg_journal.specs.Texts.{all_spaced}
use Rattle.wg_journal.proofs.write.push_outs.Given as goal

-- the line so far and what is left make the whole line
abbrev pub invariant-loop-place : goal.invariant-loop-place
invariant-loop-place l = l.line.items ++ all_spaced (range_with_len (l.first + l.place) (l.count - l.place)) ≡ l.fn.line.items ++ all_spaced (range_with_len l.first l.count)
