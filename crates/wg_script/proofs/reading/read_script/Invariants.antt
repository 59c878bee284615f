use Rattle.std.proofs.Common.{length}
use Rattle.wg_script.proofs.RunLemmas.{Goes}
use Rattle.wg_script.proofs.reading.read_script.Given as goal

-- the lines so far are good, and the draft is what they gave
abbrev pub invariant-loop-line : goal.invariant-loop-line
invariant-loop-line l = Goes l.shape l.text l.version l.draft l.lines l.number

abbrev pub decreases-loop-line : goal.decreases-loop-line
decreases-loop-line l = length l.lines
