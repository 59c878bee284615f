use Rattle.std.proofs.Common.{◌≡◌, take, drop}
use Rattle.wg_text.specs.Cut.{cut, separates}
use Rattle.wg_text.proofs.CutLemmas.{with_front}
use Rattle.wg_text.proofs.cutting.cut.Given as goal

-- what was passed, and the cut of what is left, are the cut of all
abbrev pub invariant-loop-end : goal.invariant-loop-end
invariant-loop-end l = with_front (take l.end l.text) (cut (separates l.at) (drop l.end l.text)) ≡ cut (separates l.at) l.text
