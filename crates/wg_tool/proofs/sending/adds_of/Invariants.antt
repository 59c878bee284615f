use Rattle.std.proofs.Common.{◌≡◌, ◌++◌, drop}
use Rattle.wg_tool.specs.Sending.{adds_of}
use Rattle.wg_tool.proofs.sending.adds_of.Given as goal

-- the words so far, and those of the pairs that are left
abbrev pub invariant-loop-pair : goal.invariant-loop-pair
invariant-loop-pair l = l.adds ++ adds_of (drop l.pair-index l.pairs) ≡ adds_of l.pairs
