use Rattle.std.proofs.Common.{◌≡◌, ◌≤◌, ◌++◌, List, length}
use Rattle.wg_words.specs.Each.{Each}
use Rattle.wg_tool.specs.declared.pair.Pair.{Pair}
use Rattle.wg_tool.specs.FirstForm.{pairs_text, IsGoodPair}
use Rattle.wg_tool.proofs.graph.read_pairs.Given as goal

-- the pairs so far begin the text, and only they do
abbrev pub invariant-loop-rest : goal.invariant-loop-rest
invariant-loop-rest l =
    record {
      so_far : l.bytes ≡ pairs_text l.pairs.items ++ l.rest;
      good : Each IsGoodPair l.pairs.items;
      few : length l.pairs.items ≤ 32;
      only : (pairs : List Pair) → Each IsGoodPair pairs → l.bytes ≡ pairs_text pairs → (tail : List Pair) × (pairs ≡ l.pairs.items ++ tail) × Each IsGoodPair tail × (l.rest ≡ pairs_text tail);
    }

abbrev pub decreases-loop-rest : goal.decreases-loop-rest
decreases-loop-rest l = length l.rest
