use Rattle.std.proofs.Common.{◌≡◌, ◌+◌, ◌%◌, ◌^◌, ◌++◌, map, drop}
use Rattle.wg_counters.proofs.counters.one_more.Given as goal

abbrev pub invariant-loop-word : goal.invariant-loop-word
invariant-loop-word l = l.more ++ map (λ w. (w + 1) % 2 ^ 32) (drop l.word-index l.words) ≡ map (λ w. (w + 1) % 2 ^ 32) l.words
