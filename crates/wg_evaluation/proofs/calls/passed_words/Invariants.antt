use Rattle.std.proofs.Common.{◌≡◌, map, take}
use Rattle.wg_semantics.specs.declared.state.Passed.{Passed}
use Rattle.wg_evaluation.proofs.calls.passed_words.Given as goal

abbrev pub invariant-loop-p : goal.invariant-loop-p
invariant-loop-p l = l.list ≡ map (λ (p : Passed). p.words) (take l.p-index l.p-items)
