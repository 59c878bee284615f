use Rattle.std.proofs.Common.{◌≡◌, drop, ℕ}
use Rattle.wg_semantics.specs.Calls.{all_back}
use Rattle.wg_evaluation.proofs.calls.copy_all_back.Given as goal

abbrev pub invariant-loop-at : goal.invariant-loop-at
invariant-loop-at l = (t : ℕ) → all_back (drop l.at l.passed) (drop l.at l.values) l.state t ≡ all_back l.passed l.values l.initial.state t
