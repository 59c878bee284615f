use Rattle.std.proofs.Common.{◌≡◌, drop}
use Rattle.wg_touches.specs.Passing.{body_passes}
use Rattle.wg_touches.proofs.statements.+stmt.Given as goal

abbrev pub invariant-body_passes-loop-stmt : goal.invariant-body_passes-loop-stmt
invariant-body_passes-loop-stmt l = body_passes l.stores l.functions (drop l.stmt-index l.body) ≡ body_passes l.stores l.functions l.body
