use Rattle.std.proofs.Common.{◌≡◌, drop}
use Rattle.wg_touches.specs.Passing.{declared_pass}
use Rattle.wg_touches.proofs.statements.declared_pass.Given as goal

abbrev pub invariant-loop-declarator : goal.invariant-loop-declarator
invariant-loop-declarator l = declared_pass l.stores l.functions (drop l.declarator-index l.declared) ≡ declared_pass l.stores l.functions l.declared
