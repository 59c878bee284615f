use Rattle.std.proofs.Common.{◌≡◌, drop}
use Rattle.wg_touches.specs.Passing.{functions_pass}
use Rattle.wg_touches.proofs.texts.functions_pass.Given as goal

abbrev pub invariant-loop-f : goal.invariant-loop-f
invariant-loop-f l = functions_pass l.stores l.functions (drop l.f-index l.list) ≡ functions_pass l.stores l.functions l.list
