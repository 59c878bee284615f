use Rattle.std.proofs.Common.{◌≡◌, drop}
use Rattle.wg_typing.specs.AttributeSites.{body_sites}
use Rattle.wg_attribute_rules.specs.Noted.{noted}
use Rattle.wg_attribute_rules.proofs.walk.+stmt.Given as goal

abbrev pub invariant-stmts-loop-stmt : goal.invariant-stmts-loop-stmt
invariant-stmts-loop-stmt l = noted (body_sites (drop l.stmt-index l.list)) l.best ≡ noted (body_sites l.list) l.fn.best
