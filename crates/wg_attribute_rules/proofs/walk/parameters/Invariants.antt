use Rattle.std.proofs.Common.{◌≡◌, drop}
use Rattle.wg_typing.specs.AttributeSites.{parameters_sites}
use Rattle.wg_attribute_rules.specs.Noted.{noted}
use Rattle.wg_attribute_rules.proofs.walk.parameters.Given as goal

abbrev pub invariant-loop-number : goal.invariant-loop-number
invariant-loop-number l = noted (parameters_sites l.mode l.list l.number (drop l.number l.list)) l.best ≡ noted (parameters_sites l.mode l.list 0 l.list) l.fn.best
