use Rattle.std.proofs.Common.{◌≡◌, drop, map}
use Rattle.wg_typing.specs.AttributeSites.{plain_parameter_sites}
use Rattle.wg_typing.specs.Sites.{all_sites}
use Rattle.wg_attribute_rules.specs.Noted.{noted}
use Rattle.wg_attribute_rules.proofs.walk.plain_parameters.Given as goal

abbrev pub invariant-loop-p : goal.invariant-loop-p
invariant-loop-p l = noted (all_sites (map plain_parameter_sites (drop l.p-index l.list))) l.best ≡ noted (all_sites (map plain_parameter_sites l.list)) l.fn.best
