use Rattle.std.proofs.Common.{◌≡◌, drop, map}
use Rattle.wg_typing.specs.AttributeSites.{function_sites}
use Rattle.wg_typing.specs.Sites.{all_sites}
use Rattle.wg_attribute_rules.specs.Noted.{noted}
use Rattle.wg_attribute_rules.proofs.walk.functions.Given as goal

abbrev pub invariant-loop-f : goal.invariant-loop-f
invariant-loop-f l = noted (all_sites (map (function_sites l.structs) (drop l.f-index l.list))) l.best ≡ noted (all_sites (map (function_sites l.structs) l.list)) l.fn.best
