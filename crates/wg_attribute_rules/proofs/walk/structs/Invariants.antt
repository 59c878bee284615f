use Rattle.std.proofs.Common.{◌≡◌, drop, map}
use Rattle.wg_typing.specs.AttributeSites.{struct_sites}
use Rattle.wg_typing.specs.Sites.{all_sites}
use Rattle.wg_attribute_rules.specs.Noted.{noted}
use Rattle.wg_attribute_rules.proofs.walk.structs.Given as goal

abbrev pub invariant-loop-declared : goal.invariant-loop-declared
invariant-loop-declared l = noted (all_sites (map struct_sites (drop l.declared-index l.list))) l.best ≡ noted (all_sites (map struct_sites l.list)) l.fn.best
