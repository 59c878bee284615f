use Rattle.std.proofs.Common.{◌≡◌, take, drop}
use Rattle.wg_typing.specs.AttributeSites.{attribute_sites, sites_at}
use Rattle.wg_attribute_rules.specs.Before.{Keeps}
use Rattle.wg_attribute_rules.specs.Noted.{noted}
use Rattle.wg_attribute_rules.specs.Positions.{position_of}
use Rattle.wg_attribute_rules.proofs.walk.attributes.Given as goal

abbrev pub invariant-loop-a : goal.invariant-loop-a
invariant-loop-a l =
    Keeps (position_of l.position) (take l.a-index l.list) l.before
    × (noted (attribute_sites (position_of l.position) (take l.a-index l.list) (drop l.a-index l.list)) l.best ≡ noted (sites_at (position_of l.position) l.list) l.fn.best)
