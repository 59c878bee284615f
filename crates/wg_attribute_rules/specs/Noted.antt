-- The first fault of attributes so far, as sites are met one after the other.
use Rattle.std.specs.Prelude.{ℕ, if◌then◌else◌, List, [], ◌∷◌, Option, Some, None}
use Rattle.wg_words.specs.declared.place.Place.{Place}
use Rattle.wg_typing.specs.AttributeSites.{AttributeSite}
use Rattle.wg_typing.specs.Attributes.{attribute_number, attribute_places}
use Rattle.wg_typing.specs.Faults.{is_earlier, attribute_rules}
use Rattle.wg_typing.specs.Sites.{Sites, nowhere, only, within, ◌&◌}
use Rattle.wg_typing.specs.declared.fault.AttributeRule.{AttributeRule}
use Rattle.wg_typing.specs.declared.fault.Fault.{Fault}

-- the earlier of the first one so far and of one more
abbrev pub earlier : Option Fault → Fault → Option Fault
earlier None f = Some f
earlier (Some best) f = Some (if is_earlier f best then f else best)

abbrev pub with_places : ℕ → List Place → Option Fault → Option Fault
with_places number [] best = best
with_places number (p ∷ rest) best = with_places number rest (earlier best (record { rule = number; place = p }))

abbrev pub with_rules : List AttributeRule → AttributeSite → Option Fault → Option Fault
with_rules [] s best = best
with_rules (r ∷ rest) s best = with_rules rest s (with_places (attribute_number r) (attribute_places r s) best)

abbrev pub noted_at : AttributeSite → Option Fault → Option Fault
noted_at s best = with_rules attribute_rules s best

-- the first fault after these sites
abbrev pub noted : Sites AttributeSite → Option Fault → Option Fault
noted nowhere best = best
noted (only s) best = noted_at s best
noted (within r a) best = noted a best
noted (a & b) best = noted b (noted a best)
