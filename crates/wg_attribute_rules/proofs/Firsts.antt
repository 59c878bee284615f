-- The first fault of a list, as it is met one by one.
use Rattle.std.proofs.Common.{◌≡◌, ℕ, List, [], ◌∷◌, ◌++◌, Option, Some, None, refl, sym, ap, ◌∙◌}
use Rattle.std.specs.Prelude.{if◌then◌else◌}
use Rattle.wg_words.specs.declared.place.Place.{Place}
use Rattle.wg_typing.specs.AttributeSites.{AttributeSite, sites_of}
use Rattle.wg_typing.specs.Attributes.{attribute_number, attribute_places}
use Rattle.wg_typing.specs.Faults.{is_earlier, attribute_rules, tagged, faults_at, faults_in, least_from, first_of, first_attribute_fault}
use Rattle.wg_typing.specs.Sites.{Sites, nowhere, only, within, ◌&◌}
use Rattle.wg_typed.specs.declared.typed.Typed.{Typed}
use Rattle.wg_typing.specs.declared.fault.AttributeRule.{AttributeRule}
use Rattle.wg_typing.specs.declared.fault.Fault.{Fault}
use Rattle.wg_attribute_rules.specs.Noted.{earlier, with_places, with_rules, noted}

-- one more after the other
abbrev met : Option Fault → List Fault → Option Fault
met best [] = best
met best (f ∷ rest) = met (earlier best f) rest

met-append : (best : Option Fault) (xs ys : List Fault) → met best (xs ++ ys) ≡ met (met best xs) ys
met-append best [] ys = refl
met-append best (x ∷ xs) ys = met-append (earlier best x) xs ys

places_met : (number : ℕ) (places : List Place) (best : Option Fault) → with_places number places best ≡ met best (tagged number places)
places_met number [] best = refl
places_met number (p ∷ rest) best = places_met number rest (earlier best (record { rule = number; place = p }))

rules_met : (rules : List AttributeRule) (s : AttributeSite) (best : Option Fault) → with_rules rules s best ≡ met best (faults_at attribute_number attribute_places rules s)
rules_met [] s best = refl
rules_met (r ∷ rest) s best =
    rules_met rest s (with_places (attribute_number r) (attribute_places r s) best)
    ∙ (ap (λ b. met b (faults_at attribute_number attribute_places rest s)) (places_met (attribute_number r) (attribute_places r s) best)
    ∙ sym (met-append best (tagged (attribute_number r) (attribute_places r s)) (faults_at attribute_number attribute_places rest s)))

sites_met : (sites : Sites AttributeSite) (best : Option Fault) → noted sites best ≡ met best (faults_in (faults_at attribute_number attribute_places attribute_rules) sites)
sites_met nowhere best = refl
sites_met (only s) best = rules_met attribute_rules s best
sites_met (within r a) best = sites_met a best
sites_met (a & b) best =
    sites_met b (noted a best)
    ∙ (ap (λ x. met x (faults_in (faults_at attribute_number attribute_places attribute_rules) b)) (sites_met a best)
    ∙ sym (met-append best (faults_in (faults_at attribute_number attribute_places attribute_rules) a) (faults_in (faults_at attribute_number attribute_places attribute_rules) b)))

met_least : (best : Fault) (faults : List Fault) → met (Some best) faults ≡ Some (least_from best faults)
met_least best [] = refl
met_least best (f ∷ rest) = met_least (if is_earlier f best then f else best) rest

met_first : (faults : List Fault) → met None faults ≡ first_of faults
met_first [] = refl
met_first (f ∷ rest) = met_least f rest

pub first_is : (typed : Typed) → noted (sites_of typed) None ≡ first_attribute_fault typed
first_is typed = sites_met (sites_of typed) None ∙ met_first (faults_in (faults_at attribute_number attribute_places attribute_rules) (sites_of typed))
