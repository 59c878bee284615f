-- A constructor of parts that have types is the constructor of the definitions.
use Rattle.std.proofs.Common.{◌≡◌, Bool, true, false, ◌&&◌, if◌then◌else◌, is_some, List, [], ◌∷◌, Option, Some, None, refl, sym, ap, ◌∙◌}
use Rattle.wg_words.specs.declared.place.Place.{Place}
use Rattle.wg_words.specs.Maybe.{◌>>=◌}
use Rattle.wg_tree.specs.declared.expr.ValueType.{ValueType}
use Rattle.wg_tree.specs.declared.expr.ValueType.TheVariants as value_type
use Rattle.wg_typing.specs.Conversions.{numbers, of_value_type}
use Rattle.wg_typing.specs.Layers.{typed_part, all_typed_parts}
use Rattle.wg_typing.specs.PartSites as s
use Rattle.wg_typing.specs.Site.{Site, AtComponent}
use Rattle.wg_typing.specs.Sites.{Sites, nowhere, only, ◌&◌}
use Rattle.wg_typing.specs.TypingConstructor.{constructed}
use Rattle.wg_typing.specs.TypingIntrinsic.{all_numbers}
use Rattle.wg_typing.specs.declared.numbers.Numbers.{Numbers}
use Rattle.wg_typing.specs.declared.part.Part.{Part}
use Rattle.wg_typing.specs.declared.part.TypedPart.{TypedPart}
use Rattle.wg_arguments.specs.Arguments.{each_at, goal_in, constructed_from, construct_sites, count_site}

pub construct_is : (place : Place) (of : ValueType) (parts : List Part) → constructed_from place (goal_in of) (all_typed_parts parts) ≡ (numbers (of_value_type of) >>= (λ goal. constructed place goal parts))
construct_is place (value_type.Scalar of) parts = refl
construct_is place (value_type.Vector of size) parts = refl

-- whether all parts have types, and the sites of each where they have
abbrev Says : (TypedPart → Site) → Option (List TypedPart) → Bool → Sites Site → Type 0
Says at None typed sites = typed ≡ false
Says at (Some ts) typed sites = (typed ≡ true) × (sites ≡ each_at at ts)

says_on : (at : TypedPart → Site) (o : Option TypedPart) (os : Option (List TypedPart)) (typed : Bool) (sites : Sites Site) → Says at os typed sites
    → Says at (o >>= (λ first. os >>= (λ others. Some (first ∷ others)))) (is_some o && typed) (s.site_if at o & sites)
says_on at None os typed sites h = refl
says_on at (Some t) None typed sites h = h
says_on at (Some t) (Some ts) typed sites h = (h.0, ap (λ sites. only (at t) & sites) h.1)

says : (at : TypedPart → Site) (parts : List Part) → Says at (all_typed_parts parts) (s.all_are_typed parts) (s.each_site at parts)
says at [] = (refl, refl)
says at (p ∷ parts) = says_on at (typed_part p) (all_typed_parts parts) (s.all_are_typed parts) (s.each_site at parts) (says at parts)

count_is : (place : Place) (goal : Numbers) (ns : Option (List Numbers)) → count_site place goal ns ≡ s.components_site place (Some goal) ns
count_is place goal None = refl
count_is place goal (Some ns) = refl

sites_from : (place : Place) (goal : Numbers) (o : Option (List TypedPart)) (typed : Bool) (sites : Sites Site) → Says (AtComponent goal.size) o typed sites
    → construct_sites place goal o ≡ (if typed then sites & s.components_site place (Some goal) (o >>= all_numbers) else nowhere)
sites_from place goal None typed sites h = sym (ap (λ b. if b then sites & s.components_site place (Some goal) None else nowhere) h)
sites_from place goal (Some ts) typed sites h =
    ap (λ at. each_at (AtComponent goal.size) ts & at) (count_is place goal (all_numbers ts))
    ∙ sym (ap (λ b. if b then sites & s.components_site place (Some goal) (all_numbers ts) else nowhere) h.0 ∙ ap (λ at. at & s.components_site place (Some goal) (all_numbers ts)) h.1)

of_goal : (place : Place) (goal : Numbers) (parts : List Part) → construct_sites place goal (all_typed_parts parts) ≡ s.where_typed parts (s.each_site (AtComponent goal.size) parts & s.components_site place (Some goal) (all_typed_parts parts >>= all_numbers))
of_goal place goal parts = sites_from place goal (all_typed_parts parts) (s.all_are_typed parts) (s.each_site (AtComponent goal.size) parts) (says (AtComponent goal.size) parts)

pub sites_are : (place : Place) (of : ValueType) (parts : List Part) → construct_sites place (goal_in of) (all_typed_parts parts) ≡ s.construct_sites place of parts
sites_are place (value_type.Scalar of) parts = of_goal place (record { of = of; size = None }) parts
sites_are place (value_type.Vector of size) parts = of_goal place (record { of = of; size = Some size }) parts
