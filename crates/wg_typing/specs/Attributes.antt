-- The rules of attributes, numbers 401 to 405: a text breaks one at a place where a site of it does (DirectX-Specs, Work Graphs, shader function
-- attributes, node inputs and node outputs). The numbers, and which rule a text breaks that breaks several, are own.
use Rattle.std.specs.Prelude.{ℕ, List}
use Rattle.wg_words.specs.declared.place.Place.{Place}
use Rattle.wg_typing.specs.Sites.{Among, In}
use Rattle.wg_typing.specs.AttributeSites.{AttributeSite, sites_of}
use Rattle.wg_typing.specs.AttributeUnknown.{unknown_at}
use Rattle.wg_typing.specs.AttributeMissing.{missing_at}
use Rattle.wg_typing.specs.AttributeTwice.{twice_at}
use Rattle.wg_typing.specs.AttributeRange.{range_at}
use Rattle.wg_typing.specs.AttributeWrongMode.{wrong_mode_at}
use Rattle.wg_typed.specs.declared.typed.Typed.{Typed}
use Rattle.wg_typing.specs.declared.fault.AttributeRule.{AttributeRule}
use Rattle.wg_typing.specs.declared.fault.AttributeRule.TheVariants.{Unknown, Missing, Twice, Range, WrongMode}

abbrev pub attribute_number : AttributeRule → ℕ
attribute_number Unknown = 401
attribute_number Missing = 402
attribute_number Twice = 403
attribute_number Range = 404
attribute_number WrongMode = 405

-- where a site breaks a rule
abbrev pub attribute_places : AttributeRule → AttributeSite → List Place
attribute_places Unknown s = unknown_at s
attribute_places Missing s = missing_at s
attribute_places Twice s = twice_at s
attribute_places Range s = range_at s
attribute_places WrongMode s = wrong_mode_at s

-- a rule is broken at a place of the text
abbrev pub BreaksAttributes : AttributeRule → Place → Typed → Type 0
BreaksAttributes rule place typed = (s : AttributeSite) × Among (sites_of typed) s × In (attribute_places rule s) place

abbrev pub AreRight : Typed → Type 0
AreRight typed = (rule : AttributeRule) (place : Place) → BreaksAttributes rule place typed → ⊥
