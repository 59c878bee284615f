-- Which fault of attributes is answered: the broken rule of the least place, and at one place the one of the least number. Own.
use Rattle.std.specs.Prelude.{◌≡◌, ◌⊎◌, ◌==◌, ℕ, if◌then◌else◌, Result, Ok, Err}
use Rattle.wg_words.specs.declared.place.Place.{Place}
use Rattle.wg_typing.specs.Attributes.{BreaksAttributes, attribute_number}
use Rattle.wg_typing.specs.Faults.{Leads}
use Rattle.wg_typed.specs.declared.typed.Typed.{Typed}
use Rattle.wg_typing.specs.declared.fault.AttributeRule.{AttributeRule}
use Rattle.wg_typing.specs.declared.fault.AttributeRule.TheVariants.{Unknown, Missing, Twice, Range, WrongMode}
use Rattle.wg_typing.specs.declared.fault.Fault.{Fault}
use Rattle.wg_attrs.specs.declared.fault.AttrFault.{AttrFault}
use Rattle.wg_attrs.specs.declared.fault.AttrFault.TheVariants as fault

abbrev pub broken_at : AttributeRule → Place → Fault
broken_at rule place = record { rule = attribute_number rule; place = place }

-- the rule is broken there, and any broken rule stands at a later place, or there and has no lesser number
pub record IsFirstBroken (typed : Typed) (rule : AttributeRule) (place : Place) : Type 0 where
  pub broken : BreaksAttributes rule place typed
  pub least : (other : AttributeRule) (p : Place) → BreaksAttributes other p typed → Leads (broken_at rule place) (broken_at other p)

-- the fault has its cause in the text; want of memory needs none
abbrev pub IsFault : Typed → AttrFault → Type 0
IsFault typed (fault.Unknown place) = IsFirstBroken typed Unknown place
IsFault typed (fault.Missing place) = IsFirstBroken typed Missing place
IsFault typed (fault.Twice place) = IsFirstBroken typed Twice place
IsFault typed (fault.Range place) = IsFirstBroken typed Range place
IsFault typed (fault.WrongMode place) = IsFirstBroken typed WrongMode place
IsFault typed fault.Memory = Unit {0}

-- how a broken rule is answered
abbrev pub told : AttributeRule → Place → AttrFault
told Unknown place = fault.Unknown place
told Missing place = fault.Missing place
told Twice place = fault.Twice place
told Range place = fault.Range place
told WrongMode place = fault.WrongMode place

-- the result is this fault, unless there was no memory
abbrev pub Tells : {A : Type 0} → AttrFault → Result A AttrFault → Type 0
Tells expected (Ok a) = ⊥
Tells expected (Err f) = (f ≡ expected) ⊎ (f ≡ fault.Memory)

-- the rule of a number from 401 to 405
abbrev pub rule_numbered : ℕ → AttributeRule
rule_numbered n =
    if n == 401 then Unknown else
    if n == 402 then Missing else
    if n == 403 then Twice else
    if n == 404 then Range else WrongMode
