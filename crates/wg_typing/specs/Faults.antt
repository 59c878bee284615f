-- The faults of a text as one list, and the first of them: the least place, and at one place the least number. Own.
use Rattle.std.specs.Prelude.{ℕ, ◌≡◌, ◌<◌, ◌≤◌, ◌⊎◌, ◌==◌, ◌&&◌, ◌||◌, Bool, nat_lt, if◌then◌else◌, List, [], ◌∷◌, ◌++◌, Option, Some, None}
use Rattle.wg_words.specs.declared.place.Place.{Place}
use Rattle.wg_typing.specs.Sites.{Sites, nowhere, only, within, ◌&◌, In}
use Rattle.wg_typing.specs.Typing.{typing_number, places, sites}
use Rattle.wg_tree.specs.declared.item.Source.{Source}
use Rattle.wg_typing.specs.Attributes.{attribute_number, attribute_places}
use Rattle.wg_typing.specs.AttributeSites.{sites_of}
use Rattle.wg_typed.specs.declared.typed.Typed.{Typed}
use Rattle.wg_typing.specs.declared.fault.TypingRule.{TypingRule}
use Rattle.wg_typing.specs.declared.fault.AttributeRule.{AttributeRule}
use Rattle.wg_typing.specs.declared.fault.Fault.{Fault}
use Rattle.wg_typing.specs.declared.fault.TypingRule.TheVariants.{UnknownName, Repeated, Mismatch, NotAssignable, Recursion, LimitPassed, BadBarrier, BadOutputCall, NotCompleted, WrongArity, OutOfProfile}
use Rattle.wg_typing.specs.declared.fault.AttributeRule.TheVariants.{Unknown, Missing, Twice, Range, WrongMode}

abbrev pub typing_rules : List TypingRule
typing_rules = UnknownName ∷ Repeated ∷ Mismatch ∷ NotAssignable ∷ Recursion ∷ LimitPassed ∷ BadBarrier ∷ BadOutputCall ∷ NotCompleted ∷ WrongArity ∷ OutOfProfile ∷ []

abbrev pub tagged : ℕ → List Place → List Fault
tagged number [] = []
tagged number (p ∷ rest) = record { rule = number; place = p } ∷ tagged number rest

-- what the rules of a list, each with its number and its places at a site, say of the site
abbrev pub faults_at : {R S : Type 0} → (R → ℕ) → (R → S → List Place) → List R → S → List Fault
faults_at number where_broken [] s = []
faults_at number where_broken (r ∷ rest) s = tagged (number r) (where_broken r s) ++ faults_at number where_broken rest s

abbrev pub faults_in : {S : Type 0} → (S → List Fault) → Sites S → List Fault
faults_in at nowhere = []
faults_in at (only s) = at s
faults_in at (within r a) = faults_in at a
faults_in at (a & b) = faults_in at a ++ faults_in at b

-- all faults of types of a text
abbrev pub faults : Source → List Fault
faults tree = faults_in (faults_at typing_number places typing_rules) (sites tree)

-- ---- the first one

abbrev pub is_before : Place → Place → Bool
is_before a b = nat_lt a.line b.line || (a.line == b.line && nat_lt a.column b.column)

abbrev pub same_place : Place → Place → Bool
same_place a b = a.line == b.line && a.column == b.column

-- at an earlier place, or at the same place of a lesser number
abbrev pub is_earlier : Fault → Fault → Bool
is_earlier a b = is_before a.place b.place || (same_place a.place b.place && nat_lt a.rule b.rule)

-- the numbers are in this order, or they are equal and the rest holds
abbrev pub InOrder : ℕ → ℕ → Type 0 → Type 0
InOrder m n Rest = (m < n) ⊎ ((m ≡ n) × Rest)

-- the first one stands at an earlier place, or at the same place and has no greater number
abbrev pub Leads : Fault → Fault → Type 0
Leads a b = InOrder a.place.line b.place.line (InOrder a.place.column b.place.column (a.rule ≤ b.rule))

-- one of the list that leads all of it
pub record IsFirst (all : List Fault) (f : Fault) : Type 0 where
  pub listed : In all f
  pub leads : (other : Fault) → In all other → Leads f other

abbrev pub least_from : Fault → List Fault → Fault
least_from best [] = best
least_from best (f ∷ rest) = least_from (if is_earlier f best then f else best) rest

abbrev pub first_of : List Fault → Option Fault
first_of [] = None
first_of (f ∷ rest) = Some (least_from f rest)

-- the fault that is answered
abbrev pub first_fault : Source → Option Fault
first_fault tree = first_of (faults tree)

-- ---- attributes

abbrev pub attribute_rules : List AttributeRule
attribute_rules = Unknown ∷ Missing ∷ Twice ∷ Range ∷ WrongMode ∷ []

-- all faults of attributes of a typed text
abbrev pub attribute_faults : Typed → List Fault
attribute_faults typed = faults_in (faults_at attribute_number attribute_places attribute_rules) (sites_of typed)

abbrev pub first_attribute_fault : Typed → Option Fault
first_attribute_fault typed = first_of (attribute_faults typed)
