-- Parts of an expression that have values, and parts that have types.
use Rattle.std.proofs.Common.{◌≡◌, Bool, true, false, not, List, [], ◌∷◌, ◌++◌, Option, Some, None, refl, subst, cond}
use Rattle.wg_words.specs.declared.place.Place.{Place}
use Rattle.wg_typing.specs.Conversions.{fits}
use Rattle.wg_typing.specs.Layers.{typed_at, typed_part, all_typed_parts, convert, fit, call_of}
use Rattle.wg_typing.specs.RulesShared.{no_value_at, no_value}
use Rattle.wg_typed.specs.declared.types.TypeTree.{TypeTree}
use Rattle.wg_typing.specs.declared.scope.Act.TheVariants as act
use Rattle.wg_typing.specs.declared.scope.Value.{Value}
use Rattle.wg_typing.specs.declared.scope.Value.TheVariants as value
use Rattle.wg_typing.proofs.Facts.{Empty, Has, both, has_then, has_where, is_false, is_some_has, not_false}
use Rattle.wg_typing.specs.TypingActs.{called_at, is_output, is_sync, call_in}
use Rattle.wg_typing.specs.declared.part.Part.{Part}
use Rattle.wg_typing.specs.declared.part.TypedPart.{TypedPart}
use Rattle.wg_typing.specs.declared.part.NamedCall.{NamedCall}
use Rattle.wg_typing.specs.PartSites.{all_are_typed, where_typed, is_typed, site_if, goal_site}
use Rattle.wg_typing.specs.Site.{Site, AtGoal}
use Rattle.wg_typing.specs.Sites.{Sites, nowhere, at_if}
use Rattle.wg_typing.proofs.Sites.{Clear, Well, well_only}
use Rattle.wg_typing.specs.declared.fault.TypingRule.TheVariants.{Mismatch}

-- ---- parts that have values

abbrev pub Whole : Part → Type 0
Whole p = Has p.value

abbrev pub AllWhole : List Part → Type 0
AllWhole [] = Unit {0}
AllWhole (p ∷ rest) = Whole p × AllWhole rest

pub all_whole_left : (xs ys : List Part) → AllWhole xs → AllWhole ys → AllWhole (xs ++ ys)
all_whole_left [] ys h k = k
all_whole_left (p ∷ xs) ys h k = (h.0, all_whole_left xs ys h.1 k)

-- ---- parts that have types

abbrev pub IsTyped : Part → Type 0
IsTyped p = Has (typed_part p)

abbrev pub AllTyped : List Part → Type 0
AllTyped [] = Unit {0}
AllTyped (p ∷ rest) = IsTyped p × AllTyped rest

-- a value that is no output call and no syncing barrier, and breaks no rule where a value is wanted
value_typed : (p : Place) (v : Option Value) (k : Option NamedCall) → Has v → Empty (no_value_at p v) → Empty (called_at is_output (call_in v k)) → Empty (called_at is_sync (call_in v k)) → Has (typed_at p v)
value_typed p None k h n o s = absurd h
value_typed p (Some (value.Typed of standing tree)) k h n o s = tt
value_typed p (Some (value.Object object element)) k h n o s = absurd n
value_typed p (Some (value.Text bytes)) k h n o s = absurd n
value_typed p (Some (value.Act name (act.Step step))) k h n o s = absurd n
value_typed p (Some (value.Act name (act.Barrier true))) k h n o s = absurd s
value_typed p (Some (value.Act name (act.Barrier false))) k h n o s = absurd n
value_typed p (Some (value.Act name (act.Request group output number element amount))) k h n o s = absurd o
value_typed p (Some (value.Act name (act.Increment group output element amount))) k h n o s = absurd o
value_typed p (Some (value.Act name (act.Complete handle))) k h n o s = absurd o
value_typed p (Some (value.Act name (act.Finished tracked))) k h n o s = absurd o

pub part_typed : (p : Part) → Whole p → Empty (no_value p) → Empty (called_at is_output (call_of p)) → Empty (called_at is_sync (call_of p)) → IsTyped p
part_typed p = value_typed p.place p.value p.by_name

are_typed : (parts : List Part) → AllTyped parts → all_are_typed parts ≡ true
are_typed [] h = refl
are_typed (p ∷ rest) h = both (is_typed p) _ (is_some_has (typed_part p) h.0) (are_typed rest h.1)

pub well_if : (b : Bool) (sites : Sites Site) → b ≡ true → Well (cond b sites nowhere) → Well sites
well_if true sites e w = w
well_if false sites e w = absurd (cc)

-- what is looked at where all parts have types
pub said : (parts : List Part) (sites : Sites Site) → AllTyped parts → Well (where_typed parts sites) → Well sites
said parts sites h = well_if (all_are_typed parts) sites (are_typed parts h)

-- a test that is looked at
pub holds : (b : Bool) (p : Place) → Empty (at_if (not b) p) → b ≡ true
holds b p h = not_false b (is_false (not b) p h)

-- what is looked at where a part has a type
pub site_is : (at : TypedPart → Site) (o : Option TypedPart) (t : TypedPart) → o ≡ Some t → Well (site_if at o) → Clear (at t)
site_is at o t e w = well_only (subst (λ o. Well (site_if at o)) e w)

pub has_all_parts : (parts : List Part) → AllTyped parts → Has (all_typed_parts parts)
has_all_parts [] h = tt
has_all_parts (p ∷ rest) h = has_then (typed_part p) _ h.0 (λ t e. has_then (all_typed_parts rest) _ (has_all_parts rest h.1) (λ ts f. tt))

-- ---- conversions

pub has_convert : (goal : TypeTree) (t : TypedPart) → fits t.of goal ≡ true → Has (convert goal t)
has_convert goal t e = has_where (fits t.of goal) _ e

pub goal_fits : (goal : TypeTree) (p : Part) (t : TypedPart) → typed_part p ≡ Some t → Well (goal_site goal p) → fits t.of goal ≡ true
goal_fits goal p t e w = holds (fits t.of goal) t.place ((site_is (AtGoal goal) (typed_part p) t e w).clear Mismatch)

pub has_fit : (goal : TypeTree) (p : Part) → IsTyped p → Well (goal_site goal p) → Has (fit goal p)
has_fit goal p h w = has_then (typed_part p) _ h (λ t e. has_convert goal t (goal_fits goal p t e w))
