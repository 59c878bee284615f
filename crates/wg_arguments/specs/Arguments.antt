-- Lists of parts that have types: what is gathered of them, and what is noted. Own.
use Rattle.std.specs.Prelude.{ℕ, ◌==◌, ◌&&◌, Bool, List, [], ◌∷◌, map, Option, Some, None}
use Rattle.wg_words.specs.declared.place.Place.{Place}
use Rattle.wg_words.specs.Maybe.{◌>>=◌}
use Rattle.wg_tree.specs.declared.expr.Scalar.{Scalar}
use Rattle.wg_tree.specs.declared.expr.ValueType.{ValueType}
use Rattle.wg_tree.specs.declared.expr.ValueType.TheVariants as value_type
use Rattle.wg_typed.specs.declared.typed_expr.TypedExpr.{TypedExpr}
use Rattle.wg_typed.specs.declared.typed_expr.TypedKind.TheVariants as tree
use Rattle.wg_typing.specs.Conversions.{type_of}
use Rattle.wg_typing.specs.Layers.{convert, fixed}
use Rattle.wg_typing.specs.Maybe.{where_true}
use Rattle.wg_typing.specs.Site.{Site, AtComponent, AtCount}
use Rattle.wg_typing.specs.Sites.{Sites, nowhere, only, ◌&◌}
use Rattle.wg_typing.specs.TypingConstructor.{component_count, components, all_make}
use Rattle.wg_typing.specs.TypingIntrinsic.{all_numbers, convert_all}
use Rattle.wg_typing.specs.declared.numbers.Numbers.{Numbers}
use Rattle.wg_typing.specs.declared.part.TypedPart.{TypedPart}
use Rattle.wg_typing.specs.declared.scope.Value.{Value}
use Rattle.wg_notes.specs.Notes.{more}

-- those of a list after these, where all are there
abbrev pub gathered : {A : Type 0} → Option (List A) → List (Option A) → Option (List A)
gathered done [] = done
gathered done (a ∷ rest) = gathered (more done a) rest

-- parts in the types that are wanted of them, one of each
abbrev pub converted : Option (List TypedExpr) → List Numbers → List TypedPart → Option (List TypedExpr)
converted those [] [] = those
converted those [] (t ∷ ts) = None
converted those (n ∷ ns) [] = None
converted those (n ∷ ns) (t ∷ ts) = converted (more those (convert (type_of n) t)) ns ts

-- each of them
abbrev pub each_at : (TypedPart → Site) → List TypedPart → Sites Site
each_at at [] = nowhere
each_at at (t ∷ rest) = only (at t) & each_at at rest

-- ---- constructors

-- as the scalar that is made, of their sizes
abbrev pub made_of : Scalar → List Numbers → List Numbers
made_of of ns = map (λ (n : Numbers). record { of = of; size = n.size }) ns

-- whether they make so many components
abbrev pub counts : Option ℕ → List Numbers → Bool
counts size ns = component_count ns == components size

abbrev pub made : Place → Numbers → List TypedPart → Option (List Numbers) → Option Value
made place goal ts ns = do
  ns ← ns
  trees ← where_true (counts goal.size ns && all_make goal.size ts) ns >>= (λ ns. convert_all (made_of goal.of ns) ts)
  fixed place (type_of goal) (tree.Construct trees)

-- the scalar that is made, and how many of it
abbrev pub goal_in : ValueType → Numbers
goal_in (value_type.Scalar of) = record { of = of; size = None }
goal_in (value_type.Vector of n) = record { of = of; size = Some n }

abbrev pub constructed_from : Place → Numbers → Option (List TypedPart) → Option Value
constructed_from place goal ts = ts >>= (λ ts. made place goal ts (all_numbers ts))

-- how many components they make, where all are numbers
abbrev pub count_site : Place → Numbers → Option (List Numbers) → Sites Site
count_site place goal None = nowhere
count_site place goal (Some ns) = only (AtCount place (counts goal.size ns))

abbrev pub made_sites : Place → Numbers → List TypedPart → Sites Site
made_sites place goal ts = each_at (AtComponent goal.size) ts & count_site place goal (all_numbers ts)

abbrev pub construct_sites : Place → Numbers → Option (List TypedPart) → Sites Site
construct_sites place goal None = nowhere
construct_sites place goal (Some ts) = made_sites place goal ts
