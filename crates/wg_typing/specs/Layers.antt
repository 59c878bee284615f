-- One layer of an expression, whose parts are shown by what they are.
use Rattle.std.specs.Prelude.{Bool, true, false, List, [], ◌∷◌, map, Option, Some, None}
use Rattle.wg_words.specs.declared.place.Place.{Place}
use Rattle.wg_words.specs.Maybe.{◌>>=◌}
use Rattle.wg_typing.specs.Maybe.{where_true, all_of}
use Rattle.wg_typing.specs.Conversions.{same_type, fits}
use Rattle.wg_tree.specs.declared.expr.Expr.TheOpen.{Expr-F}
use Rattle.wg_typed.specs.declared.types.TypeTree.{TypeTree}
use Rattle.wg_typed.specs.declared.typed_expr.TypedExpr.{TypedExpr, roll-TypedExpr}
use Rattle.wg_typed.specs.declared.typed_expr.TypedKind.{TypedKind}
use Rattle.wg_typed.specs.declared.typed_expr.TypedKind.TheVariants as tree
use Rattle.wg_typing.specs.declared.scope.Standing.{Standing}
use Rattle.wg_typing.specs.declared.scope.Standing.TheVariants as standing
use Rattle.wg_typing.specs.declared.scope.Value.{Value}
use Rattle.wg_typing.specs.declared.scope.Value.TheVariants as value
use Rattle.wg_typing.specs.declared.scope.Act.{Act}
use Rattle.wg_typing.specs.TypingActs.{call_in}
use Rattle.wg_typing.specs.declared.part.NamedCall.{NamedCall}
use Rattle.wg_typing.specs.declared.part.FormLayer.{FormLayer}
use Rattle.wg_typing.specs.declared.part.LinkLayer.{LinkLayer}
use Rattle.wg_typing.specs.declared.part.Part.{Part}
use Rattle.wg_typing.specs.declared.part.TypedPart.{TypedPart}
use Rattle.wg_typing.specs.declared.part.FormLayer.TheVariants as form_layer

-- ---- layers

abbrev pub Layer : Type 0 → Type 0
Layer P = Expr-F P (FormLayer P) (LinkLayer P)

abbrev pub map_form : {P Q : Type 0} → (P → Q) → FormLayer P → FormLayer Q
map_form f (form_layer.Member name) = form_layer.Member name
map_form f (form_layer.Method name arguments) = form_layer.Method name (map f arguments)
map_form f (form_layer.Index at) = form_layer.Index (f at)

abbrev pub map_link : {P Q : Type 0} → (P → Q) → LinkLayer P → LinkLayer Q
map_link f l = record { operator = l.operator; operand = f l.operand }

abbrev pub map_layer : {P Q : Type 0} → (P → Q) → Layer P → Layer Q
map_layer f (Expr-F.Number place value unsigned long) = Expr-F.Number place value unsigned long
map_layer f (Expr-F.Text place bytes) = Expr-F.Text place bytes
map_layer f (Expr-F.Truth place b) = Expr-F.Truth place b
map_layer f (Expr-F.Name name) = Expr-F.Name name
map_layer f (Expr-F.Call name arguments) = Expr-F.Call name (map f arguments)
map_layer f (Expr-F.Construct place of arguments) = Expr-F.Construct place of (map f arguments)
map_layer f (Expr-F.Bracket place inner) = Expr-F.Bracket place (f inner)
map_layer f (Expr-F.Prefix place operator operand) = Expr-F.Prefix place operator (f operand)
map_layer f (Expr-F.Cast place to operand) = Expr-F.Cast place to (f operand)
map_layer f (Expr-F.Zeros place of) = Expr-F.Zeros place of
map_layer f (Expr-F.Postfix first forms) = Expr-F.Postfix (f first) (map (map_form f) forms)
map_layer f (Expr-F.Chain first rest) = Expr-F.Chain (f first) (map (map_link f) rest)
map_layer f (Expr-F.Choice test a b) = Expr-F.Choice (f test) (f a) (f b)

-- ---- parts

abbrev pub call_of : Part → Option NamedCall
call_of p = call_in p.value p.by_name

abbrev pub typed_at : Place → Option Value → Option TypedPart
typed_at place (Some (value.Typed of standing tree)) = Some (record { place = place; of = of; standing = standing; tree = tree })
typed_at place (Some (value.Object object element)) = None
typed_at place (Some (value.Act name act)) = None
typed_at place (Some (value.Text bytes)) = None
typed_at place None = None

abbrev pub typed_part : Part → Option TypedPart
typed_part p = typed_at p.place p.value

abbrev pub all_typed_parts : List Part → Option (List TypedPart)
all_typed_parts parts = all_of (map typed_part parts)

-- ---- typed forms

abbrev pub tree_of : Place → TypeTree → TypedKind → TypedExpr
tree_of place of kind = roll-TypedExpr (record { kind = kind; of = of; place = place })

-- an expression of a kind, which can be assigned or not
abbrev pub valued : Standing → Place → TypeTree → TypedKind → Option Value
valued standing place of kind = Some (value.Typed of standing (tree_of place of kind))

-- one that cannot be assigned
abbrev pub fixed : Place → TypeTree → TypedKind → Option Value
fixed = valued standing.Fixed

abbrev pub act : Place → Act → Option Value
act name a = Some (value.Act name a)

-- a conversion is written where the types differ
abbrev pub written : Bool → TypeTree → TypedPart → TypedExpr
written true goal t = t.tree
written false goal t = tree_of t.place goal (tree.Convert t.tree)

abbrev pub convert : TypeTree → TypedPart → Option TypedExpr
convert goal t = where_true (fits t.of goal) (written (same_type t.of goal) goal t)

-- a part in the type that is wanted of it
abbrev pub fit : TypeTree → Part → Option TypedExpr
fit goal p = typed_part p >>= convert goal

-- parts in the types that are wanted of them, one of each
abbrev pub fit_all : List TypeTree → List Part → Option (List TypedExpr)
fit_all [] [] = Some []
fit_all [] (p ∷ parts) = None
fit_all (t ∷ types) [] = None
fit_all (t ∷ types) (p ∷ parts) = do
  first ← fit t p
  others ← fit_all types parts
  Some (first ∷ others)
