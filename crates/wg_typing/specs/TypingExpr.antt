-- The typed form of an expression, and its sites: a fold over one layer of the tree (HLSL Shader Model 6.8, expressions).
use Rattle.std.specs.Prelude.{ℕ, is_none, if◌then◌else◌, List, [], ◌∷◌, map, Option, Some, None}
use Rattle.wg_words.specs.declared.place.Place.{Place}
use Rattle.wg_words.specs.Maybe.{◌>>=◌}
use Rattle.wg_typing.specs.Conversions.{numbers, of_value_type}
use Rattle.wg_typing.specs.Scope.{Context, look}
use Rattle.wg_typing.specs.Layers.{map_form, typed_part, Layer, map_layer, call_of, map_link}
use Rattle.wg_typing.specs.TypingCallee.{callee}
use Rattle.wg_typing.specs.TypingCalls.{call_value}
use Rattle.wg_typing.specs.TypingConstructor.{constructed}
use Rattle.wg_typing.specs.Sites.{Sites, nowhere, only, ◌&◌, all_sites}
use Rattle.wg_typing.specs.Site.{Site, AtNamed, AtValue, AtCall, AtNumber, AtForm, AtType, AtUsed}
use Rattle.wg_typing.specs.TypingName.{number_value, truth_value, named_value}
use Rattle.wg_typing.specs.TypingOperators.{typed_of, type_after, prefix_value, cast_value, zeros_value, choice_value, chain_value}
use Rattle.wg_typing.specs.TypingForms.{begun, form_on, postfix_value}
use Rattle.wg_typing.specs.PartSites.{part_site, goal_site, link_site, choice_sites, construct_sites, call_sites, form_sites}
use Rattle.wg_tree.specs.declared.expr.TypeName.TheVariants as type_name
use Rattle.wg_typing.specs.TypingFlags.{layer_pieces, are_flags}
use Rattle.wg_tree.specs.declared.expr.Named.{Named}
use Rattle.wg_tree.specs.declared.expr.Expr.{Expr, fold-Expr}
use Rattle.wg_tree.specs.declared.expr.Expr.TheOpen.{Expr-F, Form-F, Link-F}
use Rattle.wg_typed.specs.declared.types.TypeTree.{TypeTree}
use Rattle.wg_typing.specs.declared.scope.Value.{Value}
use Rattle.wg_typing.specs.declared.scope.Value.TheVariants as value
use Rattle.wg_typing.specs.TypingCalled.{layer_called, broken_call, form_called}
use Rattle.wg_typing.specs.declared.context.Around.{Around}
use Rattle.wg_typing.specs.declared.part.FormLayer.{FormLayer}
use Rattle.wg_typing.specs.declared.part.LinkLayer.{LinkLayer}
use Rattle.wg_typing.specs.declared.part.Part.{Part}
use Rattle.wg_typing.specs.declared.called.CalledName.{CalledName}
use Rattle.wg_typing.specs.declared.part.Along.{Along}
use Rattle.wg_typing.specs.declared.part.FormLayer.TheVariants as form_layer
use Rattle.wg_typing.specs.declared.called.CalledName.TheVariants as called_name
use Rattle.wg_typing.specs.declared.called.Builtin.TheVariants as builtin

-- the typed form of an expression whose parts have these; none where a part has none or a rule is broken
abbrev pub layer_value : Context → Place → Layer Part → Option Value
layer_value c place (Expr-F.Number at n unsigned long) = number_value place n unsigned long
layer_value c place (Expr-F.Text at bytes) = Some (value.Text bytes)
layer_value c place (Expr-F.Truth at b) = truth_value place b
layer_value c place (Expr-F.Name name) = named_value c.around name (look name.name c.names)
layer_value c place (Expr-F.Call name parts) = call_value c place (callee c name) parts
layer_value c place (Expr-F.Construct at of parts) = numbers (of_value_type of) >>= (λ goal. constructed place goal parts)
layer_value c place (Expr-F.Bracket at inner) = inner.value
layer_value c place (Expr-F.Prefix at operator operand) = prefix_value place operator operand
layer_value c place (Expr-F.Cast at to operand) = cast_value place (of_value_type to) operand
layer_value c place (Expr-F.Zeros at of) = zeros_value place (look of.name c.names)
layer_value c place (Expr-F.Postfix first forms) = postfix_value c place first forms
layer_value c place (Expr-F.Chain first rest) = chain_value place first rest
layer_value c place (Expr-F.Choice test first second) = choice_value place test first second

-- what an expression that is alone is
pub data Alone : Type 0 where
  a_text : List ℕ → Alone
  a_name : Named → Alone
  neither : Alone

-- an expression as a part, its sites, its sites as an argument of a barrier, and what it is alone
pub record ExprForm : Type 0 where
  pub part : Part
  pub sites : Sites Site
  pub flag_sites : Sites Site
  pub alone : Alone

abbrev pub first_token : Layer Part → Place
first_token (Expr-F.Number at n unsigned long) = at
first_token (Expr-F.Text at bytes) = at
first_token (Expr-F.Truth at b) = at
first_token (Expr-F.Name name) = name.place
first_token (Expr-F.Call name parts) = name.place
first_token (Expr-F.Construct at of parts) = at
first_token (Expr-F.Bracket at inner) = at
first_token (Expr-F.Prefix at operator operand) = at
first_token (Expr-F.Cast at to operand) = at
first_token (Expr-F.Zeros at of) = at
first_token (Expr-F.Postfix first forms) = first.place
first_token (Expr-F.Chain first rest) = first.place
first_token (Expr-F.Choice test a b) = test.place

-- an expression that has to be a value
abbrev pub value_sites : Around → ExprForm → Sites Site
value_sites around s = s.sites & only (AtValue around s.part)

abbrev pub values_sites : Around → List ExprForm → Sites Site
values_sites around [] = nowhere
values_sites around (s ∷ rest) = value_sites around s & values_sites around rest

abbrev pub flag_sites_of_all : List ExprForm → Sites Site
flag_sites_of_all arguments = all_sites (map (λ (s : ExprForm). s.flag_sites) arguments)

-- the arguments of `Barrier` are read as flags
abbrev pub given_sites : Around → CalledName → List ExprForm → Sites Site
given_sites around (called_name.Builtin builtin.BarrierOf) arguments = flag_sites_of_all arguments
given_sites around _ arguments = values_sites around arguments

abbrev pub link_flag_sites : LinkLayer ExprForm → Sites Site
link_flag_sites l = l.operand.flag_sites

abbrev pub part_of : ExprForm → Part
part_of s = s.part

-- the sites of an argument of a barrier: a flag and the number 0 have none, an expression that is no flag has its own
abbrev pub flags_at : Context → Sites Site → Layer ExprForm → Sites Site
flags_at c own (Expr-F.Number at n unsigned long) = nowhere
flags_at c own (Expr-F.Text at bytes) = own
flags_at c own (Expr-F.Truth at b) = own
flags_at c own (Expr-F.Name name) = nowhere
flags_at c own (Expr-F.Call name arguments) = own
flags_at c own (Expr-F.Construct at of arguments) = own
flags_at c own (Expr-F.Bracket at inner) = inner.flag_sites
flags_at c own (Expr-F.Prefix at operator operand) = own
flags_at c own (Expr-F.Cast at to operand) = own
flags_at c own (Expr-F.Zeros at of) = own
flags_at c own (Expr-F.Postfix first forms) = own
flags_at c own (Expr-F.Chain first rest) = if are_flags c first.part (map (map_link part_of) rest) then first.flag_sites & all_sites (map link_flag_sites rest) else own
flags_at c own (Expr-F.Choice test a b) = own

abbrev pub alone_of : {P : Type 0} → Layer P → Alone
alone_of (Expr-F.Number at n unsigned long) = neither
alone_of (Expr-F.Text at bytes) = a_text bytes
alone_of (Expr-F.Truth at b) = neither
alone_of (Expr-F.Name name) = a_name name
alone_of (Expr-F.Call name parts) = neither
alone_of (Expr-F.Construct at of parts) = neither
alone_of (Expr-F.Bracket at inner) = neither
alone_of (Expr-F.Prefix at operator operand) = neither
alone_of (Expr-F.Cast at to operand) = neither
alone_of (Expr-F.Zeros at of) = neither
alone_of (Expr-F.Postfix first forms) = neither
alone_of (Expr-F.Chain first rest) = neither
alone_of (Expr-F.Choice test a b) = neither

-- the part that a layer makes, at its first token
abbrev pub layer_part : Context → Layer Part → Part
layer_part c layer = record {
  place = first_token layer;
  value = layer_value c (first_token layer) layer;
  by_name = layer_called c (first_token layer) layer;
  pieces = layer_pieces c (layer_value c (first_token layer) layer) layer;
}

-- ---- the sites of a layer

-- the operators of a chain, each with the type of what stands before it
abbrev pub links_sites : Around → Place → Option TypeTree → List (LinkLayer ExprForm) → Sites Site
links_sites around place before [] = nowhere
links_sites around place before (l ∷ rest) =
    value_sites around l.operand & link_site place before l.operator (typed_part l.operand.part)
    & links_sites around place (type_after before (map_link part_of l)) rest

abbrev pub form_values : Around → FormLayer ExprForm → Sites Site
form_values around (form_layer.Member name) = nowhere
form_values around (form_layer.Method name arguments) = values_sites around arguments
form_values around (form_layer.Index at) = value_sites around at

-- of a form after a broken one no rule says anything
abbrev pub form_at : Context → Place → Option Along → FormLayer Part → Sites Site
form_at c place None f = nowhere
form_at c place (Some a) f = only (AtForm c place a f) & form_sites a f

-- what stands after one form more
abbrev pub form_after : Context → Place → Option Along → FormLayer Part → Option Along
form_after c place a f = a >>= (λ a. form_on c place a f)

-- a call with broken arguments, where a form follows
abbrev pub used_before : Context → Place → Option Along → FormLayer Part → List (FormLayer ExprForm) → Sites Site
used_before c place None f rest = nowhere
used_before c place (Some a) f [] = nowhere
used_before c place (Some a) f (g ∷ rest) = if is_none (form_on c place a f) then only (AtUsed (form_called a f)) else nowhere

-- the forms after a value, each with what stands before it
abbrev pub forms_sites : Context → Place → Option Along → List (FormLayer ExprForm) → Sites Site
forms_sites c place a [] = nowhere
forms_sites c place a (f ∷ rest) =
    form_values c.around f & form_at c place a (map_form part_of f) & used_before c place a (map_form part_of f) rest
    & forms_sites c place (form_after c place a (map_form part_of f)) rest

abbrev pub layer_sites : Context → Layer ExprForm → Sites Site
layer_sites c (Expr-F.Number at n unsigned long) = nowhere
layer_sites c (Expr-F.Text at bytes) = nowhere
layer_sites c (Expr-F.Truth at b) = nowhere
layer_sites c (Expr-F.Name name) = only (AtNamed c.around name (look name.name c.names))
layer_sites c (Expr-F.Call name arguments) =
    given_sites c.around (callee c name) arguments & only (AtCall c.around name.place (callee c name) (map part_of arguments))
    & call_sites c name.place (callee c name) (map part_of arguments)
layer_sites c (Expr-F.Construct at of arguments) = values_sites c.around arguments & construct_sites at of (map part_of arguments)
layer_sites c (Expr-F.Bracket at inner) = inner.sites
layer_sites c (Expr-F.Prefix at operator operand) = value_sites c.around operand & part_site AtNumber operand.part
layer_sites c (Expr-F.Cast at to operand) = value_sites c.around operand & goal_site (of_value_type to) operand.part
layer_sites c (Expr-F.Zeros at of) = only (AtType c (type_name.Struct of))
layer_sites c (Expr-F.Postfix first forms) = first.sites & only (AtUsed (broken_call first.part)) & forms_sites c first.part.place (begun first.part) forms
layer_sites c (Expr-F.Chain first rest) = value_sites c.around first & links_sites c.around first.part.place (typed_of first.part) rest
layer_sites c (Expr-F.Choice test a b) =
    value_sites c.around test & value_sites c.around a & value_sites c.around b & choice_sites test.part.place test.part a.part b.part

-- The arguments of a barrier are no values, so what one is that is no flag is looked at here: it may be an output call, or a barrier.
abbrev pub no_flag_sites : Context → Layer ExprForm → Sites Site
no_flag_sites c layer = layer_sites c layer & only (AtUsed (call_of (layer_part c (map_layer part_of layer))))

abbrev pub expr_seen : Context → Layer ExprForm → ExprForm
expr_seen c layer = record {
  part = layer_part c (map_layer part_of layer);
  sites = layer_sites c layer;
  flag_sites = flags_at c (no_flag_sites c layer) layer;
  alone = alone_of layer;
}

abbrev pub form_seen : Form-F ExprForm (FormLayer ExprForm) (LinkLayer ExprForm) → FormLayer ExprForm
form_seen (Form-F.Member name) = form_layer.Member name
form_seen (Form-F.Method name arguments) = form_layer.Method name arguments
form_seen (Form-F.Index place at) = form_layer.Index at

abbrev pub link_seen : Link-F ExprForm (FormLayer ExprForm) (LinkLayer ExprForm) → LinkLayer ExprForm
link_seen l = record { operator = l.operator; operand = l.operand }

-- an expression in its context
abbrev pub expr_form : Context → Expr → ExprForm
expr_form c = fold-Expr ExprForm (FormLayer ExprForm) (LinkLayer ExprForm) (expr_seen c) form_seen link_seen

abbrev pub part : Context → Expr → Part
part c e = (expr_form c e).part

abbrev pub sites_of : Context → Expr → Sites Site
sites_of c e = (expr_form c e).sites

-- the same, of an expression that has to be a value
abbrev pub sites_of_value : Context → Expr → Sites Site
sites_of_value c e = value_sites c.around (expr_form c e)
