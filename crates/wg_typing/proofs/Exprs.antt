-- Expressions in which no rule is broken have values.
use Rattle.std.proofs.Common.{Bool, true, false, cond, List, [], ◌∷◌, map, Option, Some, None, sym, subst}
use Rattle.std.specs.Prelude.{◌==◌}
use Rattle.wg_typing.specs.Layers.{Layer, map_form, map_link, map_layer}
use Rattle.wg_typing.specs.Scope.{Context, look}
use Rattle.wg_typing.specs.Sites.{Sites, ◌&◌, all_sites}
use Rattle.wg_typing.specs.Site.{Site, AtUsed}
use Rattle.wg_typing.specs.TypingCallee.{callee}
use Rattle.wg_typing.specs.TypingExpr.{ExprForm, part_of, flag_sites_of_all, link_flag_sites, flags_at, layer_value, layer_part, layer_sites, no_flag_sites, expr_seen, form_seen, link_seen, expr_form, part, sites_of, value_sites, values_sites, given_sites, form_values, forms_sites, form_after, links_sites, sites_of_value}
use Rattle.wg_typing.specs.TypingFlags.{all_or, another, linked_pieces, are_flags, chain_pieces}
use Rattle.wg_tree.specs.declared.expr.Expr.{Expr, roll-Expr, fold-roll-Expr, ind-Expr, map-Expr}
use Rattle.wg_tree.specs.declared.expr.Expr.TheOpen.{Expr-F, Form-F}
use Rattle.wg_tree.specs.declared.expr.Form.{Form, fold-Form, roll-Form, fold-roll-Form, map-Form}
use Rattle.wg_tree.specs.declared.expr.Link.{Link, fold-Link, roll-Link, fold-roll-Link}
use Rattle.wg_typing.specs.declared.scope.Act.TheVariants as act
use Rattle.wg_typing.specs.declared.scope.Value.{Value}
use Rattle.wg_typing.specs.declared.scope.Value.TheVariants as value
use Rattle.wg_typing.proofs.Barriers.{AllFlags, WholePieces, whole_pieces}
use Rattle.wg_typing.proofs.Calls.{Given, has_call}
use Rattle.wg_typing.proofs.Facts.{Has}
use Rattle.wg_typing.proofs.Layers.{Sound, value_is_typed}
use Rattle.wg_typing.proofs.Parts.{Whole, AllTyped, IsTyped, said}
use Rattle.wg_typing.proofs.Sites.{Clear, Well, well_left, well_only, well_right}
use Rattle.wg_typing.specs.TypingActs.{call_in}
use Rattle.wg_typing.specs.declared.part.FormLayer.{FormLayer}
use Rattle.wg_typing.specs.declared.part.LinkLayer.{LinkLayer}
use Rattle.wg_typing.specs.declared.called.CalledName.{CalledName}
use Rattle.wg_typing.specs.declared.part.NamedCall.{NamedCall}
use Rattle.wg_typing.specs.declared.part.FormLayer.TheVariants as form_layer
use Rattle.wg_typing.specs.declared.part.Piece.TheVariants as piece
use Rattle.wg_typing.specs.declared.called.CalledName.TheVariants as called_name
use Rattle.wg_typing.specs.declared.called.Builtin.TheVariants as builtin
use Rattle.wg_typing.specs.declared.fault.TypingRule.TheVariants.{BadBarrier, BadOutputCall, UnknownName, Mismatch}
use Rattle.wg_typing.specs.TypingForms.{begun}
use Rattle.wg_typing.specs.TypingOperators.{typed_of, type_after}
use Rattle.wg_typing.specs.Conversions.{of_value_type}
use Rattle.wg_typing.proofs.Forms.{FormTyped, FormsTyped, has_forms}
use Rattle.wg_typing.proofs.Operations.{LinksTyped, has_prefix, has_cast, has_choice, has_chain}
use Rattle.wg_typing.proofs.Names.{NoneAllowed, look_stands, is_called, has_named, has_zeros}
use Rattle.wg_typing.proofs.Signatures.{has_constructed}
use Rattle.wg_typing.specs.declared.part.Along.{Along}
use Rattle.wg_typing.specs.declared.context.Around.{Around}
use Rattle.wg_typed.specs.declared.types.TypeTree.{TypeTree}
use Rattle.wg_words.specs.declared.place.Place.{Place}

-- ---- expressions that are good: where no rule is broken in them they have values, and as flags of a barrier whole pieces

pub record Good (s : ExprForm) : Type 0 where
  pub whole : Well s.sites → Whole s.part
  pub flags : Well s.flag_sites → WholePieces s.part.pieces

abbrev AllGood : List ExprForm → Type 0
AllGood [] = Unit {0}
AllGood (s ∷ rest) = Good s × AllGood rest

abbrev GoodForm : FormLayer ExprForm → Type 0
GoodForm (form_layer.Member name) = Unit {0}
GoodForm (form_layer.Method name arguments) = AllGood arguments
GoodForm (form_layer.Index at) = Good at

abbrev AllGoodForms : List (FormLayer ExprForm) → Type 0
AllGoodForms [] = Unit {0}
AllGoodForms (f ∷ rest) = GoodForm f × AllGoodForms rest

abbrev GoodLink : LinkLayer ExprForm → Type 0
GoodLink l = Good l.operand

abbrev AllGoodLinks : List (LinkLayer ExprForm) → Type 0
AllGoodLinks [] = Unit {0}
AllGoodLinks (l ∷ rest) = GoodLink l × AllGoodLinks rest

abbrev GoodParts : Layer ExprForm → Type 0
GoodParts (Expr-F.Number at n unsigned long) = Unit {0}
GoodParts (Expr-F.Text at bytes) = Unit {0}
GoodParts (Expr-F.Truth at b) = Unit {0}
GoodParts (Expr-F.Name name) = Unit {0}
GoodParts (Expr-F.Call name arguments) = AllGood arguments
GoodParts (Expr-F.Construct at of arguments) = AllGood arguments
GoodParts (Expr-F.Bracket at inner) = Good inner
GoodParts (Expr-F.Prefix at operator operand) = Good operand
GoodParts (Expr-F.Cast at to operand) = Good operand
GoodParts (Expr-F.Zeros at of) = Unit {0}
GoodParts (Expr-F.Postfix first forms) = Good first × AllGoodForms forms
GoodParts (Expr-F.Chain first rest) = Good first × AllGoodLinks rest
GoodParts (Expr-F.Choice test a b) = Good test × (Good a × Good b)

-- ---- the parts have types

value_typed : (around : Around) (s : ExprForm) → NoneAllowed around → Good s → Well (value_sites around s) → IsTyped s.part
value_typed around s n g h = value_is_typed around s.part n (g.whole (well_left h)) (well_only (well_right h))

values_typed : (around : Around) (expr_form : List ExprForm) → NoneAllowed around → AllGood expr_form → Well (values_sites around expr_form) → AllTyped (map part_of expr_form)
values_typed around [] n g h = tt
values_typed around (s ∷ rest) n g h = (value_typed around s n g.0 (well_left h), values_typed around rest n g.1 (well_right h))

flags_all : (expr_form : List ExprForm) → AllGood expr_form → Well (flag_sites_of_all expr_form) → AllFlags (map part_of expr_form)
flags_all [] g h = tt
flags_all (s ∷ rest) g h = (g.0.flags (well_left h), flags_all rest g.1 (well_right h))

given : (around : Around) (k : CalledName) (expr_form : List ExprForm) → NoneAllowed around → AllGood expr_form → Well (given_sites around k expr_form) → Given k (map part_of expr_form)
given around (called_name.Plain number result parameters chain) expr_form n g h = values_typed around expr_form n g h
given around called_name.Entry expr_form n g h = values_typed around expr_form n g h
given around called_name.Itself expr_form n g h = values_typed around expr_form n g h
given around (called_name.Builtin (builtin.OnNumbers i)) expr_form n g h = values_typed around expr_form n g h
given around (called_name.Builtin (builtin.Interlocked f)) expr_form n g h = values_typed around expr_form n g h
given around (called_name.Builtin builtin.Levels) expr_form n g h = values_typed around expr_form n g h
given around (called_name.Builtin (builtin.Barrier syncs)) expr_form n g h = values_typed around expr_form n g h
given around (called_name.Builtin builtin.BarrierOf) expr_form n g h = flags_all expr_form g h
given around called_name.Broken expr_form n g h = values_typed around expr_form n g h
given around called_name.Unknown expr_form n g h = values_typed around expr_form n g h

form_typed : (around : Around) (f : FormLayer ExprForm) → NoneAllowed around → GoodForm f → Well (form_values around f) → FormTyped (map_form part_of f)
form_typed around (form_layer.Member name) n g h = tt
form_typed around (form_layer.Method name arguments) n g h = values_typed around arguments n g h
form_typed around (form_layer.Index at) n g h = value_typed around at n g h

forms_typed : (c : Context) (place : Place) (a : Option Along) (forms : List (FormLayer ExprForm)) → NoneAllowed c.around → AllGoodForms forms → Well (forms_sites c place a forms) → FormsTyped forms
forms_typed c place a [] n g h = tt
forms_typed c place a (f ∷ rest) n g h = (form_typed c.around f n g.0 (well_left h), forms_typed c place (form_after c place a (map_form part_of f)) rest n g.1 (well_right (well_right (well_right h))))

links_typed : (around : Around) (place : Place) (before : Option TypeTree) (rest : List (LinkLayer ExprForm)) → NoneAllowed around → AllGoodLinks rest → Well (links_sites around place before rest) → LinksTyped rest
links_typed around place before [] n g h = tt
links_typed around place before (l ∷ rest) n g h = (value_typed around l.operand n g.0 (well_left h), links_typed around place (type_after before (map_link part_of l)) rest n g.1 (well_right (well_right h)))

layer_whole : (c : Context) (layer : Layer ExprForm) → Sound c → GoodParts layer → Well (layer_sites c layer) → Whole (layer_part c (map_layer part_of layer))
layer_whole c (Expr-F.Number at n unsigned long) s g h = tt
layer_whole c (Expr-F.Text at bytes) s g h = tt
layer_whole c (Expr-F.Truth at b) s g h = tt
layer_whole c (Expr-F.Name name) s g h =
    let here = well_only h in
    has_named c.around name (look name.name c.names) s.values (look_stands name.name c.names s.names) (here.clear UnknownName) (here.clear Mismatch)
layer_whole c (Expr-F.Call name arguments) s g h = has_call c name.place (callee c name) (map part_of arguments) s.names (is_called c name s.names) (given c.around (callee c name) arguments s.values g (well_left h))
    (record { call = well_only (well_left (well_right h)); arguments = well_right (well_right h) })
layer_whole c (Expr-F.Construct at of arguments) s g h =
    let typed = values_typed c.around arguments s.values g (well_left h) in
    let made = said (map part_of arguments) _ typed (well_right h) in
    has_constructed at of (map part_of arguments) typed (well_left made) (well_right made)
layer_whole c (Expr-F.Bracket at inner) s g h = g.whole h
layer_whole c (Expr-F.Prefix at operator operand) s g h = has_prefix at operator operand.part (value_typed c.around operand s.values g (well_left h)) (well_right h)
layer_whole c (Expr-F.Cast at to operand) s g h = has_cast at (of_value_type to) operand.part (value_typed c.around operand s.values g (well_left h)) (well_right h)
layer_whole c (Expr-F.Zeros at of) s g h = has_zeros at of.place (look of.name c.names) (look_stands of.name c.names s.names) ((well_only h).clear UnknownName)
layer_whole c (Expr-F.Postfix first forms) s g h =
    let after = well_right (well_right h) in
    has_forms c first.part.place first.part.value forms (g.0.whole (well_left h)) (forms_typed c first.part.place (begun first.part) forms s.values g.1 after) after
layer_whole c (Expr-F.Chain first rest) s g h =
    has_chain c.around first.part.place first.part rest (value_typed c.around first s.values g.0 (well_left h)) (links_typed c.around first.part.place (typed_of first.part) rest s.values g.1 (well_right h)) (well_right h)
layer_whole c (Expr-F.Choice test a b) s g h =
    let typed_test = value_typed c.around test s.values g.0 (well_left h) in
    let typed_a = value_typed c.around a s.values g.1.0 (well_left (well_right h)) in
    let typed_b = value_typed c.around b s.values g.1.1 (well_left (well_right (well_right h))) in
    let chosen = said (test.part ∷ a.part ∷ b.part ∷ []) _ (typed_test, (typed_a, (typed_b, tt))) (well_right (well_right (well_right h))) in
    has_choice test.part.place test.part a.part b.part typed_test typed_a typed_b (well_left chosen) (well_right chosen)

-- ---- what the expression is to a barrier

another_whole : (v : Option Value) (by_name : Option NamedCall) → Has v → Clear (AtUsed (call_in v by_name)) → WholePieces (another v)
another_whole None by_name h k = absurd h
another_whole (Some (value.Typed of standing tree)) by_name h k = tt
another_whole (Some (value.Object object element)) by_name h k = tt
another_whole (Some (value.Text bytes)) by_name h k = tt
another_whole (Some (value.Act name (act.Step step))) by_name h k = tt
another_whole (Some (value.Act name (act.Barrier true))) by_name h k = absurd (k.clear BadBarrier)
another_whole (Some (value.Act name (act.Barrier false))) by_name h k = tt
another_whole (Some (value.Act name (act.Request group output number element amount))) by_name h k = absurd (k.clear BadOutputCall)
another_whole (Some (value.Act name (act.Increment group output element amount))) by_name h k = absurd (k.clear BadOutputCall)
another_whole (Some (value.Act name (act.Complete handle))) by_name h k = absurd (k.clear BadOutputCall)
another_whole (Some (value.Act name (act.Finished tracked))) by_name h k = absurd (k.clear BadOutputCall)

-- an expression that is no flag
no_flag : (c : Context) (layer : Layer ExprForm) → Sound c → GoodParts layer → Well (no_flag_sites c layer) → WholePieces (another (layer_part c (map_layer part_of layer)).value)
no_flag c layer s g h = another_whole (layer_part c (map_layer part_of layer)).value (layer_part c (map_layer part_of layer)).by_name (layer_whole c layer s g (well_left h)) (well_only (well_right h))

zero_whole : (b : Bool) (v : Option Value) → WholePieces (another v) → WholePieces (cond b (piece.Zero ∷ []) (another v))
zero_whole true v h = tt
zero_whole false v h = h

link_flags : (rest : List (LinkLayer ExprForm)) → AllGoodLinks rest → Well (all_sites (map link_flag_sites rest)) → WholePieces (linked_pieces (map (map_link part_of) rest))
link_flags [] g h = tt
link_flags (l ∷ rest) g h = whole_pieces (part_of l.operand).pieces _ (g.0.flags (well_left h)) (link_flags rest g.1 (well_right h))

chain_flags : (b joined : Bool) (own : Sites Site) (v : Option Value) (first : ExprForm) (rest : List (LinkLayer ExprForm)) → (Well own → WholePieces (another v)) → Good first → AllGoodLinks rest → Well (cond b (first.flag_sites & all_sites (map link_flag_sites rest)) own)
    → WholePieces (cond b (chain_pieces joined (part_of first) (map (map_link part_of) rest)) (another v))
chain_flags true true own v first rest w g k h = whole_pieces (part_of first).pieces _ (g.flags (well_left h)) (link_flags rest k (well_right h))
chain_flags true false own v first rest w g k h = whole_pieces (part_of first).pieces _ (g.flags (well_left h)) (link_flags rest k (well_right h))
chain_flags false joined own v first rest w g k h = w h

layer_flags : (c : Context) (layer : Layer ExprForm) → Sound c → GoodParts layer → Well (flags_at c (no_flag_sites c layer) layer) → WholePieces (layer_part c (map_layer part_of layer)).pieces
layer_flags c (Expr-F.Number at n unsigned long) s g h = zero_whole (n == 0) (layer_value c at (Expr-F.Number at n unsigned long)) tt
layer_flags c (Expr-F.Text at bytes) s g h = tt
layer_flags c (Expr-F.Truth at b) s g h = tt
layer_flags c (Expr-F.Name name) s g h = tt
layer_flags c (Expr-F.Call name arguments) s g h = no_flag c (Expr-F.Call name arguments) s g h
layer_flags c (Expr-F.Construct at of arguments) s g h = no_flag c (Expr-F.Construct at of arguments) s g h
layer_flags c (Expr-F.Bracket at inner) s g h = g.flags h
layer_flags c (Expr-F.Prefix at operator operand) s g h = no_flag c (Expr-F.Prefix at operator operand) s g h
layer_flags c (Expr-F.Cast at to operand) s g h = no_flag c (Expr-F.Cast at to operand) s g h
layer_flags c (Expr-F.Zeros at of) s g h = no_flag c (Expr-F.Zeros at of) s g h
layer_flags c (Expr-F.Postfix first forms) s g h = no_flag c (Expr-F.Postfix first forms) s g h
layer_flags c (Expr-F.Chain first rest) s g h =
    chain_flags (are_flags c first.part (map (map_link part_of) rest)) (all_or (map (map_link part_of) rest)) (no_flag_sites c (Expr-F.Chain first rest)) _ first rest (no_flag c (Expr-F.Chain first rest) s g) g.0 g.1 h
layer_flags c (Expr-F.Choice test a b) s g h = no_flag c (Expr-F.Choice test a b) s g h

layer_good : (c : Context) (layer : Layer ExprForm) → Sound c → GoodParts layer → Good (expr_seen c layer)
layer_good c layer s g = record { whole = layer_whole c layer s g; flags = layer_flags c layer s g }

-- ---- all expressions

abbrev pub form_of : Context → Form → FormLayer ExprForm
form_of c = fold-Form ExprForm (FormLayer ExprForm) (LinkLayer ExprForm) (expr_seen c) form_seen link_seen

abbrev pub link_of : Context → Link → LinkLayer ExprForm
link_of c = fold-Link ExprForm (FormLayer ExprForm) (LinkLayer ExprForm) (expr_seen c) form_seen link_seen

good_list : {B : Type 0} (c : Context) (p : B → Expr) (holds : (b : B) → Good (expr_form c (p b))) (bs : List B) → AllGood (map (expr_form c) (map p bs))
good_list c p holds [] = tt
good_list c p holds (b ∷ bs) = (holds b, good_list c p holds bs)

good_forms : {F : Type 0} (c : Context) (q : F → Form) (holds : (f : F) → GoodForm (form_of c (q f))) (fs : List F) → AllGoodForms (map (form_of c) (map q fs))
good_forms c q holds [] = tt
good_forms c q holds (f ∷ fs) = (holds f, good_forms c q holds fs)

good_links : {L : Type 0} (c : Context) (r : L → Link) (holds : (l : L) → GoodLink (link_of c (r l))) (ls : List L) → AllGoodLinks (map (link_of c) (map r ls))
good_links c r holds [] = tt
good_links c r holds (l ∷ ls) = (holds l, good_links c r holds ls)

abbrev pub mapped : {B F L : Type 0} → Context → (B → Expr) → (F → Form) → (L → Link) → Expr-F B F L → Layer ExprForm
mapped {B} {F} {L} c p q r y = map-Expr Expr Form Link ExprForm (FormLayer ExprForm) (LinkLayer ExprForm) (expr_form c) (form_of c) (link_of c) (map-Expr B F L Expr Form Link p q r y)

good_parts : {B F L : Type 0} (c : Context) (p : B → Expr) (q : F → Form) (r : L → Link) (e : (b : B) → Good (expr_form c (p b))) (f : (x : F) → GoodForm (form_of c (q x))) (l : (x : L) → GoodLink (link_of c (r x))) (y : Expr-F B F L) → GoodParts (mapped c p q r y)
good_parts c p q r e f l (Expr-F.Number at n unsigned long) = tt
good_parts c p q r e f l (Expr-F.Text at bytes) = tt
good_parts c p q r e f l (Expr-F.Truth at b) = tt
good_parts c p q r e f l (Expr-F.Name name) = tt
good_parts c p q r e f l (Expr-F.Call name arguments) = good_list c p e arguments
good_parts c p q r e f l (Expr-F.Construct at of arguments) = good_list c p e arguments
good_parts c p q r e f l (Expr-F.Bracket at inner) = e inner
good_parts c p q r e f l (Expr-F.Prefix at operator operand) = e operand
good_parts c p q r e f l (Expr-F.Cast at to operand) = e operand
good_parts c p q r e f l (Expr-F.Zeros at of) = tt
good_parts c p q r e f l (Expr-F.Postfix first forms) = (e first, good_forms c q f forms)
good_parts c p q r e f l (Expr-F.Chain first rest) = (e first, good_links c r l rest)
good_parts c p q r e f l (Expr-F.Choice test a b) = (e test, (e a, e b))

good_form : {B F L : Type 0} (c : Context) (p : B → Expr) (q : F → Form) (r : L → Link) (e : (b : B) → Good (expr_form c (p b))) (y : Form-F B F L) → GoodForm (form_seen (map-Form Expr Form Link ExprForm (FormLayer ExprForm) (LinkLayer ExprForm) (expr_form c) (form_of c) (link_of c) (map-Form B F L Expr Form Link p q r y)))
good_form c p q r e (Form-F.Member name) = tt
good_form c p q r e (Form-F.Method name arguments) = good_list c p e arguments
good_form c p q r e (Form-F.Index place at) = e at

pub good : (c : Context) → Sound c → (e : Expr) → Good (expr_form c e)
good c s e = ind-Expr (λ e. Good (expr_form c e)) (λ f. GoodForm (form_of c f)) (λ l. GoodLink (link_of c l))
    (λ x y eq. subst (λ l. Good (expr_form c (roll-Expr l))) eq (subst Good (sym (fold-roll-Expr ExprForm (FormLayer ExprForm) (LinkLayer ExprForm) (expr_seen c) form_seen link_seen _)) (layer_good c _ s (good_parts c (λ b. b.0) (λ b. b.0) (λ b. b.0) (λ b. b.1) (λ b. b.1) (λ b. b.1) y))))
    (λ x y eq. subst (λ l. GoodForm (form_of c (roll-Form l))) eq (subst GoodForm (sym (fold-roll-Form ExprForm (FormLayer ExprForm) (LinkLayer ExprForm) (expr_seen c) form_seen link_seen _)) (good_form c (λ b. b.0) (λ b. b.0) (λ b. b.0) (λ b. b.1) y)))
    (λ x y eq. subst (λ l. GoodLink (link_of c (roll-Link l))) eq (subst GoodLink (sym (fold-roll-Link ExprForm (FormLayer ExprForm) (LinkLayer ExprForm) (expr_seen c) form_seen link_seen _)) y.operand.1))
    e

-- an expression in which no rule is broken has a value
pub has_value : (c : Context) → Sound c → (e : Expr) → Well (sites_of c e) → Whole (part c e)
has_value c s e = (good c s e).whole

-- one that has to be a value has a type
pub has_type_here : (c : Context) → Sound c → (e : Expr) → Well (sites_of_value c e) → IsTyped (part c e)
has_type_here c s e = value_typed c.around (expr_form c e) s.values (good c s e)
