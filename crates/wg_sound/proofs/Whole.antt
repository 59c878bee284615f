-- All expressions are sound: what their typed forms hold names what stands there, and fits.
use Rattle.std.proofs.Common.{◌≡◌, ℕ, Bool, true, false, not, List, [], ◌∷◌, map, Option, Some, None, refl, sym, ap, ◌∙◌, subst}
use Rattle.wg_words.specs.declared.place.Place.{Place}
use Rattle.wg_typing.specs.Conversions.{numbers, of_value_type, uint_type}
use Rattle.wg_typing.specs.Layers.{Layer, map_form, map_link, map_layer}
use Rattle.wg_typing.specs.Maybe.{where_true}
use Rattle.wg_typing.specs.Named.{at_name}
use Rattle.wg_typing.specs.Scope.{Context, look}
use Rattle.std.specs.Prelude.{is_some}
use Rattle.wg_typed.specs.declared.typed.TypedEntry.{TypedEntry}
use Rattle.wg_typing.specs.TypingBarrier.{orders, syncs_of, barrier_value, outside_plain, plain_barrier, levels_value}
use Rattle.wg_typing.specs.TypingCallee.{builtins, builtin_if, callee_of, callee}
use Rattle.wg_typing.specs.TypingCalls.{builtin_value, call_value}
use Rattle.wg_typing.specs.TypingExpr.{ExprForm, part_of, layer_value, expr_seen, form_seen, link_seen, expr_form, part}
use Rattle.wg_sound.specs.Room.{is_node, Room}
use Rattle.wg_facts.specs.Tests.{if_any}
use Rattle.wg_tree.specs.declared.expr.Expr.{Expr, roll-Expr, fold-roll-Expr, ind-Expr, map-Expr}
use Rattle.wg_tree.specs.declared.expr.Expr.TheOpen.{Expr-F, Form-F}
use Rattle.wg_tree.specs.declared.expr.Form.{Form, fold-Form, roll-Form, fold-roll-Form, map-Form}
use Rattle.wg_tree.specs.declared.expr.Link.{Link, fold-Link, roll-Link, fold-roll-Link}
use Rattle.wg_typed.specs.declared.typed_expr.TypedKind.TheVariants as tree
use Rattle.wg_typing.specs.declared.scope.Meant.{Meant}
use Rattle.wg_typing.specs.declared.scope.Meant.TheVariants as meant
use Rattle.wg_typing.specs.declared.scope.Value.{Value}
use Rattle.wg_facts.proofs.Basics.{and_then, If, both, not_false, if_was}
use Rattle.wg_sound.proofs.Layered.{made_fixed, held_Levels}
use Rattle.wg_sound.proofs.Meanings.{ValueIs, PartIs, AllParts, FunctionIs, Agrees, AllAgree, look_agrees}
use Rattle.wg_sound.proofs.Operated.{number_is, truth_is, named_is, zeros_is, prefix_is, cast_is, choice_is, AllOperands, chain_is}
use Rattle.wg_sound.proofs.Reckoned.{constructed_is, intrinsic_is, plain_is}
use Rattle.wg_sound.proofs.Swapped.{interlocked_at_is}
use Rattle.wg_sound.proofs.Objects.{entries_ok}
use Rattle.wg_sound.proofs.Sizes.{TypesStand}
use Rattle.wg_sound.proofs.Accessed.{Later, FormParts, AllForms, postfix_is}
use Rattle.wg_typing.specs.declared.called.Builtin.TheVariants as builtin
use Rattle.wg_typing.specs.declared.called.Builtin.{Builtin}
use Rattle.wg_typing.specs.declared.called.CalledName.TheVariants as called_name
use Rattle.wg_typing.specs.declared.called.CalledName.{CalledName}
use Rattle.wg_typing.specs.declared.context.Around.TheVariants as surrounding
use Rattle.wg_typing.specs.declared.context.Around.{Around}
use Rattle.wg_typing.specs.declared.part.FormLayer.{FormLayer}
use Rattle.wg_typing.specs.declared.part.LinkLayer.{LinkLayer}
use Rattle.wg_typing.specs.declared.part.Part.{Part}

-- ---- nodes and plain functions

abbrev is_plain : Around → Bool
is_plain (surrounding.Entry lanes) = false
is_plain surrounding.Plain = true
is_plain surrounding.Const = false
is_plain (surrounding.Attribute allowed) = false

abbrev pub entry_around : Option TypedEntry → Around
entry_around None = surrounding.Plain
entry_around (Some e) = surrounding.Entry e.lanes

-- what is around the statements of a function
abbrev pub around_in : Room → Around
around_in room = entry_around room.function.entry

node_around : (o : Option TypedEntry) → is_plain (entry_around o) ≡ false → is_some o ≡ true
node_around None e = absurd (cc)
node_around (Some x) e = refl

-- the level is known in an entry function alone
abbrev builtin_ok : Bool → Builtin → Bool
builtin_ok in_a_plain builtin.Levels = not in_a_plain
builtin_ok in_a_plain b = true

builtins_ok : (around : Around) (name : List ℕ) → if_any (builtin_ok (is_plain around)) (at_name (builtins around) name) ≡ true
builtins_ok (surrounding.Entry lanes) name = entries_ok (builtin_ok false) (builtins (surrounding.Entry lanes)) name refl
builtins_ok surrounding.Plain name = entries_ok (builtin_ok true) (builtins surrounding.Plain) name refl
builtins_ok surrounding.Const name = entries_ok (builtin_ok false) (builtins surrounding.Const) name refl
builtins_ok (surrounding.Attribute allowed) name = entries_ok (builtin_ok false) (builtins (surrounding.Attribute allowed)) name refl

module _ (room : Room) where
  -- a context in the function: its names stand for what they name in the end
  pub record Fits (c : Context) : Type 0 where
    pub names : AllAgree room c.names
    pub structs : Later c.structs room.text.structs
    pub types : TypesStand room.text.structs c.structs c.names
    pub around : c.around ≡ around_in room

  -- ---- calls

  outside_is : (around : Around) (v : Option Value) → (is_plain around ≡ false → If (ValueIs room) v) → If (ValueIs room) (outside_plain around v)
  outside_is (surrounding.Entry lanes) v h = h refl
  outside_is surrounding.Plain v h = tt
  outside_is surrounding.Const v h = h refl
  outside_is (surrounding.Attribute allowed) v h = h refl

  plain_barrier_is : (name : Place) (syncs : Bool) (parts : List Part) → is_node room.function ≡ true → If (ValueIs room) (plain_barrier name syncs parts)
  plain_barrier_is name syncs [] h = h
  plain_barrier_is name syncs (p ∷ parts) h = tt

  barrier_is : (c : Context) (name : Place) (parts : List Part) → is_node room.function ≡ true → If (ValueIs room) (barrier_value c name parts)
  barrier_is c name (m ∷ s ∷ []) h = if_was (ValueIs room) (and_then (where_true (orders c m.pieces) s.pieces) (syncs_of c)) _ (λ syncs e. h)
  barrier_is c name _ h = tt

  levels_is : (name : Place) (parts : List Part) → is_node room.function ≡ true → If (ValueIs room) (levels_value name parts)
  levels_is name [] h = made_fixed room name uint_type tree.Levels _ (held_Levels room) (both h refl)
  levels_is name (p ∷ parts) h = tt

  builtin_is : (c : Context) (name : Place) (b : Builtin) (parts : List Part) → Fits c → builtin_ok (is_plain c.around) b ≡ true → AllParts room parts → If (ValueIs room) (builtin_value c name b parts)
  builtin_is c name (builtin.OnNumbers i) parts s k h = intrinsic_is room name i parts h
  builtin_is c name (builtin.Interlocked f) parts s k h = interlocked_at_is room name f parts h
  builtin_is c name builtin.Levels parts s k h = levels_is name parts (node_around room.function.entry (ap is_plain (sym s.around) ∙ not_false (is_plain c.around) k))
  builtin_is c name (builtin.Barrier syncs) parts s k h = outside_is c.around (plain_barrier name syncs parts) (λ e. plain_barrier_is name syncs parts (node_around room.function.entry (ap is_plain (sym s.around) ∙ e)))
  builtin_is c name builtin.BarrierOf parts s k h = outside_is c.around (barrier_value c name parts) (λ e. barrier_is c name parts (node_around room.function.entry (ap is_plain (sym s.around) ∙ e)))

  abbrev CalleeIs : Bool → CalledName → Type 0
  CalleeIs in_a_plain (called_name.Plain number result parameters chain) = FunctionIs room number result parameters
  CalleeIs in_a_plain called_name.Entry = Unit {0}
  CalleeIs in_a_plain called_name.Itself = Unit {0}
  CalleeIs in_a_plain (called_name.Builtin b) = builtin_ok in_a_plain b ≡ true
  CalleeIs in_a_plain called_name.Broken = Unit {0}
  CalleeIs in_a_plain called_name.Unknown = Unit {0}

  builtin_named : (p : Bool) (b : Option Builtin) → if_any (builtin_ok p) b ≡ true → CalleeIs p (builtin_if b)
  builtin_named p None h = tt
  builtin_named p (Some b) h = h

  callee_is : (p : Bool) (m : Option Meant) (b : Option Builtin) → If (Agrees room) m → if_any (builtin_ok p) b ≡ true → CalleeIs p (callee_of m b)
  callee_is p None b h k = builtin_named p b k
  callee_is p (Some (meant.Struct number)) b h k = tt
  callee_is p (Some (meant.Constant of words known)) b h k = tt
  callee_is p (Some (meant.Shared variable of)) b h k = tt
  callee_is p (Some (meant.Variable variable of constant)) b h k = tt
  callee_is p (Some (meant.Object object)) b h k = tt
  callee_is p (Some (meant.Function number true result parameters chain)) b h k = tt
  callee_is p (Some (meant.Function number false result parameters chain)) b h k = h
  callee_is p (Some meant.Itself) b h k = tt
  callee_is p (Some meant.Broken) b h k = tt

  call_is : (c : Context) (name : Place) (k : CalledName) (parts : List Part) → Fits c → CalleeIs (is_plain c.around) k → AllParts room parts → If (ValueIs room) (call_value c name k parts)
  call_is c name (called_name.Plain number result parameters chain) parts s k h = plain_is room name number result parameters chain parts k h
  call_is c name called_name.Entry parts s k h = tt
  call_is c name called_name.Itself parts s k h = tt
  call_is c name (called_name.Builtin b) parts s k h = builtin_is c name b parts s k h
  call_is c name called_name.Broken parts s k h = tt
  call_is c name called_name.Unknown parts s k h = tt

  -- ---- one layer

  abbrev LayerParts : Layer Part → Type 0
  LayerParts (Expr-F.Number at n unsigned long) = Unit {0}
  LayerParts (Expr-F.Text at bytes) = Unit {0}
  LayerParts (Expr-F.Truth at b) = Unit {0}
  LayerParts (Expr-F.Name name) = Unit {0}
  LayerParts (Expr-F.Call name parts) = AllParts room parts
  LayerParts (Expr-F.Construct at of parts) = AllParts room parts
  LayerParts (Expr-F.Bracket at inner) = PartIs room inner
  LayerParts (Expr-F.Prefix at operator operand) = PartIs room operand
  LayerParts (Expr-F.Cast at to operand) = PartIs room operand
  LayerParts (Expr-F.Zeros at of) = Unit {0}
  LayerParts (Expr-F.Postfix first forms) = PartIs room first × AllForms room forms
  LayerParts (Expr-F.Chain first rest) = PartIs room first × AllOperands room rest
  LayerParts (Expr-F.Choice test a b) = PartIs room test × (PartIs room a × PartIs room b)

  layer_is : (c : Context) (place : Place) (y : Layer Part) → Fits c → LayerParts y → If (ValueIs room) (layer_value c place y)
  layer_is c place (Expr-F.Number at n unsigned long) s h = number_is room place n unsigned long
  layer_is c place (Expr-F.Text at bytes) s h = tt
  layer_is c place (Expr-F.Truth at b) s h = truth_is room place b
  layer_is c place (Expr-F.Name name) s h = named_is room c.around name (look name.name c.names) (look_agrees room name.name c.names s.names)
  layer_is c place (Expr-F.Call name parts) s h = call_is c place (callee c name) parts s (callee_is (is_plain c.around) (look name.name c.names) (at_name (builtins c.around) name.name) (look_agrees room name.name c.names s.names) (builtins_ok c.around name.name)) h
  layer_is c place (Expr-F.Construct at of parts) s h = if_was (ValueIs room) (numbers (of_value_type of)) _ (λ goal e. constructed_is room place goal parts h)
  layer_is c place (Expr-F.Bracket at inner) s h = h
  layer_is c place (Expr-F.Prefix at operator operand) s h = prefix_is room place operator operand h
  layer_is c place (Expr-F.Cast at to operand) s h = cast_is room place (of_value_type to) operand h
  layer_is c place (Expr-F.Zeros at of) s h = zeros_is room place (look of.name c.names) (look_agrees room of.name c.names s.names)
  layer_is c place (Expr-F.Postfix first forms) s h = postfix_is room c place first forms s.structs h.0 h.1
  layer_is c place (Expr-F.Chain first rest) s h = chain_is room place first rest h.0 h.1
  layer_is c place (Expr-F.Choice test a b) s h = choice_is room place test a b h.0 h.1.0 h.1.1

  -- ---- all expressions

  abbrev SeenIs : ExprForm → Type 0
  SeenIs s = PartIs room s.part

  abbrev FormIs : FormLayer ExprForm → Type 0
  FormIs f = FormParts room (map_form part_of f)

  abbrev LinkSeen : LinkLayer ExprForm → Type 0
  LinkSeen l = SeenIs l.operand

  abbrev pub form_of : Context → Form → FormLayer ExprForm
  form_of c = fold-Form ExprForm (FormLayer ExprForm) (LinkLayer ExprForm) (expr_seen c) form_seen link_seen

  abbrev pub link_of : Context → Link → LinkLayer ExprForm
  link_of c = fold-Link ExprForm (FormLayer ExprForm) (LinkLayer ExprForm) (expr_seen c) form_seen link_seen

  seen_list : {B : Type 0} (c : Context) (p : B → Expr) (holds : (b : B) → SeenIs (expr_form c (p b))) (bs : List B) → AllParts room (map part_of (map (expr_form c) (map p bs)))
  seen_list c p holds [] = tt
  seen_list c p holds (b ∷ bs) = (holds b, seen_list c p holds bs)

  seen_forms : {F : Type 0} (c : Context) (q : F → Form) (holds : (f : F) → FormIs (form_of c (q f))) (fs : List F) → AllForms room (map (map_form part_of) (map (form_of c) (map q fs)))
  seen_forms c q holds [] = tt
  seen_forms c q holds (f ∷ fs) = (holds f, seen_forms c q holds fs)

  seen_links : {L : Type 0} (c : Context) (r : L → Link) (holds : (l : L) → LinkSeen (link_of c (r l))) (ls : List L) → AllOperands room (map (map_link part_of) (map (link_of c) (map r ls)))
  seen_links c r holds [] = tt
  seen_links c r holds (l ∷ ls) = (holds l, seen_links c r holds ls)

  abbrev mapped : {B F L : Type 0} → Context → (B → Expr) → (F → Form) → (L → Link) → Expr-F B F L → Layer ExprForm
  mapped {B} {F} {L} c p q r y = map-Expr Expr Form Link ExprForm (FormLayer ExprForm) (LinkLayer ExprForm) (expr_form c) (form_of c) (link_of c) (map-Expr B F L Expr Form Link p q r y)

  seen_parts : {B F L : Type 0} (c : Context) (p : B → Expr) (q : F → Form) (r : L → Link) (e : (b : B) → SeenIs (expr_form c (p b))) (f : (x : F) → FormIs (form_of c (q x))) (l : (x : L) → LinkSeen (link_of c (r x))) (y : Expr-F B F L) → LayerParts (map_layer part_of (mapped c p q r y))
  seen_parts c p q r e f l (Expr-F.Number at n unsigned long) = tt
  seen_parts c p q r e f l (Expr-F.Text at bytes) = tt
  seen_parts c p q r e f l (Expr-F.Truth at b) = tt
  seen_parts c p q r e f l (Expr-F.Name name) = tt
  seen_parts c p q r e f l (Expr-F.Call name arguments) = seen_list c p e arguments
  seen_parts c p q r e f l (Expr-F.Construct at of arguments) = seen_list c p e arguments
  seen_parts c p q r e f l (Expr-F.Bracket at inner) = e inner
  seen_parts c p q r e f l (Expr-F.Prefix at operator operand) = e operand
  seen_parts c p q r e f l (Expr-F.Cast at to operand) = e operand
  seen_parts c p q r e f l (Expr-F.Zeros at of) = tt
  seen_parts c p q r e f l (Expr-F.Postfix first forms) = (e first, seen_forms c q f forms)
  seen_parts c p q r e f l (Expr-F.Chain first rest) = (e first, seen_links c r l rest)
  seen_parts c p q r e f l (Expr-F.Choice test a b) = (e test, (e a, e b))

  seen_form : {B F L : Type 0} (c : Context) (p : B → Expr) (q : F → Form) (r : L → Link) (e : (b : B) → SeenIs (expr_form c (p b))) (y : Form-F B F L) → FormIs (form_seen (map-Form Expr Form Link ExprForm (FormLayer ExprForm) (LinkLayer ExprForm) (expr_form c) (form_of c) (link_of c) (map-Form B F L Expr Form Link p q r y)))
  seen_form c p q r e (Form-F.Member name) = tt
  seen_form c p q r e (Form-F.Method name arguments) = seen_list c p e arguments
  seen_form c p q r e (Form-F.Index place at) = e at

  seen_is : (c : Context) → Fits c → (e : Expr) → SeenIs (expr_form c e)
  seen_is c s e = ind-Expr (λ e. SeenIs (expr_form c e)) (λ f. FormIs (form_of c f)) (λ l. LinkSeen (link_of c l))
      (λ x y eq. subst (λ l. SeenIs (expr_form c (roll-Expr l))) eq (subst SeenIs (sym (fold-roll-Expr ExprForm (FormLayer ExprForm) (LinkLayer ExprForm) (expr_seen c) form_seen link_seen _)) (layer_is c _ _ s (seen_parts c (λ b. b.0) (λ b. b.0) (λ b. b.0) (λ b. b.1) (λ b. b.1) (λ b. b.1) y))))
      (λ x y eq. subst (λ l. FormIs (form_of c (roll-Form l))) eq (subst FormIs (sym (fold-roll-Form ExprForm (FormLayer ExprForm) (LinkLayer ExprForm) (expr_seen c) form_seen link_seen _)) (seen_form c (λ b. b.0) (λ b. b.0) (λ b. b.0) (λ b. b.1) y)))
      (λ x y eq. subst (λ l. LinkSeen (link_of c (roll-Link l))) eq (subst LinkSeen (sym (fold-roll-Link ExprForm (FormLayer ExprForm) (LinkLayer ExprForm) (expr_seen c) form_seen link_seen _)) y.operand.1))
      e

  -- what an expression in its context is
  pub part_is : (c : Context) → Fits c → (e : Expr) → PartIs room (part c e)
  part_is c s e = seen_is c s e
