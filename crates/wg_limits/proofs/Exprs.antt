-- Measures below a bound: all expressions.
use Rattle.std.proofs.Common.{◌≡◌, ◌≤◌, ℕ, zero, suc, Bool, true, false, cond, List, [], ◌∷◌, ◌++◌, map, max, Option, Some, None, refl, sym, subst, arith}
use Rattle.std.proofs.Math.Nat.{le-max_left, le-max_right}
use Rattle.std.specs.Option.{option_or}
use Rattle.std.specs.Str.{bytes_eq}
use Rattle.wg_words.specs.declared.place.Place.{Place}
use Rattle.wg_typing.specs.Conversions.{numbers, of_value_type, uint_type}
use Rattle.wg_typing.specs.Layers.{Layer, map_form, map_link, map_layer}
use Rattle.wg_typing.specs.Maybe.{where_true}
use Rattle.wg_typing.specs.Named.{at_name}
use Rattle.wg_typing.specs.Scope.{Context, look}
use Rattle.wg_typing.specs.Site.{Site, AtCall}
use Rattle.wg_typing.specs.Sites.{Sites, nowhere, only, within, ◌&◌}
use Rattle.wg_typing.specs.TypingBarrier.{orders, syncs_of, barrier_value, outside_plain, plain_barrier, levels_value}
use Rattle.wg_typing.specs.TypingCallee.{builtins, builtin_if, callee_of, callee}
use Rattle.wg_typing.specs.TypingCalls.{call_value}
use Rattle.wg_typing.specs.TypingExpr.{ExprForm, part_of, values_sites, given_sites, form_values, links_sites, forms_sites, form_after, layer_value, layer_sites, expr_seen, form_seen, link_seen, expr_form, part}
use Rattle.wg_typing.specs.TypingOperators.{type_after, choice_value}
use Rattle.wg_tree.specs.declared.expr.Expr.{Expr, roll-Expr, fold-roll-Expr, ind-Expr, map-Expr}
use Rattle.wg_tree.specs.declared.expr.Expr.TheOpen.{Expr-F, Form-F}
use Rattle.wg_tree.specs.declared.expr.Form.{Form, fold-Form, roll-Form, fold-roll-Form, map-Form}
use Rattle.wg_tree.specs.declared.expr.ValueType.{ValueType}
use Rattle.wg_tree.specs.declared.expr.ValueType.TheVariants as value_type
use Rattle.wg_tree.specs.declared.expr.Link.{Link, fold-Link, roll-Link, fold-roll-Link}
use Rattle.wg_typed.specs.declared.types.TypeTree.{TypeTree}
use Rattle.wg_typed.specs.declared.typed_expr.Access.TheOpen.{TypedKind-F}
use Rattle.wg_typed.specs.declared.typed_expr.TypedKind.TheVariants as tree
use Rattle.wg_typing.specs.declared.called.Builtin.{Builtin}
use Rattle.wg_typing.specs.declared.called.Builtin.TheVariants as builtin
use Rattle.wg_typing.specs.declared.called.CalledName.{CalledName}
use Rattle.wg_typing.specs.declared.called.CalledName.TheVariants as called_name
use Rattle.wg_typing.specs.declared.context.Around.{Around}
use Rattle.wg_typing.specs.declared.context.Around.TheVariants as surrounding
use Rattle.wg_typing.specs.declared.context.VariableForm.{VariableForm}
use Rattle.wg_typing.specs.declared.context.GivesBack.{GivesBack}
use Rattle.wg_typing.specs.declared.context.GivesBack.TheVariants as gives_back
use Rattle.wg_typing.specs.declared.numbers.Numbers.{Numbers}
use Rattle.wg_typing.specs.declared.part.Along.{Along}
use Rattle.wg_typing.specs.declared.part.FormLayer.{FormLayer}
use Rattle.wg_typing.specs.declared.part.LinkLayer.{LinkLayer}
use Rattle.wg_typing.specs.declared.part.Part.{Part}
use Rattle.wg_typing.specs.declared.scope.Declared.{Declared}
use Rattle.wg_typing.specs.declared.scope.Meant.{Meant}
use Rattle.wg_typing.specs.declared.scope.Meant.TheVariants as meant
use Rattle.wg_typing.specs.declared.scope.Value.{Value}
use Rattle.wg_facts.proofs.Basics.{and_then, If, if_then, if_was, if_where}
use Rattle.wg_limits.specs.Branches.{most, expr_step, form_step, link_step, expr_branches}
use Rattle.wg_limits.specs.Measure.{is_logical}
use Rattle.wg_limits.specs.Vectors.{is_size, value_written, all_true, expr_written_step, form_written_step, link_written_step, expr_written}
use Rattle.wg_limits.proofs.Parts.{FineSize, Bound, numbers_fine, Fine, made, ValueBelow, PartBelow, AllParts, CallFine, NameBelow}
use Rattle.wg_limits.proofs.Operators.{number_below, truth_below, named_below, zeros_below, prefix_below, cast_below, choice_below, OperandBelow, AllOperands, chain_below, constructed_below, intrinsic_below, plain_below}
use Rattle.wg_limits.proofs.Objects.{interlocked_at_below, AllStructs, FormBelow, AllForms, postfix_below}

-- ---- the greater of two numbers

pub first_most : (a b n : ℕ) → max a b ≤ n → a ≤ n
first_most a b n h = let l : a ≤ max a b = le-max_left a b in omega (arith, h, l)

pub second_most : (a b n : ℕ) → max a b ≤ n → b ≤ n
second_most a b n h = let l : b ≤ max a b = le-max_right a b in omega (arith, h, l)

-- a bound above something more
pub one_less : (a n : ℕ) → suc a ≤ n → (p : ℕ) × (suc p ≡ n) × (a ≤ p)
one_less a zero h = absurd (omega (arith, h))
one_less a (suc p) h = (p, refl, omega (arith, h))

module _ (k : Bound) where
  -- ---- sites at which the chain of each function that is called is known

  abbrev pub CalledKnown : CalledName → Type 0
  CalledKnown (called_name.Plain number result parameters chain) = k.Known chain
  CalledKnown called_name.Entry = Unit {0}
  CalledKnown called_name.Itself = Unit {0}
  CalledKnown (called_name.Builtin b) = Unit {0}
  CalledKnown called_name.Broken = Unit {0}
  CalledKnown called_name.Unknown = Unit {0}

  abbrev pub KnownAt : Site → Type 0
  KnownAt (AtCall around name called parts) = CalledKnown called
  KnownAt _ = Unit {0}

  abbrev pub AllKnown : Sites Site → Type 0
  AllKnown nowhere = Unit {0}
  AllKnown (only s) = KnownAt s
  AllKnown (within r a) = AllKnown a
  AllKnown (a & b) = AllKnown a × AllKnown b

  -- ---- names

  abbrev pub AllNames : List Declared → Type 0
  AllNames [] = Unit {0}
  AllNames (d ∷ rest) = NameBelow k d.meant × AllNames rest

  pub names_push : (names : List Declared) (d : Declared) → AllNames names → NameBelow k d.meant → AllNames (names ++ d ∷ [])
  names_push [] d h i = (i, tt)
  names_push (x ∷ names) d h i = (h.0, names_push names d h.1 i)

  abbrev pub FineGiven : GivesBack → Type 0
  FineGiven gives_back.Nothing = Unit {0}
  FineGiven (gives_back.Value of) = Fine k of
  FineGiven gives_back.Unsure = Unit {0}

  abbrev pub AllVariables : List VariableForm → Type 0
  AllVariables [] = Unit {0}
  AllVariables (v ∷ rest) = Fine k v.of × AllVariables rest

  pub more_variables : (xs ys : List VariableForm) → AllVariables xs → AllVariables ys → AllVariables (xs ++ ys)
  more_variables [] ys h i = i
  more_variables (x ∷ xs) ys h i = (h.0, more_variables xs ys h.1 i)

  -- a context: its names, its structs, its variables, and what is given back
  pub record Stands (c : Context) : Type 0 where
    pub names : AllNames c.names
    pub structs : AllStructs k 0 c.structs
    pub variables : AllVariables c.variables
    pub gives : FineGiven c.returns

  or_below : (o p : Option Meant) → If (NameBelow k) o → If (NameBelow k) p → If (NameBelow k) (option_or o p)
  or_below None p h i = i
  or_below (Some x) p h i = h

  look_below : (name : List ℕ) (names : List Declared) → AllNames names → If (NameBelow k) (look name names)
  look_below name [] h = tt
  look_below name (d ∷ rest) h = or_below (look name rest) (where_true (bytes_eq d.name.name name) d.meant) (look_below name rest h.1) (if_where (NameBelow k) (bytes_eq d.name.name name) d.meant (λ e. h.0))

  abbrev CalledBelow : CalledName → Type 0
  CalledBelow (called_name.Plain number result parameters chain) = CallFine k number result parameters chain
  CalledBelow called_name.Entry = Unit {0}
  CalledBelow called_name.Itself = Unit {0}
  CalledBelow (called_name.Builtin b) = Unit {0}
  CalledBelow called_name.Broken = Unit {0}
  CalledBelow called_name.Unknown = Unit {0}

  builtin_named : (b : Option Builtin) → CalledBelow (builtin_if b)
  builtin_named None = tt
  builtin_named (Some b) = tt

  callee_below : (n : Option Meant) (b : Option Builtin) → If (NameBelow k) n → CalledBelow (callee_of n b)
  callee_below None b h = builtin_named b
  callee_below (Some (meant.Struct number)) b h = tt
  callee_below (Some (meant.Constant of words known)) b h = tt
  callee_below (Some (meant.Shared variable of)) b h = tt
  callee_below (Some (meant.Variable variable of constant)) b h = tt
  callee_below (Some (meant.Object object)) b h = tt
  callee_below (Some (meant.Function number true result parameters chain)) b h = tt
  callee_below (Some (meant.Function number false result parameters chain)) b h = h
  callee_below (Some meant.Itself) b h = tt
  callee_below (Some meant.Broken) b h = tt

  -- ---- expressions as parts

  abbrev SeenBelow : ℕ → ExprForm → Type 0
  SeenBelow b s = AllKnown s.sites → PartBelow k b s.part

  abbrev AllSeen : ℕ → List ExprForm → Type 0
  AllSeen b [] = Unit {0}
  AllSeen b (s ∷ rest) = SeenBelow b s × AllSeen b rest

  seen_parts : (b : ℕ) (around : Around) (ss : List ExprForm) → AllSeen b ss → AllKnown (values_sites around ss) → AllParts k b (map part_of ss)
  seen_parts b around [] h w = tt
  seen_parts b around (s ∷ ss) h w = (h.0 w.0.0, seen_parts b around ss h.1 w.1)

  -- ---- calls

  outside_below : (b : ℕ) (around : Around) (v : Option Value) → If (ValueBelow k b) v → If (ValueBelow k b) (outside_plain around v)
  outside_below b (surrounding.Entry lanes) v h = h
  outside_below b surrounding.Plain v h = tt
  outside_below b surrounding.Const v h = h
  outside_below b (surrounding.Attribute allowed) v h = h

  plain_barrier_below : (b : ℕ) (name : Place) (syncs : Bool) (parts : List Part) → If (ValueBelow k b) (plain_barrier name syncs parts)
  plain_barrier_below b name syncs [] = tt
  plain_barrier_below b name syncs (p ∷ parts) = tt

  barrier_below : (b : ℕ) (c : Context) (name : Place) (parts : List Part) → If (ValueBelow k b) (barrier_value c name parts)
  barrier_below b c name (x ∷ s ∷ []) = if_was (ValueBelow k b) (and_then (where_true (orders c x.pieces) s.pieces) (syncs_of c)) _ (λ syncs e. tt)
  barrier_below b c name _ = tt

  levels_below : (b : ℕ) (name : Place) (parts : List Part) → If (ValueBelow k b) (levels_value name parts)
  levels_below b name [] = (made k name uint_type b TypedKind-F.Levels tree.Levels tree.rolls-Levels tt (k.none b), tt)
  levels_below b name (p ∷ parts) = tt

  call_below : (b : ℕ) (c : Context) (name : Place) (called : CalledName) (ss : List ExprForm) → CalledBelow called → CalledKnown called → AllSeen b ss → AllKnown (given_sites c.around called ss) → If (ValueBelow k b) (call_value c name called (map part_of ss))
  call_below b c name (called_name.Plain number result parameters chain) ss f known h w = plain_below k b name number result parameters chain (map part_of ss) f known (seen_parts b c.around ss h w)
  call_below b c name called_name.Entry ss f known h w = tt
  call_below b c name called_name.Itself ss f known h w = tt
  call_below b c name (called_name.Builtin (builtin.OnNumbers i)) ss f known h w = intrinsic_below k b name i (map part_of ss) (seen_parts b c.around ss h w)
  call_below b c name (called_name.Builtin (builtin.Interlocked i)) ss f known h w = interlocked_at_below k b name i (map part_of ss) (seen_parts b c.around ss h w)
  call_below b c name (called_name.Builtin builtin.Levels) ss f known h w = levels_below b name (map part_of ss)
  call_below b c name (called_name.Builtin (builtin.Barrier syncs)) ss f known h w = outside_below b c.around (plain_barrier name syncs (map part_of ss)) (plain_barrier_below b name syncs (map part_of ss))
  call_below b c name (called_name.Builtin builtin.BarrierOf) ss f known h w = outside_below b c.around (barrier_value c name (map part_of ss)) (barrier_below b c name (map part_of ss))
  call_below b c name called_name.Broken ss f known h w = tt
  call_below b c name called_name.Unknown ss f known h w = tt

  -- ---- forms and operators

  abbrev FormSeen : ℕ → Around → FormLayer ExprForm → Type 0
  FormSeen b around f = AllKnown (form_values around f) → FormBelow k b (map_form part_of f)

  abbrev AllFormsSeen : ℕ → Around → List (FormLayer ExprForm) → Type 0
  AllFormsSeen b around [] = Unit {0}
  AllFormsSeen b around (f ∷ rest) = FormSeen b around f × AllFormsSeen b around rest

  forms_parts : (b : ℕ) (c : Context) (place : Place) (a : Option Along) (fs : List (FormLayer ExprForm)) → AllFormsSeen b c.around fs → AllKnown (forms_sites c place a fs) → AllForms k b (map (map_form part_of) fs)
  forms_parts b c place a [] h w = tt
  forms_parts b c place a (f ∷ fs) h w = (h.0 w.0, forms_parts b c place (form_after c place a (map_form part_of f)) fs h.1 w.1.1.1)

  abbrev LinkSeen : ℕ → LinkLayer ExprForm → Type 0
  LinkSeen b l = AllKnown l.operand.sites → OperandBelow k (is_logical l.operator) b l.operand.part

  abbrev AllLinksSeen : ℕ → List (LinkLayer ExprForm) → Type 0
  AllLinksSeen b [] = Unit {0}
  AllLinksSeen b (l ∷ rest) = LinkSeen b l × AllLinksSeen b rest

  links_parts : (b : ℕ) (around : Around) (place : Place) (before : Option TypeTree) (ls : List (LinkLayer ExprForm)) → AllLinksSeen b ls → AllKnown (links_sites around place before ls) → AllOperands k b (map (map_link part_of) ls)
  links_parts b around place before [] h w = tt
  links_parts b around place before (l ∷ ls) h w = (h.0 w.0.0, links_parts b around place (type_after before (map_link part_of l)) ls h.1 w.1.1)

  -- ---- one layer

  abbrev pub form_of : Context → Form → FormLayer ExprForm
  form_of c = fold-Form ExprForm (FormLayer ExprForm) (LinkLayer ExprForm) (expr_seen c) form_seen link_seen

  abbrev pub link_of : Context → Link → LinkLayer ExprForm
  link_of c = fold-Link ExprForm (FormLayer ExprForm) (LinkLayer ExprForm) (expr_seen c) form_seen link_seen

  abbrev form_branches : Form → ℕ
  form_branches = fold-Form ℕ ℕ ℕ expr_step form_step link_step

  abbrev link_branches : Link → ℕ
  link_branches = fold-Link ℕ ℕ ℕ expr_step form_step link_step

  abbrev form_written : Form → Bool
  form_written = fold-Form Bool Bool Bool expr_written_step form_written_step link_written_step

  abbrev link_written : Link → Bool
  link_written = fold-Link Bool Bool Bool expr_written_step form_written_step link_written_step

  abbrev ExprIs : Context → Expr → Type 0
  ExprIs c e = (b : ℕ) → expr_branches e ≤ b → k.Wrote (expr_written e) → SeenBelow b (expr_form c e)

  abbrev FormIs : Context → Form → Type 0
  FormIs c f = (b : ℕ) → form_branches f ≤ b → k.Wrote (form_written f) → FormSeen b c.around (form_of c f)

  abbrev LinkIs : Context → Link → Type 0
  LinkIs c l = (b : ℕ) → link_branches l ≤ b → k.Wrote (link_written l) → LinkSeen b (link_of c l)

  list_seen : {B : Type 0} (c : Context) (p : B → Expr) (holds : (x : B) → ExprIs c (p x)) (b : ℕ) (xs : List B) → most (map expr_branches (map p xs)) ≤ b → k.Wrote (all_true (map expr_written (map p xs))) → AllSeen b (map (expr_form c) (map p xs))
  list_seen c p holds b [] h o = tt
  list_seen c p holds b (x ∷ xs) h o = (holds x b (first_most (expr_branches (p x)) _ b h) (k.first (expr_written (p x)) _ o), list_seen c p holds b xs (second_most (expr_branches (p x)) _ b h) (k.second (expr_written (p x)) _ o))

  all_forms_seen : {F : Type 0} (c : Context) (q : F → Form) (holds : (f : F) → FormIs c (q f)) (b : ℕ) (fs : List F) → most (map form_branches (map q fs)) ≤ b → k.Wrote (all_true (map form_written (map q fs))) → AllFormsSeen b c.around (map (form_of c) (map q fs))
  all_forms_seen c q holds b [] h o = tt
  all_forms_seen c q holds b (f ∷ fs) h o = (holds f b (first_most (form_branches (q f)) _ b h) (k.first (form_written (q f)) _ o), all_forms_seen c q holds b fs (second_most (form_branches (q f)) _ b h) (k.second (form_written (q f)) _ o))

  all_links_seen : {L : Type 0} (c : Context) (r : L → Link) (holds : (l : L) → LinkIs c (r l)) (b : ℕ) (ls : List L) → most (map link_branches (map r ls)) ≤ b → k.Wrote (all_true (map link_written (map r ls))) → AllLinksSeen b (map (link_of c) (map r ls))
  all_links_seen c r holds b [] h o = tt
  all_links_seen c r holds b (l ∷ ls) h o = (holds l b (first_most (link_branches (r l)) _ b h) (k.first (link_written (r l)) _ o), all_links_seen c r holds b ls (second_most (link_branches (r l)) _ b h) (k.second (link_written (r l)) _ o))

  abbrev seen_layer : {B F L : Type 0} → Context → (B → Expr) → (F → Form) → (L → Link) → Expr-F B F L → Layer ExprForm
  seen_layer {B} {F} {L} c p q r y = map-Expr Expr Form Link ExprForm (FormLayer ExprForm) (LinkLayer ExprForm) (expr_form c) (form_of c) (link_of c) (map-Expr B F L Expr Form Link p q r y)

  abbrev counted_layer : {B F L : Type 0} → (B → Expr) → (F → Form) → (L → Link) → Expr-F B F L → Expr-F ℕ ℕ ℕ
  counted_layer {B} {F} {L} p q r y = map-Expr Expr Form Link ℕ ℕ ℕ expr_branches form_branches link_branches (map-Expr B F L Expr Form Link p q r y)

  choice_seen : (b : ℕ) (place : Place) (t x y : ExprForm) (m n o : ℕ) → ((a : ℕ) → m ≤ a → SeenBelow a t) → ((a : ℕ) → n ≤ a → SeenBelow a x) → ((a : ℕ) → o ≤ a → SeenBelow a y) → max m (suc (max n o)) ≤ b
      → AllKnown t.sites → AllKnown x.sites → AllKnown y.sites → If (ValueBelow k b) (choice_value place t.part x.part y.part)
  choice_seen b place t x y m n o ht hx hy h u v w =
      let l = one_less (max n o) b (second_most m (suc (max n o)) b h) in
      subst (λ a. If (ValueBelow k a) (choice_value place t.part x.part y.part)) l.1
      (choice_below k l.0 place t.part x.part y.part (subst (λ a. PartBelow k a t.part) (sym l.1) (ht b (first_most m (suc (max n o)) b h) u))
      (hx l.0 (first_most n o l.0 l.2) v) (hy l.0 (second_most n o l.0 l.2) w))

  abbrev written_layer : {B F L : Type 0} → (B → Expr) → (F → Form) → (L → Link) → Expr-F B F L → Expr-F Bool Bool Bool
  written_layer {B} {F} {L} p q r y = map-Expr Expr Form Link Bool Bool Bool expr_written form_written link_written (map-Expr B F L Expr Form Link p q r y)

  pub value_fine : (of : ValueType) → k.Wrote (value_written of) → Fine k (of_value_type of)
  value_fine (value_type.Scalar of) o = tt
  value_fine (value_type.Vector of n) o = k.written n (k.first (is_size n) _ o)

  layer_below : {B F L : Type 0} (c : Context) (p : B → Expr) (q : F → Form) (r : L → Link) (e : (x : B) → ExprIs c (p x)) (f : (x : F) → FormIs c (q x)) (l : (x : L) → LinkIs c (r x)) (y : Expr-F B F L) (s : Stands c)
      (b : ℕ) → expr_step (counted_layer p q r y) ≤ b → k.Wrote (expr_written_step (written_layer p q r y)) → AllKnown (layer_sites c (seen_layer c p q r y)) → (place : Place) → If (ValueBelow k b) (layer_value c place (map_layer part_of (seen_layer c p q r y)))
  layer_below c p q r e f l (Expr-F.Number at n unsigned long) s b h o w place = number_below k b place n unsigned long o
  layer_below c p q r e f l (Expr-F.Text at bytes) s b h o w place = tt
  layer_below c p q r e f l (Expr-F.Truth at v) s b h o w place = truth_below k b place v
  layer_below c p q r e f l (Expr-F.Name name) s b h o w place = named_below k b c.around name (look name.name c.names) (look_below name.name c.names s.names)
  layer_below c p q r e f l (Expr-F.Call name arguments) s b h o w place =
      call_below b c place (callee c name) (map (expr_form c) (map p arguments)) (callee_below (look name.name c.names) (at_name (builtins c.around) name.name) (look_below name.name c.names s.names)) w.1.0 (list_seen c p e b arguments h o) w.0
  layer_below c p q r e f l (Expr-F.Construct at of arguments) s b h o w place = if_then (λ (n : Numbers). FineSize k.Sized n.size) (ValueBelow k b) (numbers (of_value_type of)) _ (numbers_fine k.Sized (of_value_type of) (value_fine of (k.first (value_written of) _ o)))
      (λ goal i. constructed_below k b place goal _ i (seen_parts b c.around _ (list_seen c p e b arguments h (k.second (value_written of) _ o)) w.0))
  layer_below c p q r e f l (Expr-F.Bracket at inner) s b h o w place = e inner b h o w
  layer_below c p q r e f l (Expr-F.Prefix at operator operand) s b h o w place = prefix_below k b place operator (part c (p operand)) (e operand b h o w.0.0)
  layer_below c p q r e f l (Expr-F.Cast at to operand) s b h o w place = cast_below k b place (of_value_type to) (part c (p operand)) (value_fine to (k.first (value_written to) _ o)) (e operand b h (k.second (value_written to) _ o) w.0.0)
  layer_below c p q r e f l (Expr-F.Zeros at of) s b h o w place = zeros_below k b place (look of.name c.names)
  layer_below c p q r e f l (Expr-F.Postfix first forms) s b h o w place =
      postfix_below k b c place (part c (p first)) (map (map_form part_of) (map (form_of c) (map q forms))) s.structs (e first b (first_most (expr_branches (p first)) _ b h) (k.first (expr_written (p first)) _ o) w.0)
      (forms_parts b c _ _ _ (all_forms_seen c q f b forms (second_most (expr_branches (p first)) _ b h) (k.second (expr_written (p first)) _ o)) w.1.1)
  layer_below c p q r e f l (Expr-F.Chain first rest) s b h o w place =
      chain_below k b place (part c (p first)) (map (map_link part_of) (map (link_of c) (map r rest))) (e first b (first_most (expr_branches (p first)) _ b h) (k.first (expr_written (p first)) _ o) w.0.0)
      (links_parts b c.around _ _ _ (all_links_seen c r l b rest (second_most (expr_branches (p first)) _ b h) (k.second (expr_written (p first)) _ o)) w.1)
  layer_below c p q r e f l (Expr-F.Choice test x y) s b h o w place =
      let two = k.second (expr_written (p test)) _ o in
      choice_seen b place (expr_form c (p test)) (expr_form c (p x)) (expr_form c (p y)) (expr_branches (p test)) (expr_branches (p x)) (expr_branches (p y))
      (λ a i. e test a i (k.first (expr_written (p test)) _ o)) (λ a i. e x a i (k.first (expr_written (p x)) _ two)) (λ a i. e y a i (k.second (expr_written (p x)) _ two)) h w.0.0 w.1.0.0 w.1.1.0.0

  form_seen_below : {B F L : Type 0} (c : Context) (p : B → Expr) (q : F → Form) (r : L → Link) (e : (x : B) → ExprIs c (p x)) (y : Form-F B F L)
      (b : ℕ) → form_step (map-Form Expr Form Link ℕ ℕ ℕ expr_branches form_branches link_branches (map-Form B F L Expr Form Link p q r y)) ≤ b
      → k.Wrote (form_written_step (map-Form Expr Form Link Bool Bool Bool expr_written form_written link_written (map-Form B F L Expr Form Link p q r y)))
      → FormSeen b c.around (form_seen (map-Form Expr Form Link ExprForm (FormLayer ExprForm) (LinkLayer ExprForm) (expr_form c) (form_of c) (link_of c) (map-Form B F L Expr Form Link p q r y)))
  form_seen_below c p q r e (Form-F.Member name) b h o = λ w. tt
  form_seen_below c p q r e (Form-F.Method name arguments) b h o = λ w. seen_parts b c.around _ (list_seen c p e b arguments h o) w
  form_seen_below c p q r e (Form-F.Index place at) b h o = λ w. e at b h o w.0

  link_seen_below : (logical : Bool) (s : ExprForm) (n b : ℕ) → ((a : ℕ) → n ≤ a → SeenBelow a s) → cond logical (suc n) n ≤ b → AllKnown s.sites → OperandBelow k logical b s.part
  link_seen_below true s n b holds h w = let l = one_less n b h in (l.0, l.1, holds l.0 l.2 w)
  link_seen_below false s n b holds h w = holds b h w

  -- ---- all expressions

  pub seen_below : (c : Context) → Stands c → (e : Expr) → ExprIs c e
  seen_below c s e = ind-Expr (ExprIs c) (FormIs c) (LinkIs c)
      (λ x y eq. subst (λ l. ExprIs c (roll-Expr l)) eq (λ b h o. subst (SeenBelow b) (sym (fold-roll-Expr ExprForm (FormLayer ExprForm) (LinkLayer ExprForm) (expr_seen c) form_seen link_seen _))
      (λ w. layer_below c (λ z. z.0) (λ z. z.0) (λ z. z.0) (λ z. z.1) (λ z. z.1) (λ z. z.1) y s b (subst (λ n. n ≤ b) (fold-roll-Expr ℕ ℕ ℕ expr_step form_step link_step _) h) (subst k.Wrote (fold-roll-Expr Bool Bool Bool expr_written_step form_written_step link_written_step _) o) w _)))
      (λ x y eq. subst (λ l. FormIs c (roll-Form l)) eq (λ b h o. subst (FormSeen b c.around) (sym (fold-roll-Form ExprForm (FormLayer ExprForm) (LinkLayer ExprForm) (expr_seen c) form_seen link_seen _))
      (form_seen_below c (λ z. z.0) (λ z. z.0) (λ z. z.0) (λ z. z.1) y b (subst (λ n. n ≤ b) (fold-roll-Form ℕ ℕ ℕ expr_step form_step link_step _) h) (subst k.Wrote (fold-roll-Form Bool Bool Bool expr_written_step form_written_step link_written_step _) o))))
      (λ x y eq. subst (λ l. LinkIs c (roll-Link l)) eq (λ b h o. subst (LinkSeen b) (sym (fold-roll-Link ExprForm (FormLayer ExprForm) (LinkLayer ExprForm) (expr_seen c) form_seen link_seen _))
      (link_seen_below (is_logical y.operator) (expr_form c y.operand.0) (expr_branches y.operand.0) b (λ a i. y.operand.1 a i (subst k.Wrote (fold-roll-Link Bool Bool Bool expr_written_step form_written_step link_written_step _) o)) (subst (λ n. n ≤ b) (fold-roll-Link ℕ ℕ ℕ expr_step form_step link_step _) h))))
      e

  -- an expression in its context
  pub part_below : (c : Context) → Stands c → (e : Expr) (b : ℕ) → expr_branches e ≤ b → k.Wrote (expr_written e) → AllKnown (expr_form c e).sites → PartBelow k b (part c e)
  part_below c s e b h o w = seen_below c s e b h o w
