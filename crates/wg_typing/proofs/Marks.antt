-- The variables of a typed function are marked by what happens in its body.
use Rattle.std.proofs.Common.{◌≡◌, ◌⊎◌, ℕ, suc, Bool, true, false, not, cond, inl, inr, List, [], ◌∷◌, ◌++◌, length, map, Option, Some, None, refl, sym, ap, subst, arith}
use Rattle.std.specs.Prelude.{◌&&◌, ◌+◌, unwrap_or}
use Rattle.wg_words.specs.Maybe.{◌>>=◌}
use Rattle.wg_typing.specs.Maybe.{all_of}
use Rattle.wg_typing.specs.Marked.{MarkedRightly, AllMarkedRightly, IsMarked}
use Rattle.wg_typing.specs.Named.{is_among}
use Rattle.wg_typing.specs.Scope.{Context}
use Rattle.wg_typing.specs.Sites.{In}
use Rattle.wg_typing.specs.Typing.{typed}
use Rattle.wg_typing.specs.TypingEvents.{events}
use Rattle.wg_typing.specs.TypingFunction.{body_context, body_sites, first_before, function_head, function_tree, known_parameters, result_if, parameter_context, head_context}
use Rattle.wg_typing.specs.TypingMarks.{is_changed, is_group_id, is_uniform_of, is_uniform_value, marked_variable, with_variable, with_variables, setting_of}
use Rattle.wg_typing.specs.TypingParameter.{parameters_trees}
use Rattle.wg_typing.specs.TypingSoFar.{Text, text_names, outside}
use Rattle.wg_typing.specs.TypingStmt.{block_after, block_trees, walked}
use Rattle.wg_typing.specs.TypingStruct.{with_struct, struct_tree}
use Rattle.wg_typing.specs.TypingText.{no_text, item_name, item_declared, item_after, items_after}
use Rattle.wg_tree.specs.declared.expr.Named.{Named}
use Rattle.wg_tree.specs.declared.item.Item.{Item}
use Rattle.wg_tree.specs.declared.item.Item.TheVariants as item
use Rattle.wg_tree.specs.declared.item.Parameter.{Parameter}
use Rattle.wg_tree.specs.declared.item.Source.{Source}
use Rattle.wg_tree.specs.declared.stmt.Attribute.{Attribute}
use Rattle.wg_tree.specs.declared.stmt.Stmt.{Stmt}
use Rattle.wg_typed.specs.Uniform.{UniformSetting}
use Rattle.wg_typed.specs.declared.typed.SystemValue.{SystemValue}
use Rattle.wg_typed.specs.declared.typed.Typed.{Typed}
use Rattle.wg_typed.specs.declared.typed.TypedFunction.{TypedFunction}
use Rattle.wg_typed.specs.declared.typed.TypedStruct.{TypedStruct}
use Rattle.wg_typed.specs.declared.typed.TypedVariable.{TypedVariable}
use Rattle.wg_typing.specs.declared.context.VariableForm.{VariableForm}
use Rattle.wg_typing.specs.declared.event.Event.{Event}
use Rattle.wg_typing.specs.declared.so_far.FunctionHead.{FunctionHead}
use Rattle.wg_typing.proofs.Facts.{and_left, and_right, not_true, some_value, then_some}

-- ---- marks

uniform_of : (system : Option SystemValue) (alone value : Bool) (s : SystemValue) → is_uniform_of system alone value ≡ true → system ≡ Some s → (is_group_id s ≡ true) × (alone ≡ true)
uniform_of None alone value s h e = absurd (cc)
uniform_of (Some x) alone value s h e = (subst (λ s. is_group_id s ≡ true) (some_value e) (and_left (is_group_id x) alone h), and_right (is_group_id x) alone h)

one_marked : (u : UniformSetting) (happens : List Event) (v : VariableForm) → MarkedRightly happens (length u.variables) (marked_variable u happens v)
one_marked u happens v h s e =
    let both = uniform_of v.system (not (is_changed (length u.variables) happens)) (v.constant && is_uniform_value u v.value) s h e in
    record { group_id = both.0; unchanged = not_true (is_changed (length u.variables) happens) both.1 }

push_marked : (happens : List Event) (number at : ℕ) (vs : List TypedVariable) (v : TypedVariable) → at ≡ number + length vs → AllMarkedRightly happens number vs → MarkedRightly happens at v → AllMarkedRightly happens number (vs ++ v ∷ [])
push_marked happens number at [] v e h k = (subst (λ n. MarkedRightly happens n v) (none_more e) k, tt)
  where
    none_more : at ≡ number + 0 → at ≡ number
    none_more e = omega (arith, e)
push_marked happens number at (x ∷ vs) v e h k = (h.0, push_marked happens (suc number) at vs v (omega (arith, e)) h.1 k)

all_marked : (u : UniformSetting) (happens : List Event) (forms : List VariableForm) → AllMarkedRightly happens 0 u.variables → AllMarkedRightly happens 0 (with_variables u happens forms).variables
all_marked u happens [] h = h
all_marked u happens (v ∷ rest) h = all_marked (with_variable u happens v) happens rest (push_marked happens 0 (length u.variables) u.variables (marked_variable u happens v) (omega arith) h (one_marked u happens v))

-- ---- functions

abbrev MarkedIf : Option TypedFunction → Type 0
MarkedIf None = Unit {0}
MarkedIf (Some f) = IsMarked f

then_marked : {A : Type 0} (o : Option A) (k : A → Option TypedFunction) → ((a : A) → o ≡ Some a → MarkedIf (k a)) → MarkedIf (◌>>=◌ o k)
then_marked None k h = tt
then_marked (Some a) k h = h a refl

pub head_is : (c : Context) (parameters : List Parameter) (head : FunctionHead) → function_head c parameters ≡ Some head → parameters_trees first_before parameters c ≡ Some head.parameters
head_is c parameters head g =
    let a = then_some (result_if c.returns) _ head g in
    let b = then_some (parameters_trees first_before parameters c) _ head a.2 in
    subst (λ (head : FunctionHead). parameters_trees first_before parameters c ≡ Some head.parameters) (some_value b.2) b.1

function_marked : (outer c : Context) (attributes : List Attribute) (name : Named) (parameters : List Parameter) (body : List Stmt) → MarkedIf (function_tree outer c attributes name parameters body)
function_marked outer c attributes name parameters body = then_marked (function_head c parameters) _ (λ head e.
    then_marked (block_trees (map walked body) (body_context c parameters)) _ (λ statements f.
    then_marked (all_of (block_after (map walked body) (body_context c parameters)).handles) _ (λ handles g. record {
      context = body_context c parameters;
      body = body;
      marks = ap (λ ps. (setting_of ps (events (body_sites (body_context c parameters) body)) (block_after (map walked body) (body_context c parameters)).variables).variables) (known head e);
      rightly = all_marked _ (events (body_sites (body_context c parameters) body)) (block_after (map walked body) (body_context c parameters)).variables tt;
    })))
  where
    known : (head : FunctionHead) → function_head c parameters ≡ Some head → known_parameters c parameters ≡ head.parameters
    known head e = ap (λ ps. unwrap_or ps []) (head_is c parameters head e)

-- ---- texts

abbrev AllMarkedIf : List (Option TypedFunction) → Type 0
AllMarkedIf [] = Unit {0}
AllMarkedIf (f ∷ rest) = MarkedIf f × AllMarkedIf rest

push_if : (fs : List (Option TypedFunction)) (f : Option TypedFunction) → AllMarkedIf fs → MarkedIf f → AllMarkedIf (fs ++ f ∷ [])
push_if [] f h k = (k, tt)
push_if (x ∷ fs) f h k = (h.0, push_if fs f h.1 k)

struct_leaves : (name : Named) (s : Option TypedStruct) (x : Text) → AllMarkedIf x.functions → AllMarkedIf (with_struct name s x).functions
struct_leaves name None x h = h
struct_leaves name (Some s) x h = h

declared_marked : (x : Text) (i : Item) → AllMarkedIf x.functions → AllMarkedIf (item_declared x i).functions
declared_marked x (item.Struct place attributes name fields) h = struct_leaves name (struct_tree (outside x) attributes name fields) x h
declared_marked x (item.Buffer coherent of name registers) h = h
declared_marked x (item.Shared place of name size) h = h
declared_marked x (item.Constant place of name e) h = h
declared_marked x (item.Function attributes result name parameters place body) h =
    push_if x.functions _ h (function_marked (head_context x parameters) (parameter_context x attributes result name parameters) attributes name parameters body)

items_marked : (x : Text) (items : List Item) → AllMarkedIf x.functions → AllMarkedIf (items_after x items).functions
items_marked x [] h = h
items_marked x (i ∷ rest) h = items_marked (item_after x i) rest (either (is_among (text_names x) (item_name i).name))
  where
    either : (b : Bool) → AllMarkedIf (cond b x (item_declared x i)).functions
    either true = h
    either false = declared_marked x i h

among_marked : (xs : List (Option TypedFunction)) (fs : List TypedFunction) → all_of xs ≡ Some fs → AllMarkedIf xs → (f : TypedFunction) → In fs f → IsMarked f
among_marked [] fs e h f i = absurd (subst (λ fs. In fs f) (sym (some_value e)) i)
among_marked (x ∷ rest) fs e h f i =
    let a = then_some x _ fs e in
    let b = then_some (all_of rest) _ fs a.2 in
    here a.0 b.0 a.1 b.1 (subst (λ fs. In fs f) (sym (some_value b.2)) i) (among_marked rest b.0 b.1 h.1 f)
  where
    here : (g : TypedFunction) (gs : List TypedFunction) → x ≡ Some g → all_of rest ≡ Some gs → (g ≡ f) ⊎ In gs f → (In gs f → IsMarked f) → IsMarked f
    here g gs p q (inl s) k = subst IsMarked s (subst MarkedIf p h.0)
    here g gs p q (inr s) k = k s

pub functions_are_marked : (tree : Source) (t : Typed) → typed tree ≡ Some t → (f : TypedFunction) → In t.functions f → IsMarked f
functions_are_marked tree t e f i =
    let x = items_after no_text tree.items in
    let a = then_some (all_of x.buffers) _ t e in
    let b = then_some (all_of x.shared) _ t a.2 in
    let c = then_some (all_of x.functions) _ t b.2 in
    among_marked x.functions c.0 c.1 (items_marked no_text tree.items tt) f (subst (λ (t : Typed). In t.functions f) (sym (some_value c.2)) i)
