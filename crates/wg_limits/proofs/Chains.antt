-- At most 16 functions stand in a chain of calls.
use Rattle.std.proofs.Common.{◌≡◌, ◌<◌, ◌≤◌, ℕ, suc, Bool, true, false, cond, List, [], ◌∷◌, ◌++◌, max, length, Option, Some, None, ◌⊎◌, inl, inr, refl, sym, ap, ◌∙◌, subst, arith}
use Rattle.std.proofs.Math.Nat.{max-le, le-max_left, le-max_right}
use Rattle.std.specs.Prelude.{slice_get}
use Rattle.std.specs.Option.{unwrap_or}
use Rattle.wg_typing.specs.Layers.{fit}
use Rattle.wg_typing.specs.Maybe.{all_of}
use Rattle.wg_typing.specs.Named.{is_among}
use Rattle.wg_typing.specs.Scope.{Context, as_const, known_names, named_type}
use Rattle.wg_typing.specs.Sites.{Sites, nowhere, only, within, ◌&◌, In}
use Rattle.wg_typing.specs.Site.{Site, AtCall}
use Rattle.wg_typing.specs.Typing.{typed}
use Rattle.wg_typing.specs.TypingBuffer.{buffer_of, buffer_meant}
use Rattle.wg_typing.specs.TypingConstant.{constant_of, constant_type, constant_meant}
use Rattle.wg_typing.specs.TypingEvents.{calls_of, events_at, events_in, events, chain_of}
use Rattle.wg_typing.specs.TypingExpr.{part}
use Rattle.wg_typing.specs.TypingChanged.{call_changes}
use Rattle.wg_typing.specs.TypingFunction.{is_entry_around, passed_in, body_context, body_sites, head_context, parameter_context, function_head, function_if, function_meant, function_tree}
use Rattle.wg_typing.specs.TypingFunctionCall.{chain_limit, chain_fits}
use Rattle.wg_typing.specs.TypingShared.{shared_type, shared_meant}
use Rattle.wg_typing.specs.TypingSoFar.{Text, outside, text_names, with_name}
use Rattle.wg_typing.specs.TypingStruct.{struct_tree, with_struct}
use Rattle.wg_typing.specs.TypingText.{no_text, item_declared, item_name, item_after, items_after}
use Rattle.wg_typed.specs.Constants.{const_value}
use Rattle.wg_tree.specs.declared.expr.Named.{Named}
use Rattle.wg_tree.specs.declared.expr.Expr.{Expr}
use Rattle.wg_tree.specs.declared.expr.TypeName.{TypeName}
use Rattle.wg_tree.specs.declared.item.Item.{Item}
use Rattle.wg_tree.specs.declared.item.Item.TheVariants as item
use Rattle.wg_tree.specs.declared.item.Parameter.{Parameter}
use Rattle.wg_tree.specs.declared.item.ResultType.{ResultType}
use Rattle.wg_tree.specs.declared.item.Source.{Source}
use Rattle.wg_tree.specs.declared.stmt.Attribute.{Attribute}
use Rattle.wg_tree.specs.declared.stmt.Stmt.{Stmt}
use Rattle.wg_typed.specs.declared.types.ConstValue.{ConstValue}
use Rattle.wg_typed.specs.declared.types.TypeTree.{TypeTree}
use Rattle.wg_typed.specs.declared.types.TypeTree.TheVariants as type
use Rattle.wg_typed.specs.declared.typed.Typed.{Typed}
use Rattle.wg_typed.specs.declared.typed.TypedBufferType.{TypedBufferType}
use Rattle.wg_typed.specs.declared.typed.TypedFunction.{TypedFunction}
use Rattle.wg_typed.specs.declared.typed.TypedStruct.{TypedStruct}
use Rattle.wg_typing.specs.declared.called.CalledName.{CalledName}
use Rattle.wg_typing.specs.declared.called.CalledName.TheVariants as called_name
use Rattle.wg_typing.specs.declared.event.Event.{Event}
use Rattle.wg_typing.specs.declared.event.Event.TheVariants as event
use Rattle.wg_typing.specs.declared.event.Region.{Region}
use Rattle.wg_typing.specs.declared.scope.Declared.{Declared}
use Rattle.wg_typing.specs.declared.scope.FormalParameter.{FormalParameter}
use Rattle.wg_typing.specs.declared.scope.Meant.{Meant}
use Rattle.wg_typing.specs.declared.scope.Meant.TheVariants as meant
use Rattle.wg_facts.proofs.Basics.{If, if_was, if_so, some_value, then_some, so_less}
use Rattle.wg_facts.proofs.Lists.{nothing_more, joined, at_end_of, all_at, pushed}
use Rattle.wg_limits.specs.Branches.{body_branches}
use Rattle.wg_limits.specs.Calls.{calls_measure, called_in, IsChain}
use Rattle.wg_limits.proofs.Parts.{Bound, NameBelow}
use Rattle.wg_limits.proofs.Exprs.{one_less, CalledKnown, KnownAt, AllKnown, AllNames}
use Rattle.wg_limits.proofs.Functions.{body_stands, fine_any, maybe_any, formals_any, object_any, words_any, structs_any, function_below}

-- ---- lists

in_either : {A : Type 0} (xs ys : List A) (x : A) → In (xs ++ ys) x → In xs x ⊎ In ys x
in_either [] ys x i = inr i
in_either (y ∷ xs) ys x (inl e) = inl (inl e)
in_either (y ∷ xs) ys x (inr i) = by_rest (in_either xs ys x i)
  where
    by_rest : In xs x ⊎ In ys x → In (y ∷ xs) x ⊎ In ys x
    by_rest (inl j) = inl (inr j)
    by_rest (inr j) = inr j

-- ---- what happens in a function

chain_first : (xs ys : List Event) (n : ℕ) → chain_of (xs ++ ys) ≤ n → chain_of xs ≤ n
chain_first [] ys n h = positive ys n h
  where
    positive : (ys : List Event) (n : ℕ) → chain_of ys ≤ n → 1 ≤ n
    positive [] n h = h
    positive (event.Calls m ∷ ys) n h = positive ys n (let l : chain_of ys ≤ max (suc m) (chain_of ys) = le-max_right (suc m) (chain_of ys) in omega (arith, h, l))
    positive (event.Declares name words ∷ ys) n h = positive ys n h
    positive (event.Requested name handle ∷ ys) n h = positive ys n h
    positive (event.Completed handle ∷ ys) n h = positive ys n h
    positive (event.Collective call path ∷ ys) n h = positive ys n h
    positive (event.Returns place ∷ ys) n h = positive ys n h
    positive (event.Changes variable ∷ ys) n h = positive ys n h
chain_first (event.Calls m ∷ xs) ys n h =
    let l : suc m ≤ max (suc m) (chain_of (xs ++ ys)) = le-max_left (suc m) (chain_of (xs ++ ys)) in
    let r : chain_of (xs ++ ys) ≤ max (suc m) (chain_of (xs ++ ys)) = le-max_right (suc m) (chain_of (xs ++ ys)) in
    max-le (omega (arith, h, l)) (chain_first xs ys n (omega (arith, h, r)))
chain_first (event.Declares name words ∷ xs) ys n h = chain_first xs ys n h
chain_first (event.Requested name handle ∷ xs) ys n h = chain_first xs ys n h
chain_first (event.Completed handle ∷ xs) ys n h = chain_first xs ys n h
chain_first (event.Collective call path ∷ xs) ys n h = chain_first xs ys n h
chain_first (event.Returns place ∷ xs) ys n h = chain_first xs ys n h
chain_first (event.Changes variable ∷ xs) ys n h = chain_first xs ys n h

chain_second : (xs ys : List Event) (n : ℕ) → chain_of (xs ++ ys) ≤ n → chain_of ys ≤ n
chain_second [] ys n h = h
chain_second (event.Calls m ∷ xs) ys n h = chain_second xs ys n (let r : chain_of (xs ++ ys) ≤ max (suc m) (chain_of (xs ++ ys)) = le-max_right (suc m) (chain_of (xs ++ ys)) in omega (arith, h, r))
chain_second (event.Declares name words ∷ xs) ys n h = chain_second xs ys n h
chain_second (event.Requested name handle ∷ xs) ys n h = chain_second xs ys n h
chain_second (event.Completed handle ∷ xs) ys n h = chain_second xs ys n h
chain_second (event.Collective call path ∷ xs) ys n h = chain_second xs ys n h
chain_second (event.Returns place ∷ xs) ys n h = chain_second xs ys n h
chain_second (event.Changes variable ∷ xs) ys n h = chain_second xs ys n h

module _ (t : Typed) where
  -- each chain of calls from the function has at most so many functions
  abbrev Reaches : ℕ → ℕ → Type 0
  Reaches number chain = (rest : List ℕ) → IsChain t (number ∷ rest) → length (number ∷ rest) ≤ chain

  reaches_more : (number m n : ℕ) → Reaches number m → m ≤ n → Reaches number n
  reaches_more number m n h l rest c = let k : length (number ∷ rest) ≤ m = h rest c in omega (arith, k, l)

  -- the functions that a body calls, where its own chain has one more than the bound
  abbrev CalledReach : ℕ → List ℕ → Type 0
  CalledReach base called = (number : ℕ) → In called number → Reaches number base × Reaches number 15

  abbrev call_bound : ℕ → Bound
  call_bound base = record {
    carrier = List ℕ;
    measure = calls_measure;
    Below = λ called b. CalledReach base called;
    none = λ b number i. absurd i;
    join = λ x y b h i number j. either x y h i number (in_either x y number j);
    branch = λ x b h. h;
    Sized = λ n. Unit {0};
    two = tt;
    three = tt;
    four = tt;
    of = λ t b f number i. absurd i;
    Wrote = λ v. Unit {0};
    first = λ x y o. tt;
    second = λ x y o. tt;
    written = λ n o. tt;
    Word = λ n. Unit {0};
    word = λ n e. tt;
    high = λ n o. tt;
    literal = λ words b h number i. absurd i;
    Known = λ chain. chain ≤ base;
  }
    where
      either : (x y : List ℕ) → CalledReach base x → CalledReach base y → (number : ℕ) → In x number ⊎ In y number → Reaches number base × Reaches number 15
      either x y h i number (inl j) = h number j
      either x y h i number (inr j) = i number j

  -- ---- sites

  called_known : (base : ℕ) (called : CalledName) → chain_of (calls_of called) ≤ suc base → CalledKnown (call_bound base) called
  called_known base (called_name.Plain number result parameters chain) h = let l : suc chain ≤ max (suc chain) 1 = le-max_left (suc chain) 1 in omega (arith, h, l)
  called_known base called_name.Entry h = tt
  called_known base called_name.Itself h = tt
  called_known base (called_name.Builtin b) h = tt
  called_known base called_name.Broken h = tt
  called_known base called_name.Unknown h = tt

  site_known : (base : ℕ) (path : List Region) (s : Site) → chain_of (events_at path s) ≤ suc base → KnownAt (call_bound base) s
  site_known base path (AtCall around name called parts) h = called_known base called (chain_first (calls_of called) (call_changes called parts) (suc base) h)
  site_known base path _ h = tt

  all_known : (base : ℕ) (path : List Region) (a : Sites Site) → chain_of (events_in path a) ≤ suc base → AllKnown (call_bound base) a
  all_known base path nowhere h = tt
  all_known base path (only s) h = site_known base path s h
  all_known base path (within r a) h = all_known base (path ++ r ∷ []) a h
  all_known base path (a & b) h = (all_known base path a (chain_first (events_in path a) (events_in path b) (suc base) h), all_known base path b (chain_second (events_in path a) (events_in path b) (suc base) h))

  -- ---- names

  abbrev NameReaches : Meant → Type 0
  NameReaches (meant.Struct number) = Unit {0}
  NameReaches (meant.Constant of words known) = Unit {0}
  NameReaches (meant.Shared variable of) = Unit {0}
  NameReaches (meant.Variable variable of constant) = Unit {0}
  NameReaches (meant.Object o) = Unit {0}
  NameReaches (meant.Function number true result parameters chain) = Unit {0}
  NameReaches (meant.Function number false result parameters chain) = Reaches number chain
  NameReaches meant.Itself = Unit {0}
  NameReaches meant.Broken = Unit {0}

  abbrev AllReach : List Declared → Type 0
  AllReach [] = Unit {0}
  AllReach (d ∷ rest) = NameReaches d.meant × AllReach rest

  reach_push : (names : List Declared) (d : Declared) → AllReach names → NameReaches d.meant → AllReach (names ++ d ∷ [])
  reach_push [] d h i = (i, tt)
  reach_push (x ∷ names) d h i = (h.0, reach_push names d h.1 i)

  name_below : (base : ℕ) (n : Meant) → NameReaches n → NameBelow (call_bound base) n
  name_below base (meant.Struct number) h = tt
  name_below base (meant.Constant of words known) h = (fine_any (call_bound base) (λ n. tt) of, words_any (call_bound base) (λ n. tt) words)
  name_below base (meant.Shared variable of) h = fine_any (call_bound base) (λ n. tt) of
  name_below base (meant.Variable variable of constant) h = fine_any (call_bound base) (λ n. tt) of
  name_below base (meant.Object o) h = object_any (call_bound base) (λ n. tt) o
  name_below base (meant.Function number true result parameters chain) h = tt
  name_below base (meant.Function number false result parameters chain) h = record { callable = λ known few b m i. by_number known few m i; result = maybe_any (call_bound base) (λ n. tt) result; parameters = formals_any (call_bound base) (λ n. tt) parameters }
    where
      by_number : chain ≤ base → chain_fits chain ≡ true → (m : ℕ) → In (number ∷ []) m → Reaches m base × Reaches m 15
      by_number known few m (inl e) = let l : chain < chain_limit = so_less chain chain_limit few in
          (subst (λ x. Reaches x base) e (reaches_more number chain base h known), subst (λ x. Reaches x 15) e (reaches_more number chain 15 h (omega (arith, l))))
      by_number known few m (inr j) = absurd j
  name_below base meant.Itself h = tt
  name_below base meant.Broken h = tt

  all_below : (base : ℕ) (names : List Declared) → AllReach names → AllNames (call_bound base) names
  all_below base [] h = tt
  all_below base (d ∷ rest) h = (name_below base d.meant h.0, all_below base rest h.1)

  -- ---- texts as far as they are declared

  abbrev FunctionReaches : ℕ → Option TypedFunction → Type 0
  FunctionReaches number o = If (λ (f : TypedFunction). (called : ℕ) → In (called_in f.body) called → Reaches called 15) o

  record TextReaches (x : Text) : Type 0 where
    names : AllReach x.names
    functions : (number : ℕ) (o : Option TypedFunction) → slice_get x.functions number ≡ Some o → FunctionReaches number o

  abbrev Ends : List (Option TypedFunction) → Type 0
  Ends functions = (more : List (Option TypedFunction)) × (all_of (functions ++ more) ≡ Some t.functions)

  named : (x : Text) (name : Named) (n : Meant) → NameReaches n → TextReaches x → AllReach (with_name name n x).names
  named x name n h s = reach_push x.names (record { name = name; meant = n }) s.names h

  or_reaches : (o : Option Meant) → If NameReaches o → NameReaches (unwrap_or o meant.Broken)
  or_reaches None h = tt
  or_reaches (Some n) h = h

  module _ (x : Text) (attributes : List Attribute) (result : ResultType) (name : Named) (parameters : List Parameter) (body : List Stmt) where
    abbrev inside : Context
    inside = parameter_context x attributes result name parameters

    abbrev tree_of_function : Option TypedFunction
    tree_of_function = function_tree (head_context x parameters) inside attributes name parameters body

    abbrev happened : List Event
    happened = events (body_sites (body_context inside parameters) body)

    called_reach : (base : ℕ) → chain_of happened ≤ suc base → TextReaches x → If (λ (f : TypedFunction). CalledReach base (called_in f.body)) tree_of_function
    called_reach base h s = function_below (call_bound base) (head_context x parameters) inside attributes name parameters body (body_branches body) (body_stands (call_bound base) x attributes result name parameters (all_below base x.names s.names) (structs_any (call_bound base) (λ n. tt) x.structs) tt tt) (omega arith) tt
        (all_known base [] (body_sites (body_context inside parameters) body) h)

    -- the chain of a function has one more than those that it calls
    own_reaches : (f : TypedFunction) → tree_of_function ≡ Some f → slice_get t.functions (length x.functions) ≡ Some f → TextReaches x → Reaches (length x.functions) (chain_of happened)
    own_reaches f e at s [] c = chain_first [] happened (chain_of happened) (omega arith)
    own_reaches f e at s (m ∷ rest) c =
        let b = one_less 0 (chain_of happened) (chain_first [] happened (chain_of happened) (omega arith)) in
        let same : c.0.function ≡ f = some_value (sym c.0.at ∙ at) in
        let reach = if_so (λ (f : TypedFunction). CalledReach b.0 (called_in f.body)) tree_of_function f e (called_reach b.0 (subst (λ n. chain_of happened ≤ n) (sym b.1) (omega arith)) s) in
        let l : length (m ∷ rest) ≤ b.0 = (reach m (subst (λ (g : TypedFunction). In (called_in g.body) m) same c.0.called)).0 rest c.1 in
        subst (λ n. length (length x.functions ∷ m ∷ rest) ≤ n) b.1 (omega (arith, l))

    meant_reaches : (f : TypedFunction) → tree_of_function ≡ Some f → slice_get t.functions (length x.functions) ≡ Some f → TextReaches x → NameReaches (function_meant (length x.functions) inside parameters body)
    meant_reaches f e at s = or_reaches (function_if (length x.functions) inside (chain_of happened) parameters)
        (if_was NameReaches (function_head inside parameters) _ (λ head e1. if_was NameReaches (passed_in inside.around head.parameters) _ (λ passed e2. by_entry (is_entry_around inside.around) head.result passed)))
      where
        by_entry : (b : Bool) (r : Option TypeTree) (passed : List FormalParameter) → NameReaches (meant.Function (length x.functions) b r passed (chain_of happened))
        by_entry true r passed = tt
        by_entry false r passed = own_reaches f e at s

    own_called : TextReaches x → FunctionReaches (length x.functions) tree_of_function
    own_called s = let b = one_less 0 (chain_of happened) (chain_first [] happened (chain_of happened) (omega arith)) in
        by_tree tree_of_function b.0 (called_reach b.0 (subst (λ n. chain_of happened ≤ n) (sym b.1) (omega arith)) s)
      where
        by_tree : (o : Option TypedFunction) (base : ℕ) → If (λ (f : TypedFunction). CalledReach base (called_in f.body)) o → FunctionReaches (length x.functions) o
        by_tree None base h = tt
        by_tree (Some f) base h = λ called i. (h called i).1

    function_is : Ends (x.functions ++ tree_of_function ∷ []) → TextReaches x → TextReaches (record (with_name name (function_meant (length x.functions) inside parameters body) x) { functions = x.functions ++ tree_of_function ∷ [] })
    function_is ends s =
        let y = at_end_of x.functions tree_of_function ends.0 t.functions (ap all_of (sym (joined x.functions (tree_of_function ∷ []) ends.0)) ∙ ends.1) in
        record {
          names = named x name (function_meant (length x.functions) inside parameters body) (meant_reaches y.0 y.1 y.2 s) s;
          functions = pushed FunctionReaches x.functions tree_of_function s.functions (own_called s);
        }

  -- ---- all declarations

  buffer_name : (number : ℕ) (o : Option TypedBufferType) → NameReaches (buffer_meant number o)
  buffer_name number None = tt
  buffer_name number (Some of) = tt

  shared_name : (number : ℕ) (o : Option TypeTree) → NameReaches (shared_meant number o)
  shared_name number None = tt
  shared_name number (Some of) = tt

  constant_name : (x : Text) (of : TypeName) (e : Expr) → NameReaches (constant_meant (outside x) of e)
  constant_name x of e = or_reaches (constant_type (outside x) of e)
      (if_was NameReaches (named_type x.names of) _ (λ goal a. if_was NameReaches (fit goal (part (as_const (outside x)) e)) _ (λ y b. if_was NameReaches (const_value (known_names x.names) e) _ (λ v d. by_goal goal v))))
    where
      by_goal : (goal : TypeTree) (v : ConstValue) → If NameReaches (constant_of goal v)
      by_goal (type.Scalar of) v = tt
      by_goal (type.Vector of size) v = tt
      by_goal (type.Struct number) v = tt
      by_goal (type.Array of size) v = tt

  struct_is : (x : Text) (name : Named) (o : Option TypedStruct) → TextReaches x → TextReaches (with_struct name o x)
  struct_is x name None s = record { names = named x name meant.Broken tt s; functions = s.functions }
  struct_is x name (Some y) s = record { names = named x name (meant.Struct (length x.structs)) tt s; functions = s.functions }

  declared_is : (x : Text) (i : Item) → Ends (item_declared x i).functions → TextReaches x → TextReaches (item_declared x i)
  declared_is x (item.Struct place attributes name fields) ends s = struct_is x name (struct_tree (outside x) attributes name fields) s
  declared_is x (item.Buffer coherent of name registers) ends s = record { names = named x name (buffer_meant (length x.buffers) (buffer_of (outside x) of)) (buffer_name (length x.buffers) (buffer_of (outside x) of)) s; functions = s.functions }
  declared_is x (item.Shared place of name size) ends s = record { names = named x name (shared_meant (length x.shared) (shared_type x of size)) (shared_name (length x.shared) (shared_type x of size)) s; functions = s.functions }
  declared_is x (item.Constant place of name e) ends s = record { names = named x name (constant_meant (outside x) of e) (constant_name x of e) s; functions = s.functions }
  declared_is x (item.Function attributes result name parameters place body) ends s = function_is x attributes result name parameters body ends s

  item_is : (x : Text) (i : Item) → Ends (item_after x i).functions → TextReaches x → TextReaches (item_after x i)
  item_is x i ends s = by_test (is_among (text_names x) (item_name i).name) ends
    where
      by_test : (b : Bool) → Ends (cond b x (item_declared x i)).functions → TextReaches (cond b x (item_declared x i))
      by_test true ends = s
      by_test false ends = declared_is x i ends s

  -- functions that are there stay
  abbrev Grows : Text → Text → Type 0
  Grows x y = (more : List (Option TypedFunction)) × (y.functions ≡ x.functions ++ more)

  struct_grows : (x : Text) (name : Named) (o : Option TypedStruct) → Grows x (with_struct name o x)
  struct_grows x name None = ([], nothing_more x.functions)
  struct_grows x name (Some s) = ([], nothing_more x.functions)

  declared_grows : (x : Text) (i : Item) → Grows x (item_declared x i)
  declared_grows x (item.Struct place attributes name fields) = struct_grows x name (struct_tree (outside x) attributes name fields)
  declared_grows x (item.Buffer coherent of name registers) = ([], nothing_more x.functions)
  declared_grows x (item.Shared place of name size) = ([], nothing_more x.functions)
  declared_grows x (item.Constant place of name e) = ([], nothing_more x.functions)
  declared_grows x (item.Function attributes result name parameters place body) = (tree_of_function x attributes result name parameters body ∷ [], refl)

  item_grows : (x : Text) (i : Item) → Grows x (item_after x i)
  item_grows x i = by_test (is_among (text_names x) (item_name i).name)
    where
      by_test : (b : Bool) → Grows x (cond b x (item_declared x i))
      by_test true = ([], nothing_more x.functions)
      by_test false = declared_grows x i

  items_grow : (items : List Item) (x : Text) → Grows x (items_after x items)
  items_grow [] x = ([], nothing_more x.functions)
  items_grow (i ∷ rest) x =
      let g = item_grows x i in
      let h = items_grow rest (item_after x i) in
      (g.0 ++ h.0, h.1 ∙ ap (λ xs. xs ++ h.0) g.1 ∙ joined x.functions g.0 h.0)

  ends_before : (x y : Text) → Grows x y → Ends y.functions → Ends x.functions
  ends_before x y g h = (g.0 ++ h.0, ap all_of (sym (joined x.functions g.0 h.0)) ∙ ap (λ xs. all_of (xs ++ h.0)) (sym g.1) ∙ h.1)

  items_are : (items : List Item) (x : Text) → Ends (items_after x items).functions → TextReaches x → TextReaches (items_after x items)
  items_are [] x ends s = s
  items_are (i ∷ rest) x ends s = items_are rest (item_after x i) ends (item_is x i (ends_before (item_after x i) (items_after (item_after x i) rest) (items_grow rest (item_after x i)) ends) s)

pub chain_within : (tree : Source) (t : Typed) (chain : List ℕ) → typed tree ≡ Some t → IsChain t chain → length chain ≤ chain_limit
chain_within tree t [] e c = omega arith
chain_within tree t (n ∷ []) e c = omega arith
chain_within tree t (n ∷ m ∷ rest) e c =
    let x = items_after no_text tree.items in
    let p = then_some (all_of x.buffers) _ t e in
    let q = then_some (all_of x.shared) _ t p.2 in
    let r = then_some (all_of x.functions) _ t q.2 in
    let functions : all_of x.functions ≡ Some t.functions = r.1 ∙ ap (λ (y : Typed). Some y.functions) (some_value r.2) in
    let s = items_are t tree.items no_text ([], ap all_of (sym (nothing_more x.functions)) ∙ functions) (record { names = tt; functions = λ number o h. none_there number o h }) in
    let l : length (m ∷ rest) ≤ 15 = s.functions n (Some c.0.function) (all_at x.functions t.functions n c.0.function functions c.0.at) m c.0.called rest c.1 in
    omega (arith, l)
  where
    none_there : {B : Type 0} (n : ℕ) (a : Option TypedFunction) → slice_get [] n ≡ Some a → B
    none_there n a e = absurd (cc)
