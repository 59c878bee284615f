-- Measures below a bound: functions, and the functions of a text.
use Rattle.std.proofs.Common.{◌≤◌, ℕ, Bool, true, false, cond, List, [], ◌∷◌, ◌++◌, map, Option, Some, None, refl, sym, subst}
use Rattle.wg_typing.specs.Maybe.{where_true, all_of}
use Rattle.wg_typing.specs.Named.{is_among}
use Rattle.wg_typing.specs.Scope.{Context, declare, named_type}
use Rattle.wg_typing.specs.Sites.{Sites, nowhere, only, within, ◌&◌}
use Rattle.wg_typing.specs.Site.{Site, AtCall}
use Rattle.wg_typing.specs.TypingFunction.{gives, gives_if, first_before, body_context, body_sites, function_setting, head_context, parameter_context, function_head, function_tree}
use Rattle.wg_typing.specs.TypingParameter.{Role, an_input, an_output, no_role, Before, HeldRecords, empty, records, unsure_records, one_more, role_of, takes_role, holds, input_or_output, object_parameter, parameter_of, meant_if, parameter_variable, with_parameter, parameters_after}
use Rattle.wg_typing.specs.TypingSoFar.{Text, outside, text_names}
use Rattle.wg_typing.specs.TypingStmt.{block_after, block_trees, walked}
use Rattle.wg_typing.specs.TypingStruct.{struct_tree, with_struct}
use Rattle.wg_typing.specs.TypingText.{item_declared, item_name, item_after, items_after}
use Rattle.wg_tree.specs.declared.expr.Named.{Named}
use Rattle.wg_tree.specs.declared.item.Item.{Item}
use Rattle.wg_tree.specs.declared.item.Item.TheVariants as item
use Rattle.wg_tree.specs.declared.item.Parameter.{Parameter}
use Rattle.wg_tree.specs.declared.item.ParameterType.{ParameterType}
use Rattle.wg_tree.specs.declared.item.ParameterType.TheVariants as parameter_type
use Rattle.wg_tree.specs.declared.item.ResultType.{ResultType}
use Rattle.wg_tree.specs.declared.item.ResultType.TheVariants as result_type
use Rattle.wg_tree.specs.declared.stmt.Attribute.{Attribute}
use Rattle.wg_tree.specs.declared.stmt.ObjectType.{ObjectType}
use Rattle.wg_tree.specs.declared.stmt.Stmt.{Stmt}
use Rattle.wg_typed.specs.declared.types.ElementType.TheVariants as element
use Rattle.wg_typed.specs.declared.types.TypeTree.{TypeTree}
use Rattle.wg_typed.specs.declared.types.TypeTree.TheVariants as type
use Rattle.wg_typed.specs.declared.typed.TypedBufferType.TheVariants as buffer
use Rattle.wg_typed.specs.declared.typed.TypedField.{TypedField}
use Rattle.wg_typed.specs.declared.typed.TypedFunction.{TypedFunction}
use Rattle.wg_typed.specs.declared.typed.TypedParameterType.{TypedParameterType}
use Rattle.wg_typed.specs.declared.typed.TypedParameterType.TheVariants as typed_parameter
use Rattle.wg_typed.specs.declared.typed.TypedStruct.{TypedStruct}
use Rattle.wg_typing.specs.declared.called.CalledName.{CalledName}
use Rattle.wg_typing.specs.declared.called.CalledName.TheVariants as called_name
use Rattle.wg_typing.specs.declared.context.Around.{Around}
use Rattle.wg_typing.specs.declared.scope.Declared.{Declared}
use Rattle.wg_typing.specs.declared.scope.FormalParameter.{FormalParameter}
use Rattle.wg_typing.specs.declared.scope.Meant.{Meant}
use Rattle.wg_typing.specs.declared.scope.Meant.TheVariants as meant
use Rattle.wg_typing.specs.declared.scope.Object.{Object}
use Rattle.wg_typing.specs.declared.scope.Object.TheVariants as object
use Rattle.wg_facts.proofs.Basics.{If, if_then, if_was}
use Rattle.wg_limits.specs.Branches.{body_branches}
use Rattle.wg_limits.specs.Measure.{Measure, all_joined, stmt_gives, of_body}
use Rattle.wg_limits.specs.Vectors.{result_written, parameter_written, parameters_written, body_written}
use Rattle.wg_limits.proofs.Parts.{AllWords, Bound, Fine, FineObject, Callable, AllFormals, NameBelow}
use Rattle.wg_limits.proofs.Objects.{AllFields, AllStructs}
use Rattle.wg_limits.proofs.Exprs.{CalledKnown, KnownAt, AllKnown, AllNames, names_push, FineGiven, AllVariables, more_variables, Stands}
use Rattle.wg_limits.proofs.Steps.{named_fine, once_stands}
use Rattle.wg_limits.proofs.Stmts.{BodyBelow, block_below, all_walks}
use Rattle.wg_limits.proofs.Marks.{Unmarked, body_same}

-- ---- one function

-- what a statement gives does not look at marks
gives_unmarked : {A : Type 0} (m : Measure A) → Unmarked (stmt_gives m)
gives_unmarked m = record { same = λ attributes marked test first other. refl }

module _ (k : Bound) where
  -- ---- parameters

  abbrev pub FineParameter : TypedParameterType → Type 0
  FineParameter (typed_parameter.Value of) = Fine k of
  FineParameter (typed_parameter.Object place word number) = Unit {0}

  -- a parameter's type, and what it means
  pub record KnownFine (known : TypedParameterType × Meant) : Type 0 where
    pub type : FineParameter known.0
    pub name : NameBelow k known.1

  pub parameter_fine : (c : Context) (b : Before) (of : ParameterType) → k.Wrote (parameter_written of) → If KnownFine (parameter_of c b of)
  parameter_fine c b (parameter_type.Value of) o = if_then (Fine k) KnownFine (named_type c.names of) _ (named_fine k c.names of o) (λ t f. record { type = f; name = f })
  parameter_fine c b (parameter_type.Object of) o = if_was KnownFine (where_true (takes_role c.around b.has_input (role_of of.word)) of) _ (λ x e. by_records x (holds c x))
    where
      object_name : (x : ObjectType) (record_type : Option ℕ) → If (λ (y : Object). FineObject k y) (input_or_output c.structs (role_of x.word) b.outputs record_type)
      object_name x record_type = by_role (role_of x.word)
        where
          by_role : (r : Role) → If (λ (y : Object). FineObject k y) (input_or_output c.structs r b.outputs record_type)
          by_role (an_input many s shared) = tt
          by_role (an_output array) = tt
          by_role no_role = tt

      by_records : (x : ObjectType) (held : HeldRecords) → If KnownFine (object_parameter c b x held)
      by_records x empty = if_then (λ (y : Object). FineObject k y) KnownFine (input_or_output c.structs (role_of x.word) b.outputs None) _ (object_name x None) (λ y f. record { type = tt; name = f })
      by_records x (records number) = if_then (λ (y : Object). FineObject k y) KnownFine (input_or_output c.structs (role_of x.word) b.outputs (Some number)) _ (object_name x (Some number)) (λ y f. record { type = tt; name = f })
      by_records x unsure_records = tt

  known_name : (x : Option (TypedParameterType × Meant)) → If KnownFine x → NameBelow k (meant_if x)
  known_name None h = tt
  known_name (Some known) h = h.name

  known_variable : (around : Around) (p : Parameter) (x : Option (TypedParameterType × Meant)) → If KnownFine x → AllVariables k (parameter_variable around p x)
  known_variable around p None h = tt
  known_variable around p (Some (typed_parameter.Value of, n)) h = (h.type, tt)
  known_variable around p (Some (typed_parameter.Object place word number, n)) h = tt

  pub parameter_stands : (p : Parameter) (b : Before) (c : Context) → k.Wrote (parameter_written p.of) → Stands k c → Stands k (with_parameter b p c)
  parameter_stands p b c o h = once_stands k p.name c _ h (record {
    names = names_push k c.names _ h.names (known_name (parameter_of c b p.of) (parameter_fine c b p.of o));
    structs = h.structs;
    variables = more_variables k c.variables _ h.variables (known_variable c.around p (parameter_of c b p.of) (parameter_fine c b p.of o));
    gives = h.gives;
  })

  parameters_stand : (ps : List Parameter) (b : Before) (c : Context) → k.Wrote (parameters_written ps) → Stands k c → Stands k (parameters_after b ps c)
  parameters_stand [] b c o h = h
  parameters_stand (p ∷ ps) b c o h = parameters_stand ps (one_more p.of b) (with_parameter b p c) (k.second (parameter_written p.of) _ o) (parameter_stands p b c (k.first (parameter_written p.of) _ o) h)

  given_fine : (x : Text) (result : ResultType) → k.Wrote (result_written result) → FineGiven k (gives (outside x) result)
  given_fine x (result_type.Void place) o = tt
  given_fine x (result_type.Value of) o = by_type (named_type x.names of) (named_fine k x.names of o)
    where
      by_type : (t : Option TypeTree) → If (Fine k) t → FineGiven k (gives_if t)
      by_type None h = tt
      by_type (Some t) h = h

  -- the context of parameters, where the names and structs before the function are below
  pub inside_stands : (x : Text) (attributes : List Attribute) (result : ResultType) (name : Named) (parameters : List Parameter) → AllNames k x.names → AllStructs k 0 x.structs → k.Wrote (result_written result)
      → Stands k (parameter_context x attributes result name parameters)
  inside_stands x attributes result name parameters h i o =
      let n = once_stands k name (head_context x parameters) (declare name meant.Itself (head_context x parameters)) (record { names = h; structs = i; variables = tt; gives = tt })
      (record { names = names_push k x.names _ h tt; structs = i; variables = tt; gives = tt }) in
      record { names = n.names; structs = n.structs; variables = n.variables; gives = given_fine x result o }

  -- that of its body
  pub body_stands : (x : Text) (attributes : List Attribute) (result : ResultType) (name : Named) (parameters : List Parameter) → AllNames k x.names → AllStructs k 0 x.structs → k.Wrote (result_written result) → k.Wrote (parameters_written parameters)
      → Stands k (body_context (parameter_context x attributes result name parameters) parameters)
  body_stands x attributes result name parameters h i o q =
      let s = parameters_stand parameters first_before (parameter_context x attributes result name parameters) q (inside_stands x attributes result name parameters h i o) in
      record { names = s.names; structs = s.structs; variables = s.variables; gives = s.gives }

  -- ---- where all sizes may be, and all chains are known

  pub fine_any : ((n : ℕ) → k.Sized n) → (t : TypeTree) → Fine k t
  fine_any s (type.Scalar of) = tt
  fine_any s (type.Vector of n) = s n
  fine_any s (type.Struct number) = tt
  fine_any s (type.Array (element.Scalar of) n) = tt
  fine_any s (type.Array (element.Vector of m) n) = s m
  fine_any s (type.Array (element.Struct number) n) = tt

  pub maybe_any : ((n : ℕ) → k.Sized n) → (t : Option TypeTree) → If (Fine k) t
  maybe_any s None = tt
  maybe_any s (Some t) = fine_any s t

  pub formals_any : ((n : ℕ) → k.Sized n) → (ps : List FormalParameter) → AllFormals k ps
  formals_any s [] = tt
  formals_any s (p ∷ ps) = (fine_any s p.of, formals_any s ps)

  pub object_any : ((n : ℕ) → k.Sized n) → (o : Object) → FineObject k o
  object_any s (object.Buffer number (buffer.Raw writable)) = tt
  object_any s (object.Buffer number (buffer.Structured writable of)) = fine_any s of
  object_any s (object.Input many record_type standing sharing) = tt
  object_any s (object.Output output array record_type) = tt
  object_any s (object.Handle handle record_type) = tt

  pub structs_any : ((n : ℕ) → k.Sized n) → (structs : List TypedStruct) → AllStructs k 0 structs
  structs_any s [] = tt
  structs_any s (x ∷ rest) = (fields_any x.fields, structs_any s rest)
    where
      fields_any : (fields : List TypedField) → AllFields k 0 fields
      fields_any [] = tt
      fields_any (f ∷ fs) = (fine_any s f.of, fields_any fs)

  pub words_any : ((n : ℕ) → k.Word n) → (words : List ℕ) → AllWords k.Word words
  words_any w [] = tt
  words_any w (x ∷ rest) = (w x, words_any w rest)

  pub names_any : ((n : ℕ) → k.Sized n) → ((n : ℕ) → k.Word n) → ((number chain : ℕ) → Callable k number chain) → (names : List Declared) → AllNames k names
  names_any s w f [] = tt
  names_any s w f (d ∷ rest) = (by_meant d.meant, names_any s w f rest)
    where
      by_meant : (n : Meant) → NameBelow k n
      by_meant (meant.Struct number) = tt
      by_meant (meant.Constant of words known) = (fine_any s of, words_any w words)
      by_meant (meant.Shared variable of) = fine_any s of
      by_meant (meant.Variable variable of constant) = fine_any s of
      by_meant (meant.Object o) = object_any s o
      by_meant (meant.Function number true result parameters chain) = tt
      by_meant (meant.Function number false result parameters chain) = record { callable = f number chain; result = maybe_any s result; parameters = formals_any s parameters }
      by_meant meant.Itself = tt
      by_meant meant.Broken = tt

  called_any : ((n : ℕ) → k.Known n) → (called : CalledName) → CalledKnown k called
  called_any f (called_name.Plain number result parameters chain) = f chain
  called_any f called_name.Entry = tt
  called_any f called_name.Itself = tt
  called_any f (called_name.Builtin b) = tt
  called_any f called_name.Broken = tt
  called_any f called_name.Unknown = tt

  site_any : ((n : ℕ) → k.Known n) → (s : Site) → KnownAt k s
  site_any f (AtCall around name called parts) = called_any f called
  site_any f _ = tt

  pub known_any : ((n : ℕ) → k.Known n) → (a : Sites Site) → AllKnown k a
  known_any f nowhere = tt
  known_any f (only s) = site_any f s
  known_any f (within r a) = known_any f a
  known_any f (a & b) = (known_any f a, known_any f b)

  -- ---- bodies

  pub function_below : (outer c : Context) (attributes : List Attribute) (name : Named) (parameters : List Parameter) (body : List Stmt) (b : ℕ) → Stands k (body_context c parameters) → body_branches body ≤ b → k.Wrote (body_written body)
      → AllKnown k (body_sites (body_context c parameters) body) → If (λ (f : TypedFunction). k.Below (of_body k.measure f.body) b) (function_tree outer c attributes name parameters body)
  function_below outer c attributes name parameters body b s h o w = if_was (λ (f : TypedFunction). k.Below (of_body k.measure f.body) b) (function_head c parameters) _ (λ head e.
      if_then (BodyBelow k b) (λ (f : TypedFunction). k.Below (of_body k.measure f.body) b) (block_trees (map walked body) (body_context c parameters)) _ (block_below k _ _ (map walked body) (body_context c parameters) b (all_walks k body) s h o w) (λ ss i.
      if_was (λ (f : TypedFunction). k.Below (of_body k.measure f.body) b) (all_of (block_after (map walked body) (body_context c parameters)).handles) _ (λ hs g.
      subst (λ xs. k.Below (all_joined k.measure xs) b) (sym (body_same (stmt_gives k.measure) (gives_unmarked k.measure) (function_setting c parameters body) c.around ss)) i)))

-- ---- the functions of a text

abbrev pub AllFunctions : (TypedFunction → Type 0) → List (Option TypedFunction) → Type 0
AllFunctions p [] = Unit {0}
AllFunctions p (o ∷ rest) = If p o × AllFunctions p rest

abbrev pub FunctionHolds : (TypedFunction → Type 0) → Item → Type 0
FunctionHolds p (item.Struct place attributes name fields) = Unit {0}
FunctionHolds p (item.Buffer coherent of name registers) = Unit {0}
FunctionHolds p (item.Shared place of name size) = Unit {0}
FunctionHolds p (item.Constant place of name e) = Unit {0}
FunctionHolds p (item.Function attributes result name parameters place body) = (x : Text) → If p (function_tree (head_context x parameters) (parameter_context x attributes result name parameters) attributes name parameters body)

abbrev pub AllHold : (TypedFunction → Type 0) → List Item → Type 0
AllHold p [] = Unit {0}
AllHold p (i ∷ rest) = FunctionHolds p i × AllHold p rest

functions_push : (p : TypedFunction → Type 0) (xs : List (Option TypedFunction)) (o : Option TypedFunction) → AllFunctions p xs → If p o → AllFunctions p (xs ++ o ∷ [])
functions_push p [] o h i = (i, tt)
functions_push p (x ∷ xs) o h i = (h.0, functions_push p xs o h.1 i)

declared_holds : (p : TypedFunction → Type 0) (x : Text) (i : Item) → FunctionHolds p i → AllFunctions p x.functions → AllFunctions p (item_declared x i).functions
declared_holds p x (item.Struct place attributes name fields) h g = by_struct (struct_tree (outside x) attributes name fields)
  where
    by_struct : (o : Option TypedStruct) → AllFunctions p (with_struct name o x).functions
    by_struct None = g
    by_struct (Some s) = g
declared_holds p x (item.Buffer coherent of name registers) h g = g
declared_holds p x (item.Shared place of name size) h g = g
declared_holds p x (item.Constant place of name e) h g = g
declared_holds p x (item.Function attributes result name parameters place body) h g = functions_push p x.functions _ g (h x)

item_holds : (p : TypedFunction → Type 0) (x : Text) (i : Item) → FunctionHolds p i → AllFunctions p x.functions → AllFunctions p (item_after x i).functions
item_holds p x i h g = by_test (is_among (text_names x) (item_name i).name)
  where
    by_test : (b : Bool) → AllFunctions p (cond b x (item_declared x i)).functions
    by_test true = g
    by_test false = declared_holds p x i h g

-- what holds of the function of each declaration
pub items_hold : (p : TypedFunction → Type 0) (items : List Item) (x : Text) → AllHold p items → AllFunctions p x.functions → AllFunctions p (items_after x items).functions
items_hold p [] x h g = g
items_hold p (i ∷ rest) x h g = items_hold p rest (item_after x i) h.1 (item_holds p x i h.0 g)
