-- Vectors of a typed text have 2 to 4 components, where those that are written have.
use Rattle.std.proofs.Common.{◌≡◌, ◌<◌, ℕ, zero, suc, Bool, true, false, cond, List, [], ◌∷◌, ◌++◌, map, length, Option, Some, None, refl, sym, ap, ◌∙◌, subst, arith}
use Rattle.std.specs.Prelude.{◌^◌, ◌/◌, ◌%◌, nat_lt, not, replicate, ℤ, pos, negsuc, nat_le}
use Rattle.std.specs.Option.{unwrap_or}
use Rattle.wg_words.specs.Truth.{is_true, truth}
use Rattle.wg_words.specs.Words.{wrapped, signed}
use Rattle.wg_typed.specs.Operators.{is_wide, converted_number, whole_of, words_for}
use Rattle.wg_tree.specs.declared.expr.Scalar.{Scalar}
use Rattle.wg_tree.specs.declared.expr.Scalar.TheVariants as scalar
use Rattle.wg_tree.specs.declared.expr.TypeName.TheVariants as type_name
use Rattle.wg_tree.specs.declared.expr.ValueType.TheVariants as value_type
use Rattle.wg_facts.specs.Tests.{if_any, every}
use Rattle.wg_typed.specs.Constants.{const_scalar, const_number, number_as, const_value}
use Rattle.wg_typed.specs.Layout.{types_of, field_types}
use Rattle.wg_typed.specs.Uniform.{UniformSetting}
use Rattle.wg_typing.specs.Layers.{fit}
use Rattle.wg_typing.specs.Maybe.{all_of}
use Rattle.wg_typing.specs.Named.{is_among}
use Rattle.wg_typing.specs.Scope.{look, struct_if, Context, as_const, known_names, named_type}
use Rattle.wg_typing.specs.Typing.{typed}
use Rattle.wg_typing.specs.TypingBuffer.{buffer_of, buffer_meant, buffer_tree}
use Rattle.wg_typing.specs.TypingConstant.{constant_of, constant_type, constant_meant}
use Rattle.wg_typing.specs.TypingDeclared.{type_limit, declared_type}
use Rattle.wg_typing.specs.TypingEvents.{events, chain_of}
use Rattle.wg_typing.specs.TypingExpr.{part}
use Rattle.wg_typing.specs.TypingFunction.{first_before, result_if, passed_if, passed_of, passed_in, is_entry_around, body_context, body_sites, head_context, parameter_context, function_head, function_if, function_meant, function_tree}
use Rattle.wg_typing.specs.TypingMarks.{marked_variable, with_variable, with_variables}
use Rattle.wg_typing.specs.TypingParameter.{Before, one_more, parameter_of, with_parameter, parameter_tree, parameters_trees}
use Rattle.wg_typing.specs.TypingShared.{shared_type, shared_meant, shared_tree}
use Rattle.wg_typing.specs.TypingSoFar.{Text, outside, text_names, with_name}
use Rattle.wg_typing.specs.TypingStmt.{block_after, block_trees, walked}
use Rattle.wg_typing.specs.TypingStruct.{field_tree, struct_of_fields, struct_size, struct_tree, with_struct}
use Rattle.wg_typing.specs.TypingText.{no_text, item_declared, item_name, item_after, items_after}
use Rattle.wg_tree.specs.declared.expr.Expr.{Expr}
use Rattle.wg_tree.specs.declared.expr.Named.{Named}
use Rattle.wg_tree.specs.declared.expr.TypeName.{TypeName}
use Rattle.wg_tree.specs.declared.item.BufferType.{BufferType}
use Rattle.wg_tree.specs.declared.item.BufferType.TheVariants as written_buffer
use Rattle.wg_tree.specs.declared.item.Directed.{Directed}
use Rattle.wg_tree.specs.declared.item.Field.{Field}
use Rattle.wg_tree.specs.declared.item.Item.{Item}
use Rattle.wg_tree.specs.declared.item.Item.TheVariants as item
use Rattle.wg_tree.specs.declared.item.Parameter.{Parameter}
use Rattle.wg_tree.specs.declared.item.ResultType.{ResultType}
use Rattle.wg_tree.specs.declared.item.Source.{Source}
use Rattle.wg_tree.specs.declared.stmt.Attribute.{Attribute}
use Rattle.wg_tree.specs.declared.stmt.Stmt.{Stmt}
use Rattle.wg_typed.specs.declared.types.ConstValue.{ConstValue}
use Rattle.wg_typed.specs.declared.types.ElementType.TheVariants as element
use Rattle.wg_typed.specs.declared.types.TypeTree.{TypeTree}
use Rattle.wg_typed.specs.declared.types.TypeTree.TheVariants as type
use Rattle.wg_typed.specs.declared.typed.Typed.{Typed}
use Rattle.wg_typed.specs.declared.typed.TypedBuffer.{TypedBuffer}
use Rattle.wg_typed.specs.declared.typed.TypedBufferType.{TypedBufferType}
use Rattle.wg_typed.specs.declared.typed.TypedBufferType.TheVariants as buffer
use Rattle.wg_typed.specs.declared.typed.TypedField.{TypedField}
use Rattle.wg_typed.specs.declared.typed.TypedFunction.{TypedFunction}
use Rattle.wg_typed.specs.declared.typed.TypedParameter.{TypedParameter}
use Rattle.wg_typed.specs.declared.typed.TypedParameterType.{TypedParameterType}
use Rattle.wg_typed.specs.declared.typed.TypedParameterType.TheVariants as typed_parameter
use Rattle.wg_typed.specs.declared.typed.TypedShared.{TypedShared}
use Rattle.wg_typed.specs.declared.typed.TypedStruct.{TypedStruct}
use Rattle.wg_typed.specs.declared.typed.TypedVariable.{TypedVariable}
use Rattle.wg_typing.specs.declared.context.Around.{Around}
use Rattle.wg_typing.specs.declared.context.Around.TheVariants as surrounding
use Rattle.wg_typing.specs.declared.context.GivesBack.{GivesBack}
use Rattle.wg_typing.specs.declared.context.GivesBack.TheVariants as gives_back
use Rattle.wg_typing.specs.declared.context.VariableForm.{VariableForm}
use Rattle.wg_typing.specs.declared.event.Event.{Event}
use Rattle.wg_typing.specs.declared.scope.FormalParameter.{FormalParameter}
use Rattle.wg_typing.specs.declared.scope.Meant.{Meant}
use Rattle.wg_typing.specs.declared.scope.Meant.TheVariants as meant
use Rattle.wg_typing.specs.declared.so_far.FunctionHead.{FunctionHead}
use Rattle.wg_facts.proofs.Basics.{less_so, so_less, If, and_left, and_right, both, some_value, if_then, if_was, if_where, then_some, all_first, every_more}
use Rattle.wg_facts.proofs.Lists.{every_all}
use Rattle.wg_limits.specs.Branches.{body_branches}
use Rattle.wg_limits.specs.Measure.{of_body}
use Rattle.wg_limits.specs.Vectors.{is_size, is_small, small_measure, buffer_small, parameter_small, IsSmallFunction, AllSmallFunctions, IsSmallText, type_written, buffer_written, result_written, parameter_written, parameters_written, body_written, item_written, source_written}
use Rattle.wg_limits.proofs.Operators.{low_word}
use Rattle.wg_limits.proofs.Parts.{AllWords, FineType, Bound, AllFormals, NameBelow}
use Rattle.wg_limits.proofs.Objects.{AllFields, AllStructs}
use Rattle.wg_limits.proofs.Exprs.{AllNames, names_push, FineGiven, AllVariables, Stands}
use Rattle.wg_limits.proofs.Steps.{named_fine, declared_fine}
use Rattle.wg_limits.proofs.Stmts.{block_stands, all_walks}
use Rattle.wg_limits.proofs.Functions.{FineParameter, KnownFine, parameter_fine, parameter_stands, inside_stands, body_stands, known_any, function_below, AllFunctions}

-- ---- types

abbrev Small : TypeTree → Type 0
Small t = FineType (λ n. is_size n ≡ true) t

small_of : (t : TypeTree) → Small t → is_small t ≡ true
small_of (type.Scalar of) h = refl
small_of (type.Vector of n) h = h
small_of (type.Struct number) h = refl
small_of (type.Array (element.Scalar of) n) h = refl
small_of (type.Array (element.Vector of m) n) h = h
small_of (type.Array (element.Struct number) n) h = refl

words_small : (words : List ℕ) → AllWords (λ n. nat_lt n (2 ^ 32) ≡ true) words → every (λ w. nat_lt w (2 ^ 32)) words ≡ true
words_small [] h = refl
words_small (w ∷ rest) h = both h.0 (words_small rest h.1)

high_word : (n : ℕ) → n < 2 ^ 64 → nat_lt (n / 2 ^ 32) (2 ^ 32) ≡ true
high_word n l = less_so (n / 2 ^ 32) (2 ^ 32) (omega (arith, l))

abbrev small_bound : Bound
small_bound = record {
  carrier = Bool;
  measure = small_measure;
  Below = λ v b. v ≡ true;
  none = λ b. refl;
  join = λ x y b h i. both h i;
  branch = λ x b h. h;
  Sized = λ n. is_size n ≡ true;
  two = refl;
  three = refl;
  four = refl;
  of = λ t b f. small_of t f;
  Wrote = λ v. v ≡ true;
  first = and_left;
  second = and_right;
  written = λ n o. o;
  Word = λ n. nat_lt n (2 ^ 32) ≡ true;
  word = λ n e. e;
  high = λ n o. high_word n (so_less n (2 ^ 64) o);
  literal = λ words b h. words_small words h;
  Known = λ chain. Unit {0};
}

-- ---- parameters and results

abbrev AllParameters : List TypedParameter → Type 0
AllParameters [] = Unit {0}
AllParameters (p ∷ rest) = FineParameter small_bound p.of × AllParameters rest

trees_fine : (ps : List Parameter) (b : Before) (c : Context) → parameters_written ps ≡ true → Stands small_bound c → If AllParameters (parameters_trees b ps c)
trees_fine [] b c o s = tt
trees_fine (p ∷ ps) b c o s = if_then (λ (x : TypedParameter). FineParameter small_bound x.of) AllParameters (parameter_tree c b p) _
    (if_then (KnownFine small_bound) (λ (x : TypedParameter). FineParameter small_bound x.of) (parameter_of c b p.of) _ (parameter_fine small_bound c b p.of (and_left (parameter_written p.of) _ o)) (λ known h. h.type)) (λ x h.
    if_then AllParameters AllParameters (parameters_trees (one_more p.of b) ps (with_parameter b p c)) _ (trees_fine ps (one_more p.of b) (with_parameter b p c) (and_right (parameter_written p.of) _ o) (parameter_stands small_bound p b c (and_left (parameter_written p.of) _ o) s)) (λ xs i. (h, i)))

result_fine : (g : GivesBack) → FineGiven small_bound g → If (If Small) (result_if g)
result_fine gives_back.Nothing h = tt
result_fine (gives_back.Value of) h = h
result_fine gives_back.Unsure h = tt

record HeadFine (head : FunctionHead) : Type 0 where
  result : If Small head.result
  parameters : AllParameters head.parameters

head_fine : (ps : List Parameter) (c : Context) → parameters_written ps ≡ true → Stands small_bound c → If HeadFine (function_head c ps)
head_fine ps c o s = if_then (If Small) HeadFine (result_if c.returns) _ (result_fine c.returns s.gives) (λ r h.
    if_then AllParameters HeadFine (parameters_trees first_before ps c) _ (trees_fine ps first_before c o s) (λ xs i. record { result = h; parameters = i }))

passed_fine : (ps : List TypedParameter) → AllParameters ps → If (AllFormals small_bound) (passed_of ps)
passed_fine [] h = tt
passed_fine (p ∷ ps) h = if_then (λ (a : FormalParameter). Small a.of) (AllFormals small_bound) (passed_if p.direction p.of) _ (by_type p.direction p.of h.0) (λ a i.
    if_then (AllFormals small_bound) (AllFormals small_bound) (passed_of ps) _ (passed_fine ps h.1) (λ formals j. (i, j)))
  where
    by_type : (d : Option Directed) (of : TypedParameterType) → FineParameter small_bound of → If (λ (a : FormalParameter). Small a.of) (passed_if d of)
    by_type d (typed_parameter.Value of) h = h
    by_type d (typed_parameter.Object place word number) h = tt

passed_in_fine : (around : Around) (ps : List TypedParameter) → AllParameters ps → If (AllFormals small_bound) (passed_in around ps)
passed_in_fine (surrounding.Entry lanes) ps h = tt
passed_in_fine surrounding.Plain ps h = passed_fine ps h
passed_in_fine surrounding.Const ps h = tt
passed_in_fine (surrounding.Attribute allowed) ps h = tt

parameters_small : (ps : List TypedParameter) → AllParameters ps → every (λ (p : TypedParameter). parameter_small p.of) ps ≡ true
parameters_small [] h = refl
parameters_small (p ∷ ps) h = both (by_type p.of h.0) (parameters_small ps h.1)
  where
    by_type : (of : TypedParameterType) → FineParameter small_bound of → parameter_small of ≡ true
    by_type (typed_parameter.Value of) h = small_of of h
    by_type (typed_parameter.Object place word number) h = refl

maybe_small : (t : Option TypeTree) → If Small t → if_any is_small t ≡ true
maybe_small None h = refl
maybe_small (Some t) h = small_of t h

-- ---- variables

abbrev VariablesSmall : List TypedVariable → Type 0
VariablesSmall vs = every (λ (v : TypedVariable). is_small v.of) vs ≡ true

variables_small : (vs : List VariableForm) (u : UniformSetting) (es : List Event) → VariablesSmall u.variables → AllVariables small_bound vs → VariablesSmall (with_variables u es vs).variables
variables_small [] u es h i = h
variables_small (v ∷ vs) u es h i = variables_small vs (with_variable u es v) es (every_more (λ (v : TypedVariable). is_small v.of) u.variables (marked_variable u es v ∷ []) h (both (small_of v.of i.0) refl)) i.1

-- ---- functions

record TextSmall (x : Text) : Type 0 where
  names : AllNames small_bound x.names
  structs : AllStructs small_bound 0 x.structs
  buffers : every (if_any (λ (b : TypedBuffer). buffer_small b.of)) x.buffers ≡ true
  shared : every (if_any (λ (s : TypedShared). is_small s.of)) x.shared ≡ true
  functions : AllFunctions IsSmallFunction x.functions

module _ (x : Text) (attributes : List Attribute) (result : ResultType) (name : Named) (parameters : List Parameter) (body : List Stmt) (s : TextSmall x)
    (r : result_written result ≡ true) (p : parameters_written parameters ≡ true) (w : body_written body ≡ true) where
  abbrev inside : Context
  inside = parameter_context x attributes result name parameters

  abbrev before : Context
  before = body_context inside parameters

  inside_is : Stands small_bound inside
  inside_is = inside_stands small_bound x attributes result name parameters s.names s.structs r

  before_is : Stands small_bound before
  before_is = body_stands small_bound x attributes result name parameters s.names s.structs r p

  after_is : Stands small_bound (block_after (map walked body) before)
  after_is = block_stands small_bound _ _ (map walked body) before (all_walks small_bound body) w before_is

  body_small : If (λ (f : TypedFunction). of_body small_measure f.body ≡ true) (function_tree (head_context x parameters) inside attributes name parameters body)
  body_small = function_below small_bound (head_context x parameters) inside attributes name parameters body (body_branches body) before_is (omega arith) w (known_any small_bound (λ n. tt) (body_sites before body))

  abbrev SmallButBody : TypedFunction → Type 0
  SmallButBody f = of_body small_measure f.body ≡ true → IsSmallFunction f

  head_small : If SmallButBody (function_tree (head_context x parameters) inside attributes name parameters body)
  head_small = if_then HeadFine SmallButBody (function_head inside parameters) _ (head_fine parameters inside p inside_is) (λ head h.
      if_was SmallButBody (block_trees (map walked body) before) _ (λ ss e. if_was SmallButBody (all_of (block_after (map walked body) before).handles) _ (λ hs f b. record {
        result = maybe_small head.result h.result;
        parameters = parameters_small head.parameters h.parameters;
        variables = variables_small (block_after (map walked body) before).variables _ (events (body_sites before body)) refl after_is.variables;
        body = b;
      })))

  function_small : If IsSmallFunction (function_tree (head_context x parameters) inside attributes name parameters body)
  function_small = by_tree (function_tree (head_context x parameters) inside attributes name parameters body) head_small body_small
    where
      by_tree : (o : Option TypedFunction) → If SmallButBody o → If (λ (f : TypedFunction). of_body small_measure f.body ≡ true) o → If IsSmallFunction o
      by_tree None h i = tt
      by_tree (Some f) h i = h i

  meant_small : (number chain : ℕ) → If (NameBelow small_bound) (function_if number inside chain parameters)
  meant_small number chain = if_then HeadFine (NameBelow small_bound) (function_head inside parameters) _ (head_fine parameters inside p inside_is) (λ head h.
      if_then (AllFormals small_bound) (NameBelow small_bound) (passed_in inside.around head.parameters) _ (passed_in_fine inside.around head.parameters h.parameters) (λ passed i. by_entry (is_entry_around inside.around) head.result passed h.result i))
    where
      by_entry : (b : Bool) (r : Option TypeTree) (passed : List FormalParameter) → If Small r → AllFormals small_bound passed → NameBelow small_bound (meant.Function number b r passed chain)
      by_entry true r passed h i = tt
      by_entry false r passed h i = record { callable = λ known few b. refl; result = h; parameters = i }

-- ---- all declarations

or_small : (o : Option Meant) → If (NameBelow small_bound) o → NameBelow small_bound (unwrap_or o meant.Broken)
or_small None h = tt
or_small (Some n) h = h

named : (x : Text) (name : Named) (n : Meant) → NameBelow small_bound n → TextSmall x → AllNames small_bound (with_name name n x).names
named x name n h s = names_push small_bound x.names (record { name = name; meant = n }) s.names h

written_small : (x : Text) (of : TypeName) → type_written of ≡ true → If Small (named_type x.names of)
written_small x of o = named_fine small_bound x.names of o

declared_small : (x : Text) (of : TypeName) (size : Option Expr) → type_written of ≡ true → If Small (declared_type (outside x) (named_type x.names of) size)
declared_small x of size o = declared_fine small_bound (outside x) (named_type x.names of) size (written_small x of o)

fields_small : (x : Text) (fields : List Field) → every (λ (f : Field). type_written f.of) fields ≡ true → If (AllFields small_bound 0) (all_of (map (field_tree (outside x)) fields))
fields_small x [] o = tt
fields_small x (f ∷ rest) o = if_then (λ (y : TypedField). Small y.of) (AllFields small_bound 0) (field_tree (outside x) f) _
    (if_then Small (λ (y : TypedField). Small y.of) (declared_type (outside x) (named_type x.names f.of) f.size) _ (declared_small x f.of f.size (and_left (type_written f.of) _ o)) (λ t h. h)) (λ y h.
    if_then (AllFields small_bound 0) (AllFields small_bound 0) (all_of (map (field_tree (outside x)) rest)) _ (fields_small x rest (and_right (type_written f.of) _ o)) (λ ys i. (h, i)))

struct_small : (x : Text) (attributes : List Attribute) (name : Named) (fields : List Field) → every (λ (f : Field). type_written f.of) fields ≡ true → If (λ (y : TypedStruct). AllFields small_bound 0 y.fields) (struct_tree (outside x) attributes name fields)
struct_small x attributes name fields o = if_then (λ (y : TypedStruct). AllFields small_bound 0 y.fields) (λ (y : TypedStruct). AllFields small_bound 0 y.fields) (struct_of_fields (outside x) attributes name fields) _
    (if_then (AllFields small_bound 0) (λ (y : TypedStruct). AllFields small_bound 0 y.fields) (all_of (map (field_tree (outside x)) fields)) _ (fields_small x fields o) (λ ys i. i))
    (λ y i. if_where (λ (y : TypedStruct). AllFields small_bound 0 y.fields) (nat_le (struct_size x.structs y) type_limit) y (λ e. i))

structs_push : (xs : List TypedStruct) (y : TypedStruct) → AllStructs small_bound 0 xs → AllFields small_bound 0 y.fields → AllStructs small_bound 0 (xs ++ y ∷ [])
structs_push [] y h i = (i, tt)
structs_push (x ∷ xs) y h i = (h.0, structs_push xs y h.1 i)

struct_is : (x : Text) (name : Named) (o : Option TypedStruct) → If (λ (y : TypedStruct). AllFields small_bound 0 y.fields) o → TextSmall x → TextSmall (with_struct name o x)
struct_is x name None h s = record { names = named x name meant.Broken tt s; structs = s.structs; buffers = s.buffers; shared = s.shared; functions = s.functions }
struct_is x name (Some y) h s = record { names = named x name (meant.Struct (length x.structs)) tt s; structs = structs_push x.structs y s.structs h; buffers = s.buffers; shared = s.shared; functions = s.functions }

buffer_is : (x : Text) (name : Named) (o : Option TypedBufferType) → If (λ (of : TypedBufferType). NameBelow small_bound (buffer_meant 0 (Some of))) o → TextSmall x
    → TextSmall (record (with_name name (buffer_meant (length x.buffers) o) x) { buffers = x.buffers ++ buffer_tree name o ∷ [] })
buffer_is x name None h s = record { names = named x name meant.Broken tt s; structs = s.structs; buffers = every_more _ x.buffers (None ∷ []) s.buffers refl; shared = s.shared; functions = s.functions }
buffer_is x name (Some (buffer.Raw writable)) h s = record { names = named x name (buffer_meant (length x.buffers) (Some (buffer.Raw writable))) tt s; structs = s.structs; buffers = every_more _ x.buffers (buffer_tree name (Some (buffer.Raw writable)) ∷ []) s.buffers refl; shared = s.shared; functions = s.functions }
buffer_is x name (Some (buffer.Structured writable of)) h s = record {
  names = named x name (buffer_meant (length x.buffers) (Some (buffer.Structured writable of))) h s;
  structs = s.structs;
  buffers = every_more _ x.buffers (buffer_tree name (Some (buffer.Structured writable of)) ∷ []) s.buffers (both (small_of of h) refl);
  shared = s.shared;
  functions = s.functions;
}

buffer_fine : (x : Text) (of : BufferType) → buffer_written of ≡ true → If (λ (of : TypedBufferType). NameBelow small_bound (buffer_meant 0 (Some of))) (buffer_of (outside x) of)
buffer_fine x (written_buffer.Raw place writable) o = tt
buffer_fine x (written_buffer.Structured place writable of) o = if_then Small (λ (of : TypedBufferType). NameBelow small_bound (buffer_meant 0 (Some of))) (named_type x.names of) _ (written_small x of o) (λ t h. h)

shared_is : (x : Text) (name : Named) (o : Option TypeTree) → If Small o → TextSmall x → TextSmall (record (with_name name (shared_meant (length x.shared) o) x) { shared = x.shared ++ shared_tree name o ∷ [] })
shared_is x name None h s = record { names = named x name meant.Broken tt s; structs = s.structs; buffers = s.buffers; shared = every_more _ x.shared (None ∷ []) s.shared refl; functions = s.functions }
shared_is x name (Some of) h s = record { names = named x name (meant.Shared (length x.shared) of) h s; structs = s.structs; buffers = s.buffers; shared = every_more _ x.shared (shared_tree name (Some of) ∷ []) s.shared (both (small_of of h) refl); functions = s.functions }

-- ---- constants

below_64 : (z : ℤ) → wrapped 64 z < 2 ^ 64
below_64 (pos n) = omega arith
below_64 (negsuc n) = omega arith

below_32 : (z : ℤ) → nat_lt (wrapped 32 z) (2 ^ 32) ≡ true
below_32 z = less_so (wrapped 32 z) (2 ^ 32) (below z)
  where
    below : (z : ℤ) → wrapped 32 z < 2 ^ 32
    below (pos n) = omega arith
    below (negsuc n) = omega arith

below_16 : (z : ℤ) → nat_lt (wrapped 16 z) (2 ^ 32) ≡ true
below_16 z = less_so (wrapped 16 z) (2 ^ 32) (below z)
  where
    below : (z : ℤ) → wrapped 16 z < 2 ^ 32
    below (pos n) = omega arith
    below (negsuc n) = omega arith

truth_word : (b : Bool) → nat_lt (truth b) (2 ^ 32) ≡ true
truth_word true = refl
truth_word false = refl

abbrev WordsSmall : List ℕ → Type 0
WordsSmall words = AllWords (λ n. nat_lt n (2 ^ 32) ≡ true) words

constant_words : (from s : Scalar) (n : ℕ) → WordsSmall (words_for s (converted_number from s n ∷ []))
constant_words from scalar.Bool n = (truth_word (is_true n), tt)
constant_words from scalar.Int n = (below_32 (whole_of from n), tt)
constant_words from scalar.Uint n = (below_32 (whole_of from n), tt)
constant_words from scalar.Int16 n = (below_32 (signed 16 (converted_number from scalar.Int16 n)), tt)
constant_words from scalar.Uint16 n = (below_16 (whole_of from n), tt)
constant_words from scalar.Int64 n = (low_word (wrapped 64 (whole_of from n)), (high_word (wrapped 64 (whole_of from n)) (below_64 (whole_of from n)), tt))
constant_words from scalar.Uint64 n = (low_word (wrapped 64 (whole_of from n)), (high_word (wrapped 64 (whole_of from n)) (below_64 (whole_of from n)), tt))

narrow_word : (from s : Scalar) (n : ℕ) → not (is_wide s) ≡ true → nat_lt (converted_number from s n) (2 ^ 32) ≡ true
narrow_word from scalar.Bool n h = truth_word (is_true n)
narrow_word from scalar.Int n h = below_32 (whole_of from n)
narrow_word from scalar.Uint n h = below_32 (whole_of from n)
narrow_word from scalar.Int16 n h = below_16 (whole_of from n)
narrow_word from scalar.Uint16 n h = below_16 (whole_of from n)
narrow_word from scalar.Int64 n h = absurd (cc)
narrow_word from scalar.Uint64 n h = absurd (cc)

repeated_words : (n w : ℕ) → nat_lt w (2 ^ 32) ≡ true → WordsSmall (replicate n w)
repeated_words zero w h = tt
repeated_words (suc n) w h = (h, repeated_words n w h)

constant_named : (x : Text) (of : TypeName) (e : Expr) → type_written of ≡ true → If (NameBelow small_bound) (constant_type (outside x) of e)
constant_named x (type_name.Value place (value_type.Scalar s)) e o = if_was (NameBelow small_bound) (fit (type.Scalar s) (part (as_const (outside x)) e)) _ (λ y b. if_was (NameBelow small_bound) (const_value (known_names x.names) e) _ (λ v d.
    (tt, constant_words (const_scalar v) s (const_number v))))
constant_named x (type_name.Value place (value_type.Vector s n)) e o = if_was (NameBelow small_bound) (fit (type.Vector s n) (part (as_const (outside x)) e)) _ (λ y b. if_was (NameBelow small_bound) (const_value (known_names x.names) e) _ (λ v d.
    (and_left (is_size n) _ o, repeated_words n (number_as s v) (narrow_word (const_scalar v) s (const_number v) (and_right (is_size n) _ o)))))
constant_named x (type_name.Struct name) e o = if_was (NameBelow small_bound) (struct_if (look name.name x.names)) _ (λ goal q.
    if_was (NameBelow small_bound) (fit goal (part (as_const (outside x)) e)) _ (λ y b. if_was (NameBelow small_bound) (const_value (known_names x.names) e) _ (λ v d. by_name (look name.name x.names) goal q v)))
  where
    by_name : (o : Option Meant) (goal : TypeTree) → struct_if o ≡ Some goal → (c : ConstValue) → If (NameBelow small_bound) (constant_of goal c)
    by_name (Some (meant.Struct number)) goal q c = subst (λ t. If (NameBelow small_bound) (constant_of t c)) (some_value q) tt
    by_name (Some (meant.Constant of words known)) goal q c = absurd (cc)
    by_name (Some (meant.Shared variable of)) goal q c = absurd (cc)
    by_name (Some (meant.Variable variable of constant)) goal q c = absurd (cc)
    by_name (Some (meant.Object o)) goal q c = absurd (cc)
    by_name (Some (meant.Function number is_entry result parameters chain)) goal q c = absurd (cc)
    by_name (Some meant.Itself) goal q c = absurd (cc)
    by_name (Some meant.Broken) goal q c = absurd (cc)
    by_name None goal q c = absurd (cc)

constant_small : (x : Text) (of : TypeName) (e : Expr) → type_written of ≡ true → NameBelow small_bound (constant_meant (outside x) of e)
constant_small x of e o = or_small (constant_type (outside x) of e) (constant_named x of e o)

functions_push : (xs : List (Option TypedFunction)) (o : Option TypedFunction) → AllFunctions IsSmallFunction xs → If IsSmallFunction o → AllFunctions IsSmallFunction (xs ++ o ∷ [])
functions_push [] o h i = (i, tt)
functions_push (x ∷ xs) o h i = (h.0, functions_push xs o h.1 i)

declared_is : (x : Text) (i : Item) → item_written i ≡ true → TextSmall x → TextSmall (item_declared x i)
declared_is x (item.Struct place attributes name fields) o s = struct_is x name (struct_tree (outside x) attributes name fields) (struct_small x attributes name fields o) s
declared_is x (item.Buffer coherent of name registers) o s = buffer_is x name (buffer_of (outside x) of) (buffer_fine x of o) s
declared_is x (item.Shared place of name size) o s = shared_is x name (shared_type x of size) (declared_small x of size o) s
declared_is x (item.Constant place of name e) o s = record { names = named x name (constant_meant (outside x) of e) (constant_small x of e o) s; structs = s.structs; buffers = s.buffers; shared = s.shared; functions = s.functions }
declared_is x (item.Function attributes result name parameters place body) o s =
    let r = and_left (result_written result) _ o in
    let q = and_right (result_written result) _ o in
    let p = and_left (parameters_written parameters) _ q in
    let w = and_right (parameters_written parameters) _ q in
    let c = parameter_context x attributes result name parameters in
    record {
      names = named x name (function_meant (length x.functions) c parameters body) (or_small _ (meant_small x attributes result name parameters body s r p w (length x.functions) (chain_of (events (body_sites (body_context c parameters) body))))) s;
      structs = s.structs;
      buffers = s.buffers;
      shared = s.shared;
      functions = functions_push x.functions _ s.functions (function_small x attributes result name parameters body s r p w);
    }

item_is : (x : Text) (i : Item) → item_written i ≡ true → TextSmall x → TextSmall (item_after x i)
item_is x i o s = by_test (is_among (text_names x) (item_name i).name)
  where
    by_test : (b : Bool) → TextSmall (cond b x (item_declared x i))
    by_test true = s
    by_test false = declared_is x i o s

items_are : (items : List Item) (x : Text) → every item_written items ≡ true → TextSmall x → TextSmall (items_after x items)
items_are [] x o s = s
items_are (i ∷ rest) x o s = items_are rest (item_after x i) (and_right (item_written i) _ o) (item_is x i (and_left (item_written i) _ o) s)

-- ---- the text

structs_small : (xs : List TypedStruct) → AllStructs small_bound 0 xs → every (λ (s : TypedStruct). every is_small (field_types s)) xs ≡ true
structs_small [] h = refl
structs_small (x ∷ xs) h = both (all_fields x.fields h.0) (structs_small xs h.1)
  where
    all_fields : (fields : List TypedField) → AllFields small_bound 0 fields → every is_small (types_of fields) ≡ true
    all_fields [] h = refl
    all_fields (f ∷ fs) h = both (small_of f.of h.0) (all_fields fs h.1)

all_small : (os : List (Option TypedFunction)) (fs : List TypedFunction) → all_of os ≡ Some fs → AllFunctions IsSmallFunction os → AllSmallFunctions fs
all_small [] fs e h = subst AllSmallFunctions (some_value e) tt
all_small (o ∷ os) fs e h =
    let f = all_first o os fs e in
    subst AllSmallFunctions (sym f.2.2) (subst (If IsSmallFunction) f.1 h.0, all_small os f.2.0 f.2.1 h.1)

pub vectors_small : (tree : Source) (t : Typed) → source_written tree ≡ true → typed tree ≡ Some t → IsSmallText t
vectors_small tree t o e =
    let x = items_after no_text tree.items in
    let a = then_some (all_of x.buffers) _ t e in
    let b = then_some (all_of x.shared) _ t a.2 in
    let c = then_some (all_of x.functions) _ t b.2 in
    let q = some_value c.2 in
    let buffers : all_of x.buffers ≡ Some t.buffers = a.1 ∙ ap (λ (y : Typed). Some y.buffers) q in
    let shared : all_of x.shared ≡ Some t.shared = b.1 ∙ ap (λ (y : Typed). Some y.shared) q in
    let functions : all_of x.functions ≡ Some t.functions = c.1 ∙ ap (λ (y : Typed). Some y.functions) q in
    let structs : x.structs ≡ t.structs = ap (λ (y : Typed). y.structs) q in
    let s = items_are tree.items no_text o (record { names = tt; structs = tt; buffers = refl; shared = refl; functions = tt }) in
    record {
      structs = subst (λ (xs : List TypedStruct). every (λ (s : TypedStruct). every is_small (field_types s)) xs ≡ true) structs (structs_small x.structs s.structs);
      buffers = every_all (λ (b : TypedBuffer). buffer_small b.of) x.buffers t.buffers buffers s.buffers;
      shared = every_all (λ (y : TypedShared). is_small y.of) x.shared t.shared shared s.shared;
      functions = all_small x.functions t.functions functions s.functions;
    }
