-- The typed form of a text is sound.
use Rattle.std.proofs.Common.{◌≡◌, ◌<◌, ◌≤◌, ◌+◌, ℕ, suc, Bool, true, false, cond, List, [], ◌∷◌, ◌++◌, map, length, Option, Some, None, refl, sym, ap, ◌∙◌, subst, arith}
use Rattle.std.specs.Prelude.{nat_lt, nat_le, slice_get, is_some}
use Rattle.std.specs.Option.{unwrap_or}
use Rattle.wg_typing.specs.AttributeArguments.{is_entry, lanes_of}
use Rattle.wg_typing.specs.Conversions.{same_type}
use Rattle.wg_typing.specs.Layers.{fit}
use Rattle.wg_typing.specs.Maybe.{all_of}
use Rattle.wg_typing.specs.Scope.{Context, as_const, known_names, named_type}
use Rattle.wg_typing.specs.Typing.{IsWellTyped, typed}
use Rattle.wg_typing.specs.TypingAttributes.{attributes_of}
use Rattle.wg_typing.specs.TypingBuffer.{buffer_limit, buffer_of, buffer_meant, buffer_tree}
use Rattle.wg_typing.specs.TypingConstant.{constant_of, constant_type, constant_meant}
use Rattle.wg_typing.specs.TypingDeclared.{type_limit, declared_type}
use Rattle.wg_typing.specs.TypingEvents.{chain_of, events}
use Rattle.wg_typing.specs.TypingExpr.{part}
use Rattle.wg_typing.specs.TypingFunction.{function_head, function_sites, head_context, parameter_context, body_context, body_sites, function_tree, passed_of, is_entry_around, passed_in, function_if, function_meant}
use Rattle.wg_typing.specs.TypingParameter.{entry_of}
use Rattle.wg_typing.specs.TypingShared.{shared_limit, shared_words, shared_total, shared_type, shared_tree, shared_meant}
use Rattle.wg_typing.specs.TypingSoFar.{Text, outside, text_names, with_name}
use Rattle.wg_typing.specs.TypingStmt.{block_after, block_trees, walked}
use Rattle.wg_typing.specs.TypingStruct.{field_tree, struct_of_fields, struct_size, struct_tree, with_struct}
use Rattle.wg_typing.specs.TypingText.{item_sites, item_declared, item_name, item_after, no_text, items_sites, items_after}
use Rattle.wg_typed.specs.Constants.{const_value}
use Rattle.wg_typed.specs.Layout.{words_of, types_of, field_types}
use Rattle.wg_sound.specs.Sound.{buffer_stands, IsSoundFunction, IsSound}
use Rattle.wg_sound.specs.StandingTypes.{names_below, stands_in}
use Rattle.wg_facts.specs.Tests.{if_any, every}
use Rattle.wg_tree.specs.declared.expr.Expr.{Expr}
use Rattle.wg_tree.specs.declared.expr.Named.{Named}
use Rattle.wg_tree.specs.declared.expr.TypeName.{TypeName}
use Rattle.wg_tree.specs.declared.item.BufferType.{BufferType}
use Rattle.wg_tree.specs.declared.item.BufferType.TheVariants as buffer_type
use Rattle.wg_tree.specs.declared.item.Field.{Field}
use Rattle.wg_tree.specs.declared.item.Item.{Item}
use Rattle.wg_tree.specs.declared.item.Item.TheVariants as item
use Rattle.wg_tree.specs.declared.item.Parameter.{Parameter}
use Rattle.wg_tree.specs.declared.item.ResultType.{ResultType}
use Rattle.wg_tree.specs.declared.item.Source.{Source}
use Rattle.wg_tree.specs.declared.stmt.Attribute.{Attribute}
use Rattle.wg_tree.specs.declared.stmt.Stmt.{Stmt}
use Rattle.wg_typed.specs.declared.types.ConstValue.{ConstValue}
use Rattle.wg_typed.specs.declared.types.TypeTree.{TypeTree}
use Rattle.wg_typed.specs.declared.types.TypeTree.TheVariants as type
use Rattle.wg_typed.specs.declared.typed.Typed.{Typed}
use Rattle.wg_typed.specs.declared.typed.TypedBuffer.{TypedBuffer}
use Rattle.wg_typed.specs.declared.typed.TypedBufferType.{TypedBufferType}
use Rattle.wg_typed.specs.declared.typed.TypedField.{TypedField}
use Rattle.wg_typed.specs.declared.typed.TypedFunction.{TypedFunction}
use Rattle.wg_typed.specs.declared.typed.TypedShared.{TypedShared}
use Rattle.wg_typed.specs.declared.typed.TypedStruct.{TypedStruct}
use Rattle.wg_typing.specs.declared.scope.Declared.{Declared}
use Rattle.wg_typing.specs.declared.scope.FormalParameter.{FormalParameter}
use Rattle.wg_typing.specs.declared.scope.Meant.{Meant}
use Rattle.wg_typing.specs.declared.scope.Meant.TheVariants as meant
use Rattle.wg_typing.specs.declared.scope.Object.TheVariants as object
use Rattle.wg_facts.proofs.Basics.{and_then, If, both, some_value, if_then, if_was, if_where, then_some, type_self, test_some, so_less, at_most}
use Rattle.wg_facts.proofs.Lists.{nothing_more, joined, at_end, still, at_end_of, pushed, every_all, all_at}
use Rattle.wg_sound.proofs.Sizes.{StructBelow, All, all_push, all_so, words_same, TypesStand, TypeStands, named_stands, declared_stands}
use Rattle.wg_sound.proofs.Objects.{within}
use Rattle.wg_typing.specs.Named.{is_among}
use Rattle.wg_typing.specs.declared.fault.TypingRule.TheVariants.{LimitPassed}
use Rattle.wg_facts.proofs.Sited.{well_only, is_false, Well, well_left, well_right}
use Rattle.wg_typing.specs.declared.so_far.FunctionHead.{FunctionHead}
use Rattle.wg_sound.proofs.Bodies.{NamesBefore, typed_function_is}
use Rattle.wg_facts.proofs.Basics.{every_more}
use Rattle.wg_typing.specs.declared.context.Around.TheVariants as surrounding
use Rattle.wg_sound.proofs.TextNames.{TextGrows, declared_grows, items_grow, agree_all, less_self, one_function_more, one_struct_more, all_below, constant_agrees, or_broken, last_or, below_more, shared_more, shared_still, shared_longer, one_more_few, all_length, all_words, TextAgrees, SharedBelow}

module _ (t : Typed) where
  -- ---- the text in the end

  record TextEnds (x : Text) : Type 0 where
    structs : (more : List TypedStruct) × (t.structs ≡ x.structs ++ more)
    buffers : (more : List (Option TypedBuffer)) × (all_of (x.buffers ++ more) ≡ Some t.buffers)
    shared : (more : List (Option TypedShared)) × (all_of (x.shared ++ more) ≡ Some t.shared)
    functions : (more : List (Option TypedFunction)) × (all_of (x.functions ++ more) ≡ Some t.functions)

  text_before : (x y : Text) → TextGrows x y → TextEnds y → TextEnds x
  text_before x y g h = record {
    structs = (g.structs.0 ++ h.structs.0, h.structs.1 ∙ ap (λ xs. xs ++ h.structs.0) g.structs.1 ∙ joined x.structs g.structs.0 h.structs.0);
    buffers = (g.buffers.0 ++ h.buffers.0, ap all_of (sym (joined x.buffers g.buffers.0 h.buffers.0)) ∙ ap (λ xs. all_of (xs ++ h.buffers.0)) (sym g.buffers.1) ∙ h.buffers.1);
    shared = (g.shared.0 ++ h.shared.0, ap all_of (sym (joined x.shared g.shared.0 h.shared.0)) ∙ ap (λ xs. all_of (xs ++ h.shared.0)) (sym g.shared.1) ∙ h.shared.1);
    functions = (g.functions.0 ++ h.functions.0, ap all_of (sym (joined x.functions g.functions.0 h.functions.0)) ∙ ap (λ xs. all_of (xs ++ h.functions.0)) (sym g.functions.1) ∙ h.functions.1);
  }

  abbrev FieldsBelow : ℕ → List TypedField → Type 0
  FieldsBelow n fields = every (names_below n) (types_of fields) ≡ true

  abbrev FieldsStand : List TypedField → Type 0
  FieldsStand fields = every (stands_in t.structs) (types_of fields) ≡ true

  abbrev Sized : ℕ → Type 0
  Sized n = nat_le (words_of t.structs (type.Struct n)) type_limit ≡ true

  abbrev FunctionStands : ℕ → Option TypedFunction → Type 0
  FunctionStands n o = If (IsSoundFunction t n) o

  record TextIs (x : Text) : Type 0 where
    names : All (TextAgrees t (length x.functions)) x.names
    below : All (StructBelow (length x.structs)) x.names
    order : (n : ℕ) (s : TypedStruct) → slice_get x.structs n ≡ Some s → FieldsBelow n s.fields
    fields : (n : ℕ) (s : TypedStruct) → slice_get x.structs n ≡ Some s → FieldsStand s.fields
    sizes : (n : ℕ) → nat_lt n (length x.structs) ≡ true → Sized n
    buffers : every (if_any (λ (b : TypedBuffer). buffer_stands t.structs b.of)) x.buffers ≡ true
    shared : every (if_any (λ (s : TypedShared). stands_in t.structs s.of)) x.shared ≡ true
    few_buffers : nat_lt buffer_limit (length x.buffers) ≡ false
    few_words : nat_lt shared_limit (shared_words x.structs x.shared) ≡ false
    shared_below : SharedBelow (length x.structs) x.shared
    functions : (n : ℕ) (o : Option TypedFunction) → slice_get x.functions n ≡ Some o → FunctionStands n o

  -- one name more
  named : (x : Text) (name : Named) (m : Meant) → TextAgrees t (length x.functions) m → StructBelow (length x.structs) m → TextIs x → TextIs (with_name name m x)
  named x name m h k s = record {
    names = all_push (TextAgrees t (length x.functions)) x.names (record { name = name; meant = m }) s.names h;
    below = all_push (StructBelow (length x.structs)) x.names (record { name = name; meant = m }) s.below k;
    order = s.order;
    fields = s.fields;
    sizes = s.sizes;
    buffers = s.buffers;
    shared = s.shared;
    few_buffers = s.few_buffers;
    few_words = s.few_words;
    shared_below = s.shared_below;
    functions = s.functions;
  }

  -- the types that its names stand for
  text_types : (x : Text) → TextIs x → TextEnds x → TypesStand t.structs x.structs x.names
  text_types x s e = record { first = e.structs; sizes = s.sizes; below = s.below }

  abbrev AllStand : Text → List TypedField → Type 0
  AllStand x fields = FieldsBelow (length x.structs) fields × FieldsStand fields

  fields_stand : (x : Text) (fields : List Field) → TypesStand t.structs x.structs x.names → If (AllStand x) (all_of (map (field_tree (outside x)) fields))
  fields_stand x [] h = (refl, refl)
  fields_stand x (f ∷ rest) h = if_then (λ (y : TypedField). TypeStands t.structs x.structs y.of) (AllStand x) (field_tree (outside x) f) _
      (if_then (TypeStands t.structs x.structs) (λ (y : TypedField). TypeStands t.structs x.structs y.of) (declared_type (outside x) (named_type x.names f.of) f.size) _
      (declared_stands t.structs x.structs x.names h (outside x) refl (named_type x.names f.of) f.size (named_stands t.structs x.structs x.names h f.of)) (λ u k. k)) (λ y k.
      if_then (AllStand x) (AllStand x) (all_of (map (field_tree (outside x)) rest)) _ (fields_stand x rest h) (λ ys l. (both k.below l.0, both k.stands l.1)))

  record StructIs (x : Text) (s : TypedStruct) : Type 0 where
    below : FieldsBelow (length x.structs) s.fields
    stands : FieldsStand s.fields
    size : nat_le (struct_size x.structs s) type_limit ≡ true

  struct_stands : (x : Text) (attributes : List Attribute) (name : Named) (fields : List Field) → TypesStand t.structs x.structs x.names → If (StructIs x) (struct_tree (outside x) attributes name fields)
  struct_stands x attributes name fields h = if_then (λ (s : TypedStruct). AllStand x s.fields) (StructIs x) (struct_of_fields (outside x) attributes name fields) _
      (if_then (AllStand x) (λ (s : TypedStruct). AllStand x s.fields) (all_of (map (field_tree (outside x)) fields)) _ (fields_stand x fields h) (λ xs k. k))
      (λ s k. if_where (StructIs x) (nat_le (struct_size x.structs s) type_limit) s (λ e. record { below = k.0; stands = k.1; size = e }))

  struct_is : (x : Text) (name : Named) (o : Option TypedStruct) → If (StructIs x) o → TextIs x → TextEnds (with_struct name o x) → TextIs (with_struct name o x)
  struct_is x name None h s e = named x name meant.Broken tt tt s
  struct_is x name (Some y) h s e =
      let there : nat_lt (length x.structs) (length t.structs) ≡ true = within t.structs (length x.structs) y (ap (λ xs. slice_get xs (length x.structs)) (e.structs.1 ∙ joined x.structs (y ∷ []) e.structs.0) ∙ at_end x.structs y e.structs.0) in
      let last : nat_lt (length x.structs) (length (x.structs ++ y ∷ [])) ≡ true = subst (λ n. nat_lt (length x.structs) n ≡ true) (sym (longer x.structs y)) (less_self (length x.structs)) in
      let own : Sized (length x.structs) = subst (λ n. nat_le n type_limit ≡ true) (sym (ap (λ xs. words_of xs (type.Struct (length x.structs))) e.structs.1 ∙ words_same (x.structs ++ y ∷ []) e.structs.0 (type.Struct (length x.structs)) last)) h.size in
      record {
        names = all_push (TextAgrees t (length x.functions)) x.names (record { name = name; meant = meant.Struct (length x.structs) }) s.names there;
        below = subst (λ n. All (StructBelow n) (x.names ++ record { name = name; meant = meant.Struct (length x.structs) } ∷ [])) (sym (longer x.structs y))
            (all_push (StructBelow (suc (length x.structs))) x.names (record { name = name; meant = meant.Struct (length x.structs) }) (all_so (StructBelow (length x.structs)) (StructBelow (suc (length x.structs))) x.names (one_struct_more (length x.structs)) s.below) (less_self (length x.structs)));
        order = pushed (λ n (z : TypedStruct). FieldsBelow n z.fields) x.structs y s.order h.below;
        fields = pushed (λ n (z : TypedStruct). FieldsStand z.fields) x.structs y s.fields h.stands;
        sizes = λ n k. last_or Sized (length x.structs) s.sizes own n (subst (λ m. nat_lt n m ≡ true) (longer x.structs y) k);
        buffers = s.buffers;
        shared = s.shared;
        few_buffers = s.few_buffers;
        few_words = ap (nat_lt shared_limit) (shared_still x.structs (y ∷ []) x.shared s.shared_below) ∙ s.few_words;
        shared_below = shared_longer x.structs (y ∷ []) x.shared s.shared_below;
        functions = s.functions;
      }
    where
      longer : {A : Type 0} (xs : List A) (x : A) → length (xs ++ x ∷ []) ≡ suc (length xs)
      longer [] x = refl
      longer (y ∷ xs) x = ap suc (longer xs x)

  abbrev with_buffer : Text → Named → Option TypedBufferType → Text
  with_buffer x name o = record (with_name name (buffer_meant (length x.buffers) o) x) { buffers = x.buffers ++ buffer_tree name o ∷ [] }

  buffer_is : (x : Text) (name : Named) (o : Option TypedBufferType) → If (λ b. buffer_stands t.structs b ≡ true) o → TextIs x → TextEnds (with_buffer x name o) → nat_lt buffer_limit (suc (length x.buffers)) ≡ false → TextIs (with_buffer x name o)
  buffer_is x name None h s e few =
      let n = named x name meant.Broken tt tt s in
      record { names = n.names; below = n.below; order = n.order; fields = n.fields; sizes = n.sizes; buffers = every_more _ x.buffers (None ∷ []) s.buffers refl; shared = n.shared; few_buffers = one_more_few x.buffers None few; few_words = n.few_words; shared_below = n.shared_below; functions = n.functions }
  buffer_is x name (Some b) h s e few =
      let y = at_end_of x.buffers (Some (record { name = name; of = b })) e.buffers.0 t.buffers (ap all_of (sym (joined x.buffers (Some (record { name = name; of = b }) ∷ []) e.buffers.0)) ∙ e.buffers.1) in
      let n = named x name (meant.Object (object.Buffer (length x.buffers) b)) (ap (λ z. and_then z (λ (b : TypedBuffer). Some b.of)) y.2 ∙ ap (λ (z : TypedBuffer). Some z.of) (sym (some_value y.1))) tt s in
      record { names = n.names; below = n.below; order = n.order; fields = n.fields; sizes = n.sizes; buffers = every_more _ x.buffers (Some (record { name = name; of = b }) ∷ []) s.buffers (both h refl); shared = n.shared; few_buffers = one_more_few x.buffers (Some (record { name = name; of = b })) few; few_words = n.few_words; shared_below = n.shared_below; functions = n.functions }

  abbrev with_shared : Text → Named → Option TypeTree → Text
  with_shared x name o = record (with_name name (shared_meant (length x.shared) o) x) { shared = x.shared ++ shared_tree name o ∷ [] }

  shared_is : (x : Text) (name : Named) (o : Option TypeTree) → If (TypeStands t.structs x.structs) o → TextIs x → TextEnds (with_shared x name o) → If (λ u. nat_lt shared_limit (shared_words x.structs x.shared + words_of x.structs u) ≡ false) o → TextIs (with_shared x name o)
  shared_is x name None h s e few =
      let n = named x name meant.Broken tt tt s in
      record { names = n.names; below = n.below; order = n.order; fields = n.fields; sizes = n.sizes; buffers = n.buffers; shared = every_more _ x.shared (None ∷ []) s.shared refl; few_buffers = n.few_buffers; few_words = ap (nat_lt shared_limit) (shared_more x.structs x.shared None ∙ omega arith) ∙ s.few_words; shared_below = below_more (length x.structs) x.shared None s.shared_below tt; functions = n.functions }
  shared_is x name (Some of) h s e few =
      let y = at_end_of x.shared (Some (record { name = name; of = of })) e.shared.0 t.shared (ap all_of (sym (joined x.shared (Some (record { name = name; of = of }) ∷ []) e.shared.0)) ∙ e.shared.1) in
      let q : of ≡ y.0.of = ap (λ (z : TypedShared). z.of) (some_value y.1) in
      let n = named x name (meant.Shared (length x.shared) of) (test_some (λ (z : TypedShared). same_type z.of of) (slice_get t.shared (length x.shared)) y.0 y.2 (subst (λ z. same_type z of ≡ true) q (type_self of))) tt s in
      record { names = n.names; below = n.below; order = n.order; fields = n.fields; sizes = n.sizes; buffers = n.buffers; shared = every_more _ x.shared (Some (record { name = name; of = of }) ∷ []) s.shared (both h.stands refl); few_buffers = n.few_buffers; few_words = ap (nat_lt shared_limit) (shared_more x.structs x.shared (Some (record { name = name; of = of }))) ∙ few; shared_below = below_more (length x.structs) x.shared (Some (record { name = name; of = of })) s.shared_below h.below; functions = n.functions }

  constant_is : (x : Text) (of : TypeName) (name : Named) (e : Expr) → TextIs x → TextIs (with_name name (constant_meant (outside x) of e) x)
  constant_is x of name e s = named x name (constant_meant (outside x) of e) (or_broken t (length x.functions) (constant_type (outside x) of e) one) (no_struct (constant_type (outside x) of e) two) s
    where
      one : If (TextAgrees t (length x.functions)) (constant_type (outside x) of e)
      one = if_was (TextAgrees t (length x.functions)) (named_type x.names of) _ (λ goal a. if_was (TextAgrees t (length x.functions)) (fit goal (part (as_const (outside x)) e)) _ (λ y b. if_was (TextAgrees t (length x.functions)) (const_value (known_names x.names) e) _ (λ v d. constant_agrees t (length x.functions) goal v)))

      constant_struct : (goal : TypeTree) (v : ConstValue) → If (StructBelow (length x.structs)) (constant_of goal v)
      constant_struct (type.Scalar of) v = tt
      constant_struct (type.Vector of size) v = tt
      constant_struct (type.Struct number) v = tt
      constant_struct (type.Array of size) v = tt

      two : If (StructBelow (length x.structs)) (constant_type (outside x) of e)
      two = if_was (StructBelow (length x.structs)) (named_type x.names of) _ (λ goal a. if_was (StructBelow (length x.structs)) (fit goal (part (as_const (outside x)) e)) _ (λ y b. if_was (StructBelow (length x.structs)) (const_value (known_names x.names) e) _ (λ v d. constant_struct goal v)))

      no_struct : (o : Option Meant) → If (StructBelow (length x.structs)) o → StructBelow (length x.structs) (unwrap_or o meant.Broken)
      no_struct None h = tt
      no_struct (Some m) h = h

  -- ---- functions

  module _ (x : Text) (attributes : List Attribute) (result : ResultType) (name : Named) (parameters : List Parameter) (body : List Stmt) where
    abbrev head : Context
    head = head_context x parameters

    abbrev inside : Context
    inside = parameter_context x attributes result name parameters

    abbrev tree_of_function : Option TypedFunction
    tree_of_function = function_tree head inside attributes name parameters body

    abbrev n : ℕ
    n = length x.functions

    abbrev with_function : Text
    with_function = record (with_name name (function_meant n inside parameters body) x) { functions = x.functions ++ tree_of_function ∷ [] }

    record FunctionParts (f : TypedFunction) : Type 0 where
      entry_is : f.entry ≡ entry_of inside.around f.parameters
      head_is : function_head inside parameters ≡ Some (record { result = f.result; parameters = f.parameters })

    function_parts : (f : TypedFunction) → tree_of_function ≡ Some f → FunctionParts f
    function_parts f e =
        let a = then_some (function_head inside parameters) _ f e in
        let c = then_some (block_trees (map walked body) (body_context inside parameters)) _ f a.2 in
        let d = then_some (all_of (block_after (map walked body) (body_context inside parameters)).handles) _ f c.2 in
        let q = some_value d.2 in
        record {
          entry_is = subst (λ (g : TypedFunction). g.entry ≡ entry_of inside.around g.parameters) q refl;
          head_is = a.1 ∙ ap (λ (g : TypedFunction). Some (record { result = g.result; parameters = g.parameters })) q;
        }

    function_agrees : (f : TypedFunction) (chain : ℕ) → tree_of_function ≡ Some f → slice_get t.functions n ≡ Some f → If (TextAgrees t (suc n)) (function_if n inside chain parameters)
    function_agrees f chain e at = if_was (TextAgrees t (suc n)) (function_head inside parameters) _ (λ h e1.
        if_was (TextAgrees t (suc n)) (passed_in inside.around h.parameters) _ (λ passed e2. by_entry h passed e1 (is_entry (attributes_of head attributes)) refl e2))
      where
        by_entry : (h : FunctionHead) (passed : List FormalParameter) → function_head inside parameters ≡ Some h → (b : Bool) → is_entry (attributes_of head attributes) ≡ b
            → passed_in (cond b (surrounding.Entry (lanes_of (attributes_of head attributes))) surrounding.Plain) h.parameters ≡ Some passed
            → TextAgrees t (suc n) (meant.Function n (is_entry_around (cond b (surrounding.Entry (lanes_of (attributes_of head attributes))) surrounding.Plain)) h.result passed chain)
        by_entry h passed e1 true q k = tt
        by_entry h passed e1 false q k =
            let p = function_parts f e in
            let same : h ≡ record { result = f.result; parameters = f.parameters } = some_value (sym e1 ∙ p.head_is) in
            record {
              function = f;
              before = less_self n;
              at = at;
              plain = ap is_some p.entry_is ∙ ap (λ b. is_some (entry_of (cond b (surrounding.Entry (lanes_of (attributes_of head attributes))) surrounding.Plain) f.parameters)) q;
              result = ap (λ (x : FunctionHead). x.result) (sym same);
              passed = ap (λ (x : FunctionHead). passed_of x.parameters) (sym same) ∙ k;
            }

    function_names_no_struct : (m : ℕ) (chain : ℕ) → If (StructBelow m) (function_if n inside chain parameters)
    function_names_no_struct m chain = if_was (StructBelow m) (function_head inside parameters) _ (λ h e1. if_was (StructBelow m) (passed_in inside.around h.parameters) _ (λ passed e2. tt))

    or_no_struct : (m : ℕ) (o : Option Meant) → If (StructBelow m) o → StructBelow m (unwrap_or o meant.Broken)
    or_no_struct m None h = tt
    or_no_struct m (Some x) h = h

    longer : {A : Type 0} (xs : List A) (x : A) → length (xs ++ x ∷ []) ≡ suc (length xs)
    longer [] x = refl
    longer (y ∷ xs) x = ap suc (longer xs x)

    function_is : Well (function_sites x attributes result name parameters body) → TextIs x → TextEnds with_function → TextIs with_function
    function_is w s e =
        let y = at_end_of x.functions tree_of_function e.functions.0 t.functions (ap all_of (sym (joined x.functions (tree_of_function ∷ []) e.functions.0)) ∙ e.functions.1) in
        let chain = chain_of (events (body_sites (body_context inside parameters) body)) in
        let new : Declared = record { name = name; meant = function_meant n inside parameters body } in
        let before : NamesBefore t x attributes result name parameters body n = record {
          names = λ f. agree_all t n f x.names s.names;
          structs = λ k st h. ap (λ xs. slice_get xs k) e.structs.1 ∙ still x.structs e.structs.0 k st h;
          types = record { first = e.structs; sizes = s.sizes; below = s.below };
        } in
        record {
          names = subst (λ m. All (TextAgrees t m) (x.names ++ new ∷ [])) (sym (longer x.functions tree_of_function))
              (all_push (TextAgrees t (suc n)) x.names new (all_so (TextAgrees t n) (TextAgrees t (suc n)) x.names (one_function_more t n) s.names) (or_broken t (suc n) (function_if n inside chain parameters) (function_agrees y.0 chain y.1 y.2)));
          below = all_push (StructBelow (length x.structs)) x.names new s.below (or_no_struct (length x.structs) (function_if n inside chain parameters) (function_names_no_struct (length x.structs) chain));
          order = s.order;
          fields = s.fields;
          sizes = s.sizes;
          buffers = s.buffers;
          shared = s.shared;
          few_buffers = s.few_buffers;
          few_words = s.few_words;
          shared_below = s.shared_below;
          functions = pushed FunctionStands x.functions tree_of_function s.functions (typed_function_is t x attributes result name parameters body n before w);
        }

  -- ---- all declarations

  buffer_type_stands : (x : Text) (of : BufferType) → TypesStand t.structs x.structs x.names → If (λ b. buffer_stands t.structs b ≡ true) (buffer_of (outside x) of)
  buffer_type_stands x (buffer_type.Raw place writable) s = refl
  buffer_type_stands x (buffer_type.Structured place writable of) s = if_then (TypeStands t.structs x.structs) (λ b. buffer_stands t.structs b ≡ true) (named_type x.names of) _ (named_stands t.structs x.structs x.names s of) (λ u h. h.stands)

  shared_stands : (x : Text) (of : TypeName) (size : Option Expr) → TypesStand t.structs x.structs x.names → If (TypeStands t.structs x.structs) (shared_type x of size)
  shared_stands x of size h = declared_stands t.structs x.structs x.names h (outside x) refl (named_type x.names of) size (named_stands t.structs x.structs x.names h of)

  -- the words with one more variable are within the limit
  shared_fits : (x : Text) (name : Named) (o : Option TypeTree) → Well (shared_total x name o) → If (λ u. nat_lt shared_limit (shared_words x.structs x.shared + words_of x.structs u) ≡ false) o
  shared_fits x name None w = tt
  shared_fits x name (Some of) w = is_false _ name.place (well_only w LimitPassed)

  declared_is : (x : Text) (i : Item) → Well (item_sites x i) → TextIs x → TextEnds (item_declared x i) → TextIs (item_declared x i)
  declared_is x (item.Struct place attributes name fields) w s e = struct_is x name (struct_tree (outside x) attributes name fields) (struct_stands x attributes name fields (text_types x s (text_before x _ (declared_grows x (item.Struct place attributes name fields)) e))) s e
  declared_is x (item.Buffer coherent of name registers) w s e = buffer_is x name (buffer_of (outside x) of) (buffer_type_stands x of (text_types x s (text_before x _ (declared_grows x (item.Buffer coherent of name registers)) e))) s e (is_false _ name.place (well_only (well_right (well_right w)) LimitPassed))
  declared_is x (item.Shared place of name size) w s e = shared_is x name (shared_type x of size) (shared_stands x of size (text_types x s (text_before x _ (declared_grows x (item.Shared place of name size)) e))) s e (shared_fits x name (shared_type x of size) (well_right (well_right w)))
  declared_is x (item.Constant place of name e) w s h = constant_is x of name e s
  declared_is x (item.Function attributes result name parameters place body) w s e = function_is x attributes result name parameters body w s e

  item_is : (x : Text) (i : Item) → Well (item_sites x i) → TextIs x → TextEnds (item_after x i) → TextIs (item_after x i)
  item_is x i w s e = by_test (is_among (text_names x) (item_name i).name) e
    where
      by_test : (b : Bool) → TextEnds (cond b x (item_declared x i)) → TextIs (cond b x (item_declared x i))
      by_test true e = s
      by_test false e = declared_is x i w s e

  items_are : (items : List Item) (x : Text) → Well (items_sites x items) → TextIs x → TextEnds (items_after x items) → TextIs (items_after x items)
  items_are [] x w s e = s
  items_are (i ∷ rest) x w s e = items_are rest (item_after x i) (well_right w) (item_is x i (well_left w) s (text_before (item_after x i) _ (items_grow (item_after x i) rest) e)) e

  none_there : {A : Type 0} {B : Type 0} (n : ℕ) (a : A) → slice_get [] n ≡ Some a → B
  none_there n a e = absurd (cc)

  nothing_below : {B : Type 0} (n : ℕ) → nat_lt n 0 ≡ true → B
  nothing_below n e = let l : n < 0 = so_less n 0 e in absurd (omega (arith, l))

  begins : TextIs no_text
  begins = record { names = tt; below = tt; order = λ n s e. none_there n s e; fields = λ n s e. none_there n s e; sizes = λ n e. nothing_below n e; buffers = refl; shared = refl; few_buffers = refl; few_words = refl; shared_below = tt; functions = λ n o e. none_there n o e }

-- the typed form of a text that breaks no rule is sound
pub typed_is_sound : (tree : Source) (t : Typed) → IsWellTyped tree → typed tree ≡ Some t → IsSound t
typed_is_sound tree t well e =
    let x = items_after no_text tree.items in
    let a = then_some (all_of x.buffers) _ t e in
    let b = then_some (all_of x.shared) _ t a.2 in
    let c = then_some (all_of x.functions) _ t b.2 in
    let q = some_value c.2 in
    let buffers : all_of x.buffers ≡ Some t.buffers = a.1 ∙ ap (λ (y : Typed). Some y.buffers) q in
    let shared : all_of x.shared ≡ Some t.shared = b.1 ∙ ap (λ (y : Typed). Some y.shared) q in
    let functions : all_of x.functions ≡ Some t.functions = c.1 ∙ ap (λ (y : Typed). Some y.functions) q in
    let structs : x.structs ≡ t.structs = ap (λ (y : Typed). y.structs) q in
    let ends : TextEnds t x = record {
      structs = ([], sym structs ∙ nothing_more x.structs);
      buffers = ([], ap all_of (sym (nothing_more x.buffers)) ∙ buffers);
      shared = ([], ap all_of (sym (nothing_more x.shared)) ∙ shared);
      functions = ([], ap all_of (sym (nothing_more x.functions)) ∙ functions);
    } in
    let s = items_are t tree.items no_text (record { well = well.unbroken }) (begins t) ends in
    record {
      structs = λ n y h. all_below n (field_types y) (s.order n y (ap (λ xs. slice_get xs n) structs ∙ h));
      fields = λ n y h. s.fields n y (ap (λ xs. slice_get xs n) structs ∙ h);
      sizes = λ n y h. s.sizes n (within x.structs n y (ap (λ xs. slice_get xs n) structs ∙ h));
      buffers = every_all (λ (b : TypedBuffer). buffer_stands t.structs b.of) x.buffers t.buffers buffers s.buffers;
      shared = every_all (λ (y : TypedShared). stands_in t.structs y.of) x.shared t.shared shared s.shared;
      few_buffers = subst (λ n. n ≤ buffer_limit) (all_length x.buffers t.buffers buffers) (at_most buffer_limit (length x.buffers) s.few_buffers);
      few_words = subst (λ n. n ≤ shared_limit) (ap (λ (xs : List TypedStruct). shared_words xs x.shared) structs ∙ all_words t.structs x.shared t.shared shared) (at_most shared_limit (shared_words x.structs x.shared) s.few_words);
      functions = λ number f h. s.functions number (Some f) (all_at x.functions t.functions number f functions h);
    }
