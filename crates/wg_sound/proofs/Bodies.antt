-- Functions are sound.
use Rattle.std.proofs.Common.{◌≡◌, ℕ, Bool, true, false, cond, List, [], ◌∷◌, ◌++◌, map, Option, Some, None, refl, sym, ap, ◌∙◌, subst}
use Rattle.std.specs.Prelude.{◌&&◌, is_some}
use Rattle.wg_typed.specs.Uniform.{UniformSetting}
use Rattle.wg_typing.specs.Maybe.{where_true, all_of}
use Rattle.wg_typing.specs.Named.{is_among}
use Rattle.wg_typing.specs.Scope.{Context, declare, own_names, named_type}
use Rattle.wg_typing.specs.AttributeArguments.{is_entry, lanes_of}
use Rattle.wg_typing.specs.TypingAttributes.{attributes_of}
use Rattle.wg_typing.specs.TypingEvents.{events}
use Rattle.wg_typing.specs.TypingFunction.{gives_if, gives, head_context, parameter_context, first_before, body_context, body_sites, function_setting, function_sites, result_if, function_head, function_tree}
use Rattle.wg_typing.specs.TypingHandle.{struct_number, record_named, record_number}
use Rattle.wg_typing.specs.TypingMarks.{marked_variable, with_variable, with_variables, marked_body}
use Rattle.wg_typing.specs.TypingParameter.{output_limit, Role, role_of, Before, one_more, takes_role, HeldRecords, empty, records, unsure_records, holds_named, holds, object_parameter, parameter_of, input_or_output, with_parameter, parameters_after, parameter_tree, parameters_trees, entry_of}
use Rattle.wg_typing.specs.TypingSoFar.{Text, outside}
use Rattle.wg_typing.specs.TypingStmt.{block_after, block_trees, walked}
use Rattle.wg_facts.specs.Tests.{if_any, every}
use Rattle.wg_sound.specs.StandingTypes.{stands_in}
use Rattle.wg_sound.specs.Room.{Room, is_node}
use Rattle.wg_sound.specs.Sound.{value_types, parameter_stands, handle_stands, IsEntryOf, IsSoundFunction}
use Rattle.wg_sound.specs.SoundStmt.{body_sound}
use Rattle.wg_tree.specs.declared.expr.Named.{Named}
use Rattle.wg_tree.specs.declared.expr.TypeName.{TypeName}
use Rattle.wg_tree.specs.declared.item.Parameter.{Parameter}
use Rattle.wg_tree.specs.declared.item.ParameterType.{ParameterType}
use Rattle.wg_tree.specs.declared.item.ParameterType.TheVariants as parameter_type
use Rattle.wg_tree.specs.declared.item.ResultType.{ResultType}
use Rattle.wg_tree.specs.declared.item.ResultType.TheVariants as result_type
use Rattle.wg_tree.specs.declared.stmt.Attribute.{Attribute}
use Rattle.wg_tree.specs.declared.stmt.ObjectType.{ObjectType}
use Rattle.wg_tree.specs.declared.stmt.Stmt.{Stmt}
use Rattle.wg_typed.specs.declared.types.TypeTree.{TypeTree}
use Rattle.wg_typed.specs.declared.types.TypeTree.TheVariants as type
use Rattle.wg_typed.specs.declared.typed.Typed.{Typed}
use Rattle.wg_typed.specs.declared.typed.TypedEntry.{TypedEntry}
use Rattle.wg_typed.specs.declared.typed.TypedHandle.{TypedHandle}
use Rattle.wg_typed.specs.declared.typed.TypedStruct.{TypedStruct}
use Rattle.wg_typed.specs.declared.typed.TypedFunction.{TypedFunction}
use Rattle.wg_typed.specs.declared.typed.TypedParameter.{TypedParameter}
use Rattle.wg_typed.specs.declared.typed.TypedParameterType.{TypedParameterType}
use Rattle.wg_typed.specs.declared.typed.TypedVariable.{TypedVariable}
use Rattle.wg_typed.specs.declared.typed_stmt.TypedStmt.{TypedStmt}
use Rattle.wg_typing.specs.declared.context.Around.{Around}
use Rattle.wg_typing.specs.declared.context.Around.TheVariants as surrounding
use Rattle.wg_typing.specs.declared.context.VariableForm.{VariableForm}
use Rattle.wg_typing.specs.declared.event.Event.{Event}
use Rattle.wg_typing.specs.declared.scope.Meant.{Meant}
use Rattle.wg_typing.specs.declared.scope.Meant.TheVariants as meant
use Rattle.wg_typing.specs.declared.so_far.FunctionHead.{FunctionHead}
use Rattle.wg_facts.proofs.Basics.{If, both, some_value, if_then, if_was, if_so, then_some, where_so, at_most}
use Rattle.wg_sound.proofs.Meanings.{AllAgree, agree_push}
use Rattle.wg_facts.proofs.Lists.{nothing_more, joined, every_all}
use Rattle.wg_sound.proofs.Sizes.{TypesStand, types_push, TypeStands, named_stands}
use Rattle.wg_sound.proofs.Whole.{Fits, entry_around}
use Rattle.wg_sound.proofs.Accessed.{Later}
use Rattle.wg_sound.proofs.Declarations.{Stands, named_type_stands}
use Rattle.wg_sound.proofs.Growing.{Grows, forms_joined, Ends, ends_before, form_types, local_types}
use Rattle.wg_sound.proofs.Marked.{body_is}
use Rattle.std.specs.Option.{unwrap_or}
use Rattle.wg_typed.specs.Uniform.{any_read, setting_in}
use Rattle.wg_typing.specs.TypingFunction.{known_parameters}
use Rattle.wg_sound.specs.Placement.{in_body, Placed, placed, body_placed}
use Rattle.wg_typing.specs.declared.fault.TypingRule.TheVariants.{BadOutputCall, BadBarrier}
use Rattle.wg_sound.proofs.Allowed.{Allowed, TakenIn, allowed}
use Rattle.wg_sound.proofs.Paths.{AllMay, block_may, all_paths}
use Rattle.wg_sound.proofs.Placing.{taken_all, marks_read, body_stands}
use Rattle.wg_typing.specs.RulesBadOutputCall.{second_finishes, bad_returns}
use Rattle.wg_typing.specs.RulesCollective.{misplaced}
use Rattle.wg_typing.specs.TypingActs.{is_output}
use Rattle.wg_sound.proofs.Parameters.{parameters_first, outputs_few, StandsAlong, stands_after, parameters_keep}
use Rattle.wg_facts.proofs.Sited.{empty_left, well_only, Well, well_left, well_right}
use Rattle.wg_sound.proofs.Walks.{BlockIs, block_is, block_grows, BodyIs, all_walks}

-- ---- what parameters leave of a context

record Leaves (c d : Context) : Type 0 where
  around : d.around ≡ c.around
  returns : d.returns ≡ c.returns
  looped : d.looped ≡ c.looped

leaves_then : (a b c : Context) → Leaves a b → Leaves b c → Leaves a c
leaves_then a b c g h = record { around = h.around ∙ g.around; returns = h.returns ∙ g.returns; looped = h.looped ∙ g.looped }

once_leaves : (b : Bool) (c d : Context) → Leaves c d → Leaves c (cond b c d)
once_leaves true c d g = record { around = refl; returns = refl; looped = refl }
once_leaves false c d g = g

parameters_leave : (ps : List Parameter) (b : Before) (c : Context) → Leaves c (parameters_after b ps c)
parameters_leave [] b c = record { around = refl; returns = refl; looped = refl }
parameters_leave (p ∷ ps) b c = leaves_then c (with_parameter b p c) _
    (once_leaves (is_among (own_names c) p.name.name) c _ (record { around = refl; returns = refl; looped = refl })) (parameters_leave ps (one_more p.of b) (with_parameter b p c))

-- ---- marks keep types

marked_types : (vs : List VariableForm) (u : UniformSetting) (es : List Event) → local_types (with_variables u es vs).variables ≡ local_types u.variables ++ form_types vs
marked_types [] u es = nothing_more (local_types u.variables)
marked_types (v ∷ vs) u es = marked_types vs (with_variable u es v) es ∙ ap (λ ts. ts ++ form_types vs) (locals_joined u.variables (marked_variable u es v)) ∙ joined (local_types u.variables) (v.of ∷ []) (form_types vs)
  where
    locals_joined : (xs : List TypedVariable) (y : TypedVariable) → local_types (xs ++ y ∷ []) ≡ local_types xs ++ y.of ∷ []
    locals_joined [] y = refl
    locals_joined (x ∷ xs) y = ap (λ ts. x.of ∷ ts) (locals_joined xs y)

types_every : (p : TypeTree → Bool) (vs : List TypedVariable) → every p (local_types vs) ≡ every (λ (v : TypedVariable). p v.of) vs
types_every p [] = refl
types_every p (v ∷ vs) = ap (λ b. p v.of && b) (types_every p vs)

forms_every : (p : TypeTree → Bool) (vs : List VariableForm) → every p (form_types vs) ≡ every (λ (v : VariableForm). p v.of) vs
forms_every p [] = refl
forms_every p (v ∷ vs) = ap (λ b. p v.of && b) (forms_every p vs)

module _ (room : Room) where
  abbrev whole : List TypedStruct
  whole = room.text.structs

  -- ---- the types of parameters

  node_of : (o : Option TypedEntry) (h : Bool) (role : Role) → takes_role (entry_around o) h role ≡ true → is_some o ≡ true
  node_of None h role e = absurd (cc)
  node_of (Some x) h role e = refl

  takes_entry : (c : Context) (h : Bool) (role : Role) → Fits room c → takes_role c.around h role ≡ true → is_node room.function ≡ true
  takes_entry c h role s e = node_of room.function.entry h role (subst (λ a. takes_role a h role ≡ true) s.around e)

  abbrev ParameterStands : TypedParameterType → Type 0
  ParameterStands of = parameter_stands whole (is_node room.function) of ≡ true

  abbrev KnownStands : TypedParameterType × Meant → Type 0
  KnownStands known = ParameterStands known.0

  number_below : (structs : List TypedStruct) (t : TypeTree) → TypeStands whole structs t → If (λ n. stands_in whole (type.Struct n) ≡ true) (struct_number t)
  number_below structs (type.Scalar of) h = tt
  number_below structs (type.Vector of size) h = tt
  number_below structs (type.Struct number) h = h.stands
  number_below structs (type.Array of size) h = tt

  record_below : (c : Context) (of : ObjectType) → Fits room c → If (λ n. stands_in whole (type.Struct n) ≡ true) (record_number c of)
  record_below c of s = if_then (TypeStands whole c.structs) (λ n. stands_in whole (type.Struct n) ≡ true) (record_named c of) struct_number (if_was (TypeStands whole c.structs) of.record_type _ (λ t e. named_type_stands room c s t)) (number_below c.structs)

  abbrev HoldsBelow : HeldRecords → Type 0
  HoldsBelow empty = Unit {0}
  HoldsBelow (records number) = stands_in whole (type.Struct number) ≡ true
  HoldsBelow unsure_records = Unit {0}

  holds_below : (t : Option TypeName) (n : Option ℕ) → If (λ n. stands_in whole (type.Struct n) ≡ true) n → HoldsBelow (holds_named t n)
  holds_below None n h = tt
  holds_below (Some t) None h = tt
  holds_below (Some t) (Some n) h = h

  object_stands : (c : Context) (b : Before) (of : ObjectType) (held : HeldRecords) → HoldsBelow held → is_node room.function ≡ true → If KnownStands (object_parameter c b of held)
  object_stands c b of empty h e = if_was KnownStands (input_or_output c.structs (role_of of.word) b.outputs None) _ (λ o q. e)
  object_stands c b of (records number) h e = if_was KnownStands (input_or_output c.structs (role_of of.word) b.outputs (Some number)) _ (λ o q. both e h)
  object_stands c b of unsure_records h e = tt

  type_stands : (c : Context) (b : Before) (of : ParameterType) → Fits room c → If KnownStands (parameter_of c b of)
  type_stands c b (parameter_type.Value of) s = if_then (TypeStands whole c.structs) KnownStands (named_type c.names of) _ (named_type_stands room c s of) (λ t h. h.stands)
  type_stands c b (parameter_type.Object of) s = if_was KnownStands (where_true (takes_role c.around b.has_input (role_of of.word)) of) _ (λ o e.
      let w = where_so (takes_role c.around b.has_input (role_of of.word)) of o e in
      object_stands c b o (holds c o) (holds_below o.record_type (record_number c o) (record_below c o s)) (takes_entry c b.has_input (role_of of.word) s w.0))

  abbrev ParametersStand : List TypedParameter → Type 0
  ParametersStand ps = every (λ (p : TypedParameter). parameter_stands whole (is_node room.function) p.of) ps ≡ true

  parameters_stand : (ps : List Parameter) (b : Before) (c : Context) → StandsAlong room ps b c → If ParametersStand (parameters_trees b ps c)
  parameters_stand [] b c s = refl
  parameters_stand (p ∷ ps) b c s = if_then (λ (x : TypedParameter). ParameterStands x.of) ParametersStand (parameter_tree c b p) _ (if_then KnownStands (λ (x : TypedParameter). ParameterStands x.of) (parameter_of c b p.of) _ (type_stands c b p.of s.0.fits) (λ known h. h)) (λ x h.
      if_then ParametersStand ParametersStand (parameters_trees (one_more p.of b) ps (with_parameter b p c)) _ (parameters_stand ps (one_more p.of b) (with_parameter b p c) s.1) (λ xs k. both h k))

  -- ---- results

  result_below : (c : Context) (of : ResultType) (r : Option TypeTree) → TypesStand whole c.structs c.names → result_if (gives c of) ≡ Some r → if_any (stands_in whole) r ≡ true
  result_below c (result_type.Void place) r s e = subst (λ x. if_any (stands_in whole) x ≡ true) (some_value e) refl
  result_below c (result_type.Value of) r s e = by_type (named_type c.names of) (named_stands whole c.structs c.names s of) e
    where
      by_type : (o : Option TypeTree) → If (TypeStands whole c.structs) o → result_if (gives_if o) ≡ Some r → if_any (stands_in whole) r ≡ true
      by_type None h e = absurd (cc)
      by_type (Some t) h e = subst (λ x. if_any (stands_in whole) x ≡ true) (some_value e) h.stands

-- ---- nodes

entry_same : (b : Bool) (lanes : ℕ) (ps : List TypedParameter) → entry_around (entry_of (cond b (surrounding.Entry lanes) surrounding.Plain) ps) ≡ cond b (surrounding.Entry lanes) surrounding.Plain
entry_same true lanes ps = refl
entry_same false lanes ps = refl

entry_numbers : (a : Around) (ps : List TypedParameter) (e : TypedEntry) → entry_of a ps ≡ Some e → IsEntryOf e ps
entry_numbers (surrounding.Entry lanes) ps e q = record { input = ap (λ (x : TypedEntry). x.input) (sym (some_value q)); outputs = ap (λ (x : TypedEntry). x.outputs) (sym (some_value q)) }
entry_numbers surrounding.Plain ps e q = absurd (cc)
entry_numbers surrounding.Const ps e q = absurd (cc)
entry_numbers (surrounding.Attribute allowed) ps e q = absurd (cc)

-- ---- functions

module _ (t : Typed) (x : Text) (attributes : List Attribute) (of : ResultType) (name : Named) (parameters : List Parameter) (body : List Stmt) where
  abbrev pub head : Context
  head = head_context x parameters

  abbrev pub inside : Context
  inside = parameter_context x attributes of name parameters

  abbrev pub end : Context
  end = block_after (map walked body) (body_context inside parameters)

  abbrev pub function_of : FunctionHead → List TypedStmt → List TypedHandle → TypedFunction
  function_of h ss hs = record {
    entry = entry_of inside.around h.parameters;
    attributes = attributes_of head attributes;
    result = h.result;
    name = name;
    parameters = h.parameters;
    variables = (function_setting inside parameters body).variables;
    handles = hs;
    body = marked_body inside.around (function_setting inside parameters body) ss;
  }

  -- names before the function that agree whatever it is, and those of the structs
  pub record NamesBefore (n : ℕ) : Type 0 where
    pub names : (f : TypedFunction) → AllAgree (record { text = t; function = f; number = n }) x.names
    pub structs : Later x.structs t.structs
    pub types : TypesStand t.structs x.structs x.names

  module _ (n : ℕ) (a : NamesBefore n) (w : Well (function_sites x attributes of name parameters body)) (h : FunctionHead) (ss : List TypedStmt) (hs : List TypedHandle)
      (e1 : result_if inside.returns ≡ Some h.result) (e2 : parameters_trees first_before parameters inside ≡ Some h.parameters)
      (e3 : block_trees (map walked body) (body_context inside parameters) ≡ Some ss) (e4 : all_of end.handles ≡ Some hs) where
    abbrev room : Room
    room = record { text = t; function = function_of h ss hs; number = n }

    inside_is : inside.around ≡ entry_around room.function.entry
    inside_is = sym (entry_same (is_entry (attributes_of head attributes)) (lanes_of (attributes_of head attributes)) h.parameters)

    names_agree : (b : Bool) → AllAgree room (cond b head (declare name meant.Itself head)).names
    names_agree true = a.names room.function
    names_agree false = agree_push room x.names (record { name = name; meant = meant.Itself }) (a.names room.function) tt

    names_stand : (b : Bool) → TypesStand t.structs (cond b head (declare name meant.Itself head)).structs (cond b head (declare name meant.Itself head)).names
    names_stand true = a.types
    names_stand false = types_push t.structs x.structs x.names (record { name = name; meant = meant.Itself }) a.types tt

    structs_later : (b : Bool) → Later (cond b head (declare name meant.Itself head)).structs t.structs
    structs_later true = a.structs
    structs_later false = a.structs

    no_variables : (b : Bool) → every (λ (l : VariableForm). stands_in t.structs l.of) (cond b head (declare name meant.Itself head)).variables ≡ true
    no_variables true = refl
    no_variables false = refl

    no_handles : (b : Bool) → every (if_any (handle_stands room)) (cond b head (declare name meant.Itself head)).handles ≡ true
    no_handles true = refl
    no_handles false = refl

    not_looped : (b : Bool) → (cond b head (declare name meant.Itself head)).looped ≡ false
    not_looped true = refl
    not_looped false = refl

    abbrev known : Bool
    known = is_among (own_names head) name.name

    outside_stands : Stands room inside
    outside_stands = record {
      fits = record { names = names_agree known; structs = structs_later known; types = names_stand known; around = inside_is };
      gives = e1;
      variables = no_variables known;
      handles = no_handles known;
    }

    ends : Ends room end
    ends = record {
      variables = ([], marked_types end.variables _ (events (body_sites (body_context inside parameters) body)) ∙ nothing_more (form_types end.variables));
      handles = ([], ap all_of (sym (nothing_more end.handles)) ∙ e4);
    }

    ends_parameters : Ends room (parameters_after first_before parameters inside)
    ends_parameters =
        let e = ends_before room (body_context inside parameters) end (block_grows room (map walked body) (body_context inside parameters) (all_walks room body)) ends in
        record { variables = e.variables; handles = e.handles }

    along : StandsAlong room parameters first_before inside
    along = parameters_keep room parameters first_before inside [] h.parameters outside_stands (record { input = λ e. refl; outputs = refl }) refl e2 ends_parameters (well_left (well_right (well_right (well_right w))))

    begins : Stands room (body_context inside parameters)
    begins =
        let s = stands_after room parameters first_before inside along in
        record { fits = record { names = s.fits.names; structs = s.fits.structs; types = s.fits.types; around = s.fits.around }; gives = s.gives; variables = s.variables; handles = s.handles }

    whole_body : BlockIs room (map walked body) (body_context inside parameters)
    whole_body = block_is room (map walked body) (body_context inside parameters) (all_walks room body) begins ends (well_left (well_right (well_right (well_right (well_right w)))))

    body_here : body_sound room ss ≡ true
    body_here = subst (λ b. BodyIs room b ss) ((parameters_leave parameters first_before inside).looped ∙ not_looped known) (if_so (BodyIs room (body_context inside parameters).looped) (block_trees (map walked body) (body_context inside parameters)) ss e3 whole_body.sound)

    -- collective statements stand where they may
    abbrev marks : UniformSetting
    marks = function_setting inside parameters body

    abbrev happened : List Event
    happened = events (body_sites (body_context inside parameters) body)

    taken : TakenIn inside.around marks [] (body_sites (body_context inside parameters) body)
    taken =
        let at = well_only (well_right (well_right (well_right (well_right (well_right w))))) in
        record { taken = taken_all inside.around marks happened (empty_left (misplaced is_output inside.around marks happened) (second_finishes false happened) (empty_left (misplaced is_output inside.around marks happened ++ second_finishes false happened) (bad_returns inside.around happened) (at BadOutputCall))) (at BadBarrier) }

    may_stand : AllMay room inside.around marks [] ss
    may_stand = if_so (AllMay room inside.around marks []) (block_trees (map walked body) (body_context inside parameters)) ss e3
        (block_may room inside.around marks (map walked body) (body_context inside parameters) [] (all_paths room inside.around marks body) begins ends (well_left (well_right (well_right (well_right (well_right w))))) taken)

    setting_same : setting_in room.function ≡ marks
    setting_same = ap (λ b. record { variables = marks.variables; reads_input = b })
        (ap (λ (o : Option (List TypedParameter)). any_read (unwrap_or o [])) (sym e2) ∙ sym (marks_read end.variables (record { variables = []; reads_input = any_read (known_parameters inside parameters) }) (events (body_sites (body_context inside parameters) body))))

    placed_here : body_placed room.function ≡ true
    placed_here = subst (λ (v : UniformSetting). every (λ (s : Placed). s.stands in_body) (map (placed room.function.entry v) room.function.body) ≡ true) (sym setting_same)
        (subst (λ (a : Around). every (λ (s : Placed). s.stands in_body) (map (placed room.function.entry marks) (marked_body a marks ss)) ≡ true) (sym inside_is)
        (body_stands room.function.entry marks ss (subst (λ (a : Around). every (λ (x : Allowed). x.at []) (map (allowed a marks) ss) ≡ true) inside_is may_stand)))

    -- the parameters' variables come first
    abbrev after : Context
    after = body_context inside parameters

    body_grows : Grows after end
    body_grows = block_grows room (map walked body) after (all_walks room body)

    none_yet : (b : Bool) → form_types (cond b head (declare name meant.Itself head)).variables ≡ []
    none_yet true = refl
    none_yet false = refl

    pub function_is : IsSoundFunction t n (function_of h ss hs)
    function_is = record {
      entry = entry_numbers inside.around h.parameters;
      result = result_below room (outside x) of h.result a.types e1;
      parameters = if_so (ParametersStand room) (parameters_trees first_before parameters inside) h.parameters e2 (parameters_stand room parameters first_before inside along);
      variables = sym (types_every (stands_in t.structs) room.function.variables) ∙ ap (every (stands_in t.structs)) (marked_types end.variables _ (events (body_sites (body_context inside parameters) body))) ∙ forms_every (stands_in t.structs) end.variables ∙ whole_body.keeps.variables;
      begins = (
        form_types body_grows.variables.0,
        marked_types end.variables _ happened ∙ ap form_types body_grows.variables.1 ∙ forms_joined after.variables body_grows.variables.0
            ∙ ap (λ ts. ts ++ form_types body_grows.variables.0) (parameters_first parameters first_before inside h.parameters e2 (well_left (well_right (well_right (well_right w)))) ∙ ap (λ ts. ts ++ value_types h.parameters) (none_yet known)),
      );
      few_outputs = at_most output_limit _ (outputs_few parameters first_before inside [] h.parameters (record { input = λ e. refl; outputs = refl }) refl e2 (well_left (well_right (well_right (well_right w)))));
      handles = every_all (handle_stands room) end.handles hs e4 whole_body.keeps.handles;
      body = body_is room (function_setting inside parameters body) inside.around ss body_here;
      placed = placed_here;
    }

  pub typed_function_is : (n : ℕ) → NamesBefore n → Well (function_sites x attributes of name parameters body) → If (IsSoundFunction t n) (function_tree head inside attributes name parameters body)
  typed_function_is n a w = if_was (IsSoundFunction t n) (function_head inside parameters) _ (λ h e.
      let r = then_some (result_if inside.returns) _ h e in
      let p = then_some (parameters_trees first_before parameters inside) _ h r.2 in
      let q = some_value p.2 in
      if_was (IsSoundFunction t n) (block_trees (map walked body) (body_context inside parameters)) _ (λ ss e3. if_was (IsSoundFunction t n) (all_of end.handles) _ (λ hs e4.
      function_is n a w h ss hs (r.1 ∙ ap (λ (k : FunctionHead). Some k.result) q) (p.1 ∙ ap (λ (k : FunctionHead). Some k.parameters) q) e3 e4)))
