-- Functions in which no rule is broken have typed forms.
use Rattle.std.proofs.Common.{◌≡◌, ℕ, Bool, true, false, cond, List, [], ◌∷◌, length, map, Option, Some, None, refl, subst, sym}
use Rattle.wg_typing.specs.Maybe.{all_of}
use Rattle.wg_typing.specs.Scope.{Context, named_type, own_names, declare}
use Rattle.wg_typing.specs.TypingEvents.{events, chain_of}
use Rattle.wg_typing.specs.TypingFunction.{around_of, gives, gives_if, result_sites, head_context, parameter_context, first_before, body_context, body_sites, function_sites, result_if, function_head, function_tree, passed_if, passed_of, passed_in, function_if, function_meant, named_context}
use Rattle.wg_typing.specs.TypingHandle.{record_number}
use Rattle.wg_typing.specs.TypingParameter.{Role, an_input, an_output, no_role, role_of, Before, one_more, takes_role, HeldRecords, empty, records, unsure_records, holds_named, holds, sharing_of, input_or_output, held_parameter, object_parameter, parameter_of, meant_if, with_parameter, parameters_after, parameter_type_sites, parameters_sites, parameter_tree, parameters_trees}
use Rattle.wg_typing.specs.TypingSoFar.{Text, outside}
use Rattle.wg_typing.specs.TypingStmt.{block_after, block_trees, walked}
use Rattle.wg_tree.specs.declared.expr.Named.{Named}
use Rattle.wg_tree.specs.declared.expr.TypeName.{TypeName}
use Rattle.wg_tree.specs.declared.stmt.Attribute.{Attribute}
use Rattle.wg_tree.specs.declared.stmt.ObjectType.{ObjectType}
use Rattle.wg_tree.specs.declared.stmt.Stmt.{Stmt}
use Rattle.wg_tree.specs.declared.item.Directed.{Directed}
use Rattle.wg_tree.specs.declared.item.Parameter.{Parameter}
use Rattle.wg_tree.specs.declared.item.ParameterType.{ParameterType}
use Rattle.wg_tree.specs.declared.item.ParameterType.TheVariants as parameter_type
use Rattle.wg_tree.specs.declared.item.ResultType.{ResultType}
use Rattle.wg_tree.specs.declared.item.ResultType.TheVariants as result_type
use Rattle.wg_typed.specs.declared.types.TypeTree.{TypeTree}
use Rattle.wg_typed.specs.declared.typed.TypedParameter.{TypedParameter}
use Rattle.wg_typed.specs.declared.typed.TypedParameterType.{TypedParameterType}
use Rattle.wg_typing.specs.declared.scope.Meant.{Meant}
use Rattle.wg_typing.specs.declared.scope.Meant.TheVariants as meant
use Rattle.wg_typing.specs.declared.scope.Object.{Object}
use Rattle.wg_typing.specs.declared.scope.Object.TheVariants as object
use Rattle.wg_typed.specs.declared.typed.TypedParameterType.TheVariants as typed_parameter
use Rattle.wg_words.specs.Maybe.{◌>>=◌}
use Rattle.wg_typing.proofs.Declarations.{AllHave, Declares, Fine, IsSure, has_record, may_stand, fine_once}
use Rattle.wg_typing.proofs.Facts.{Has, has_then, some_value, then_some, through_where}
use Rattle.wg_typing.proofs.Names.{AllStand, NoneAllowed, Stands, has_type, stand_push, then_stands, unwrap_stands}
use Rattle.wg_typing.proofs.Sites.{Well, well_left, well_only, well_right}
use Rattle.wg_typing.proofs.Stmts.{has_body}
use Rattle.wg_typing.specs.Named.{is_among}
use Rattle.wg_typed.specs.declared.typed.TypedStruct.{TypedStruct}
use Rattle.wg_typing.specs.declared.context.Around.{Around}
use Rattle.wg_typing.specs.declared.context.GivesBack.{GivesBack}
use Rattle.wg_typing.specs.declared.context.Around.TheVariants as surrounding
use Rattle.wg_typing.specs.declared.context.GivesBack.TheVariants as gives_back
use Rattle.wg_typing.specs.declared.fault.TypingRule.TheVariants.{UnknownName}
use Rattle.wg_typing.proofs.Marks.{head_is}

pub have_all : {A : Type 0} (xs : List (Option A)) → AllHave xs → Has (all_of xs)
have_all [] h = tt
have_all (a ∷ rest) h = has_then a _ h.0 (λ x e. has_then (all_of rest) _ (have_all rest h.1) (λ y f. tt))

-- ---- parameters that are objects

takes_is_role : (around : Around) (has_input : Bool) (role : Role) → takes_role around has_input role ≡ true → role ≡ no_role → ⊥
takes_is_role (surrounding.Entry lanes) has_input (an_input many s shared) e q = cc
takes_is_role (surrounding.Entry lanes) has_input (an_output array) e q = cc
takes_is_role (surrounding.Entry lanes) has_input no_role e q = cc
takes_is_role surrounding.Plain has_input role e q = cc
takes_is_role surrounding.Const has_input role e q = cc
takes_is_role (surrounding.Attribute allowed) has_input role e q = cc

abbrev Held : HeldRecords → Type 0
Held empty = Unit {0}
Held (records number) = Unit {0}
Held unsure_records = ⊥

held : (of : Option TypeName) (number : Option ℕ) → (Has of → Has number) → Held (holds_named of number)
held None number k = tt
held (Some of) None k = k tt
held (Some of) (Some number) k = tt

-- the parameter has a type and stands
abbrev KnownParameter : Option (TypedParameterType × Meant) → Type 0
KnownParameter None = ⊥
KnownParameter (Some known) = Stands known.1

known_has : (o : Option (TypedParameterType × Meant)) → KnownParameter o → Has o
known_has None h = absurd h
known_has (Some known) h = tt

known_stands : (o : Option (TypedParameterType × Meant)) → KnownParameter o → Stands (meant_if o)
known_stands None h = absurd h
known_stands (Some known) h = h

role_known : (structs : List TypedStruct) (role : Role) (outputs : ℕ) (record_type : Option ℕ) (f : Object → TypedParameterType × Meant) → ((o : Object) → Stands (f o).1) → (role ≡ no_role → ⊥)
    → KnownParameter (◌>>=◌ (input_or_output structs role outputs record_type) (λ o. Some (f o)))
role_known structs (an_input many s shared) outputs record_type f k n = k (object.Input many record_type s (sharing_of structs shared record_type))
role_known structs (an_output array) outputs record_type f k n = k (object.Output outputs array record_type)
role_known structs no_role outputs record_type f k n = absurd (n refl)

held_known : (c : Context) (b : Before) (of : ObjectType) (record_type : Option ℕ) → (role_of of.word ≡ no_role → ⊥) → KnownParameter (held_parameter c b of record_type)
held_known c b of record_type n = role_known c.structs (role_of of.word) b.outputs record_type (λ o. (typed_parameter.Object of.place of.word record_type, meant.Object o)) (λ o. tt) n

object_known : (c : Context) (b : Before) (of : ObjectType) (h : HeldRecords) → (role_of of.word ≡ no_role → ⊥) → Held h → KnownParameter (object_parameter c b of h)
object_known c b of empty n k = held_known c b of None n
object_known c b of (records number) n k = held_known c b of (Some number) n
object_known c b of unsure_records n k = absurd k

-- ---- parameters

value_known : (number : ℕ) (t : Option TypeTree) → Has t → KnownParameter (◌>>=◌ t (λ of. Some (typed_parameter.Value of, meant.Variable number of false)))
value_known number None h = absurd h
value_known number (Some of) h = tt

parameter_known : (c : Context) (b : Before) (name : Named) (of : ParameterType) → AllStand c.names → Well (parameter_type_sites c b name of) → KnownParameter (parameter_of c b of)
parameter_known c b name (parameter_type.Value of) n h = value_known (length c.variables) (named_type c.names of) (has_type c of n ((well_only h).clear UnknownName))
parameter_known c b name (parameter_type.Object of) n h =
    let object = well_only (well_left (well_right h)) in
    let takes = may_stand c (takes_role c.around b.has_input (role_of of.word)) of _ object in
    let k = held of.record_type (record_number c of) (λ r. has_record c _ of n r (well_left h) object) in
    subst KnownParameter (sym (through_where (takes_role c.around b.has_input (role_of of.word)) of (λ of. object_parameter c b of (holds c of)) takes))
    (object_known c b of (holds c of) (takes_is_role c.around b.has_input (role_of of.word) takes) k)

fine_parameter : (b : Before) (p : Parameter) (c : Context) → Stands (meant_if (parameter_of c b p.of)) → Fine c → Fine (with_parameter b p c)
fine_parameter b p c h f = fine_once p.name c _ f (record { names = stand_push c.names _ f.names h; values = f.values; gives = f.gives; handles = f.handles })

has_parameters : (b : Before) (ps : List Parameter) (c : Context) → Fine c → Well (parameters_sites b ps c) → Declares (Has (parameters_trees b ps c)) (parameters_after b ps c)
has_parameters b [] c f h = record { form = tt; fine = f }
has_parameters b (p ∷ rest) c f h =
    let known = parameter_known c b p.name p.of f.names (well_left (well_right h)) in
    let others = has_parameters (one_more p.of b) rest (with_parameter b p c) (fine_parameter b p c (known_stands (parameter_of c b p.of) known) f) (well_right (well_right (well_right (well_right h)))) in
    record {
      form = has_then (parameter_tree c b p) _ (has_then (parameter_of c b p.of) _ (known_has (parameter_of c b p.of) known) (λ x e. tt)) (λ x e.
          has_then (parameters_trees (one_more p.of b) rest (with_parameter b p c)) _ others.form (λ y g. tt));
      fine = others.fine;
    }

-- ---- what a call of a plain function has to give

type_passed : (c : Context) (b : Before) (name : Named) (of : ParameterType) (d : Option Directed) (known : TypedParameterType × Meant) → c.around ≡ surrounding.Plain → Well (parameter_type_sites c b name of) → parameter_of c b of ≡ Some known → Has (passed_if d known.0)
type_passed c b name (parameter_type.Value of) d known e h q =
    let a = then_some (named_type c.names of) _ known q in
    subst (λ (k : TypedParameterType × Meant). Has (passed_if d k.0)) (some_value a.2) tt
type_passed c b name (parameter_type.Object of) d known e h q =
    absurd (never (subst (λ around. takes_role around b.has_input (role_of of.word) ≡ true) e (may_stand c _ of _ (well_only (well_left (well_right h))))))
  where
    never : false ≡ true → ⊥
    never e = cc

around_once : (b : Bool) (c d : Context) → c.around ≡ surrounding.Plain → d.around ≡ surrounding.Plain → (cond b c d).around ≡ surrounding.Plain
around_once true c d e f = e
around_once false c d e f = f

plain_passed : (b : Before) (ps : List Parameter) (c : Context) (ts : List TypedParameter) → c.around ≡ surrounding.Plain → Well (parameters_sites b ps c) → parameters_trees b ps c ≡ Some ts → Has (passed_of ts)
plain_passed b [] c ts e h q = subst (λ ts. Has (passed_of ts)) (some_value q) tt
plain_passed b (p ∷ rest) c ts e h q =
    let first = then_some (parameter_tree c b p) _ ts q in
    let others = then_some (parameters_trees (one_more p.of b) rest (with_parameter b p c)) _ ts first.2 in
    let typed = then_some (parameter_of c b p.of) _ first.0 first.1 in
    subst (λ ts. Has (passed_of ts)) (some_value others.2)
    (has_then (passed_if first.0.direction first.0.of) _
    (subst (λ (t : TypedParameter). Has (passed_if t.direction t.of)) (some_value typed.2) (type_passed c b p.name p.of p.direction typed.0 e (well_left (well_right h)) typed.1))
    (λ x g. has_then (passed_of others.0) _ (plain_passed (one_more p.of b) rest (with_parameter b p c) others.0 (around_once (is_among (own_names c) p.name.name) c _ e e) (well_right (well_right (well_right (well_right h)))) others.1) (λ y i. tt)))

-- a function stands in no `const`
abbrev NotConst : Around → Type 0
NotConst (surrounding.Entry lanes) = Unit {0}
NotConst surrounding.Plain = Unit {0}
NotConst surrounding.Const = ⊥
NotConst (surrounding.Attribute allowed) = ⊥

passed_has : (around : Around) (ts : List TypedParameter) → NotConst around → (around ≡ surrounding.Plain → Has (passed_of ts)) → Has (passed_in around ts)
passed_has (surrounding.Entry lanes) ts n k = tt
passed_has surrounding.Plain ts n k = k refl
passed_has surrounding.Const ts n k = absurd n
passed_has (surrounding.Attribute allowed) ts n k = absurd n

-- ---- functions

around_known : (b : Bool) (lanes : ℕ) → NotConst (cond b (surrounding.Entry lanes) surrounding.Plain)
around_known true lanes = tt
around_known false lanes = tt

none_allowed : (around : Around) → NotConst around → NoneAllowed around
none_allowed (surrounding.Entry lanes) n = tt
none_allowed surrounding.Plain n = tt
none_allowed surrounding.Const n = absurd n
none_allowed (surrounding.Attribute allowed) n = absurd n

gives_sure : (x : Text) (result : ResultType) → AllStand x.names → Well (result_sites (outside x) result) → IsSure (gives (outside x) result)
gives_sure x (result_type.Void place) n h = tt
gives_sure x (result_type.Value of) n h = sure (named_type x.names of) (has_type (outside x) of n ((well_only h).clear UnknownName))
  where
    sure : (t : Option TypeTree) → Has t → IsSure (gives_if t)
    sure None h = h
    sure (Some t) h = tt

result_has : (g : GivesBack) → IsSure g → Has (result_if g)
result_has gives_back.Nothing s = tt
result_has (gives_back.Value of) s = tt
result_has gives_back.Unsure s = s

named_stand : (x : Text) (name : Named) (parameters : List Parameter) → AllStand x.names → AllStand (named_context x name parameters).names
named_stand x name parameters n = either (is_among (own_names (head_context x parameters)) name.name)
  where
    either : (b : Bool) → AllStand (cond b (head_context x parameters) (declare name meant.Itself (head_context x parameters))).names
    either true = n
    either false = stand_push x.names _ n tt

named_handles : (x : Text) (name : Named) (parameters : List Parameter) → AllHave (named_context x name parameters).handles
named_handles x name parameters = either (is_among (own_names (head_context x parameters)) name.name)
  where
    either : (b : Bool) → AllHave (cond b (head_context x parameters) (declare name meant.Itself (head_context x parameters))).handles
    either true = tt
    either false = tt

parameter_fine : (x : Text) (attributes : List Attribute) (result : ResultType) (name : Named) (parameters : List Parameter) → AllStand x.names → Well (result_sites (outside x) result) → Fine (parameter_context x attributes result name parameters)
parameter_fine x attributes result name parameters n h = record {
  names = named_stand x name parameters n;
  values = none_allowed (around_of (head_context x parameters) attributes) (around_known _ _);
  gives = gives_sure x result n h;
  handles = named_handles x name parameters;
}

body_fine : (c : Context) (parameters : List Parameter) → Fine (parameters_after first_before parameters c) → Fine (body_context c parameters)
body_fine c parameters f = record { names = f.names; values = f.values; gives = f.gives; handles = f.handles }

pub record FunctionKnown (x : Text) (attributes : List Attribute) (result : ResultType) (name : Named) (parameters : List Parameter) (body : List Stmt) (number : ℕ) : Type 0 where
  pub tree : Has (function_tree (head_context x parameters) (parameter_context x attributes result name parameters) attributes name parameters body)
  pub stands : Stands (function_meant number (parameter_context x attributes result name parameters) parameters body)

pub has_function : (x : Text) (attributes : List Attribute) (result : ResultType) (name : Named) (parameters : List Parameter) (body : List Stmt) (number : ℕ) → AllStand x.names → Well (function_sites x attributes result name parameters body) → FunctionKnown x attributes result name parameters body number
has_function x attributes result name parameters body number n h = record {
  tree = has_then (function_head c parameters) _ head_known (λ head g.
      has_then (block_trees (map walked body) (body_context c parameters)) _ stated.form (λ ss i.
      has_then (all_of (block_after (map walked body) (body_context c parameters)).handles) _ (have_all _ stated.fine.handles) (λ hs j. tt)));
  stands = unwrap_stands (function_if number c chain parameters)
      (has_then (function_head c parameters) _ head_known (λ head g.
      has_then (passed_in c.around head.parameters) _ (passed_has c.around head.parameters (around_known _ _) (λ q. plain_passed first_before parameters c head.parameters q (well_left (well_right (well_right (well_right h)))) (head_is c parameters head g))) (λ i j. tt)))
      (then_stands (function_head c parameters) _ (λ head. then_stands (passed_in c.around head.parameters) _ (λ i. tt)));
}
  where
    c : Context
    c = parameter_context x attributes result name parameters

    fine : Fine c
    fine = parameter_fine x attributes result name parameters n (well_left (well_right h))

    listed : Declares (Has (parameters_trees first_before parameters c)) (parameters_after first_before parameters c)
    listed = has_parameters first_before parameters c fine (well_left (well_right (well_right (well_right h))))

    stated : Declares (Has (block_trees (map walked body) (body_context c parameters))) (block_after (map walked body) (body_context c parameters))
    stated = has_body body (body_context c parameters) (body_fine c parameters listed.fine) (well_left (well_right (well_right (well_right (well_right h)))))

    head_known : Has (function_head c parameters)
    head_known = has_then (result_if c.returns) _ (result_has c.returns fine.gives) (λ r e. has_then (parameters_trees first_before parameters c) _ listed.form (λ ps g. tt))

    chain : ℕ
    chain = chain_of (events (body_sites (body_context c parameters) body))
