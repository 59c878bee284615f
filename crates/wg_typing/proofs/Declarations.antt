-- Declarations and handles in which no rule is broken have typed forms, and leave a context that is fine.
use Rattle.std.proofs.Common.{◌≡◌, ℕ, Bool, true, false, not, List, [], ◌∷◌, ◌++◌, Option, Some, None, refl, subst, cond}
use Rattle.std.specs.Prelude.{◌||◌, is_some, ◌&&◌}
use Rattle.wg_words.specs.declared.place.Place.{Place}
use Rattle.wg_words.specs.Maybe.{◌>>=◌}
use Rattle.wg_typing.specs.Maybe.{if_there}
use Rattle.wg_typing.specs.RulesMismatch.{unfit_handle}
use Rattle.wg_typing.specs.RulesOutOfProfile.{is_no_record}
use Rattle.wg_typing.specs.RulesBadOutputCall.{starts, starts_local}
use Rattle.wg_typing.specs.Scope.{Context, named_type, own_names, once}
use Rattle.wg_typing.specs.Sites.{at_if}
use Rattle.wg_typing.specs.Site.{AtObject, AtGoal}
use Rattle.wg_typing.specs.TypingDeclaration.{with_local, declarator_after, declarator_sites, declarator_tree, declarators_after, declarators_sites, declarators_trees, all_declarators, declared_as, declaration_after, declaration_sites, declaration_trees, start_in, start_of, start_there, start_sites_of}
use Rattle.wg_typing.specs.TypingDeclared.{declared_type}
use Rattle.wg_typing.specs.TypingExpr.{part}
use Rattle.wg_typing.specs.TypingHandle.{handle_word, struct_number, record_named, record_number, handle_record, type_there, request_in, handle_request, handle_tree, with_handle, handle_sites, request_stmt, handle_after}
use Rattle.wg_tree.specs.declared.expr.Expr.{Expr}
use Rattle.wg_tree.specs.declared.expr.Named.{Named}
use Rattle.wg_tree.specs.declared.expr.TypeName.{TypeName}
use Rattle.wg_tree.specs.declared.stmt.Declaration.{Declaration}
use Rattle.wg_tree.specs.declared.stmt.Declarator.{Declarator}
use Rattle.wg_tree.specs.declared.stmt.ObjectType.{ObjectType}
use Rattle.wg_typed.specs.declared.types.TypeTree.{TypeTree}
use Rattle.wg_typed.specs.declared.typed.TypedHandle.{TypedHandle}
use Rattle.wg_typing.specs.declared.scope.Act.TheVariants as act
use Rattle.wg_typing.specs.declared.scope.Value.{Value}
use Rattle.wg_typing.specs.declared.scope.Value.TheVariants as value
use Rattle.wg_typing.proofs.Exprs.{has_value}
use Rattle.wg_typing.proofs.Facts.{Empty, Has, and_left, and_right, has_is_none, has_is_some, has_then, has_where, is_false, not_false}
use Rattle.wg_typing.proofs.Layers.{Sound}
use Rattle.wg_typing.proofs.Names.{AllStand, NoneAllowed, has_type, stand_push}
use Rattle.wg_typing.proofs.Sites.{Clear, Well, well_left, well_only, well_right}
use Rattle.wg_typing.proofs.Wanted.{Elemental, elemental, has_declared}
use Rattle.wg_typing.specs.Named.{is_among}
use Rattle.wg_typing.specs.TypingActs.{call_in, called_at, is_sync}
use Rattle.wg_typing.specs.RulesShared.{no_value_at}
use Rattle.wg_typing.specs.Conversions.{fits, same_type, truth_type}
use Rattle.wg_typing.specs.Layers.{typed_at}
use Rattle.wg_typed.specs.declared.typed_expr.TypedExpr.{TypedExpr}
use Rattle.wg_typing.specs.declared.context.GivesBack.{GivesBack}
use Rattle.wg_typing.specs.declared.part.NamedCall.{NamedCall}
use Rattle.wg_typing.specs.declared.context.GivesBack.TheVariants as gives_back
use Rattle.wg_typing.specs.declared.fault.TypingRule.TheVariants.{UnknownName, Mismatch, BadBarrier, BadOutputCall, OutOfProfile}
use Rattle.wg_typing.specs.PartSites.{site_if}
use Rattle.wg_typing.proofs.Parts.{holds}

-- ---- contexts that are fine

abbrev pub IsSure : GivesBack → Type 0
IsSure gives_back.Nothing = Unit {0}
IsSure (gives_back.Value of) = Unit {0}
IsSure gives_back.Unsure = ⊥

abbrev pub AllHave : {A : Type 0} → List (Option A) → Type 0
AllHave [] = Unit {0}
AllHave (a ∷ rest) = Has a × AllHave rest

pub have_push : {A : Type 0} (xs : List (Option A)) (a : Option A) → AllHave xs → Has a → AllHave (xs ++ a ∷ [])
have_push [] a h k = (k, tt)
have_push (x ∷ xs) a h k = (h.0, have_push xs a h.1 k)

-- all names stand, it is known what the function gives back, and all handles have typed forms
pub record Fine (c : Context) : Type 0 where
  pub names : AllStand c.names
  pub values : NoneAllowed c.around
  pub gives : IsSure c.returns
  pub handles : AllHave c.handles

pub sound : (c : Context) → Fine c → Sound c
sound c f = record { names = f.names; values = f.values }

pub fine_once : (name : Named) (c d : Context) → Fine c → Fine d → Fine (once name c d)
fine_once name c d f g = either (is_among (own_names c) name.name)
  where
    either : (b : Bool) → Fine (cond b c d)
    either true = f
    either false = g

-- ---- locals

local_fine : (name : Named) (constant : Bool) (o : Option TypeTree) (v : Option TypedExpr) (c : Context) → Has o → Fine c → Fine (with_local name constant o v c)
local_fine name constant None v c h f = absurd h
local_fine name constant (Some of) v c h f = record { names = stand_push c.names _ f.names tt; values = f.values; gives = f.gives; handles = f.handles }

start_is : (goal : TypeTree) (p : Place) (v : Option Value) (by_name : Option NamedCall) → Has v → Empty (no_value_at p v) → Well (site_if (AtGoal goal) (typed_at p v)) → Empty (called_at (λ k. not (starts_local (Some goal) k)) (call_in v by_name))
    → Empty (called_at is_sync (call_in v by_name)) → Has (start_in goal p v)
start_is goal p None k h n e o s = absurd h
start_is goal p (Some (value.Typed of standing tree)) k h n e o s = has_where (fits of goal) _ (holds (fits of goal) p ((well_only e).clear Mismatch))
start_is goal p (Some (value.Object object element)) k h n e o s = absurd n
start_is goal p (Some (value.Text bytes)) k h n e o s = absurd n
start_is goal p (Some (value.Act name (act.Step x))) k h n e o s = absurd n
start_is goal p (Some (value.Act name (act.Barrier true))) k h n e o s = absurd s
start_is goal p (Some (value.Act name (act.Barrier false))) k h n e o s = absurd n
start_is goal p (Some (value.Act name (act.Request group output number element amount))) k h n e o s = absurd o
start_is goal p (Some (value.Act name (act.Increment group output element amount))) k h n e o s = absurd o
start_is goal p (Some (value.Act name (act.Complete handle))) k h n e o s = absurd o
start_is goal p (Some (value.Act name (act.Finished tracked))) k h n e o s = has_where (tracked && same_type goal truth_type) _ (not_false _ (is_false _ name o))

start_has : (c : Context) (goal : TypeTree) (v : Option Expr) → Sound c → Well (start_sites_of c (Some goal) v) → Has (if_there (start_of c goal) v)
start_has c goal None s h = tt
start_has c goal (Some e) s h =
    let here = well_only (well_left (well_right h)) in
    has_then (start_of c goal e) _ (start_is goal (part c e).place (part c e).value (part c e).by_name (has_value c s e (well_left h))
    (here.clear Mismatch) (well_right (well_right h)) (here.clear BadOutputCall) (here.clear BadBarrier)) (λ t q. tt)

pub record Declares (tree : Type 0) (c : Context) : Type 0 where
  pub form : tree
  pub fine : Fine c

has_declarator : (constant : Bool) (of : Option TypeTree) (d : Declarator) (c : Context) → Elemental of → Fine c → Well (declarator_sites of d c) → Declares (Has (declarator_tree of d c)) (declarator_after constant of d c)
has_declarator constant of d c e f h =
    let t = has_declared c (own_names c) of d.name d.size f.names e (well_left h) in
    record {
      form = has_then (declared_type c of d.size) _ t (λ goal q.
          has_then (if_there (start_of c goal) d.value) _ (start_has c goal d.value (sound c f) (subst (λ x. Well (start_sites_of c x d.value)) q (well_right (well_right h)))) (λ v r. tt));
      fine = fine_once d.name c _ f (local_fine d.name constant (declared_type c of d.size) (start_there c (declared_type c of d.size) d.value) c t f);
    }

has_declarators : (constant : Bool) (of : Option TypeTree) (ds : List Declarator) (c : Context) → Elemental of → Fine c → Well (declarators_sites constant of ds c) → Declares (Has (declarators_trees constant of ds c)) (declarators_after constant of ds c)
has_declarators constant of [] c e f h = record { form = tt; fine = f }
has_declarators constant of (d ∷ rest) c e f h =
    let first = has_declarator constant of d c e f (well_left h) in
    let others = has_declarators constant of rest (declarator_after constant of d c) e first.fine (well_right h) in
    record {
      form = has_then (declarator_tree of d c) _ first.form (λ a q. has_then (declarators_trees constant of rest (declarator_after constant of d c)) _ others.form (λ b r. tt));
      fine = others.fine;
    }

pub has_declaration : (d : Declaration) (c : Context) → Fine c → Well (declaration_sites d c) → Declares (Has (declaration_trees d c)) (declaration_after d c)
has_declaration d c f h = has_declarators (is_some d.constant) (declared_as d c) (all_declarators d) c (elemental c d.of f.names (well_only (well_left h))) f (well_right h)

-- ---- objects with a record type

number_of : (t : Option TypeTree) (p : Place) → Has t → Empty (at_if (is_no_record t) p) → Has (◌>>=◌ t struct_number)
number_of None p h e = absurd h
number_of (Some t) p h e = has_is_none (struct_number t) (is_false _ p e)

either_false : (a b : Bool) (p : Place) → Empty (at_if (not a || b) p) → (a ≡ true) × Empty (at_if b p)
either_false true b p h = (refl, h)
either_false false b p h = absurd h

record_has : (c : Context) (of : Option TypeName) → AllStand c.names → Has of → Well (type_there c of) → Has (◌>>=◌ of (named_type c.names))
record_has c None n h w = absurd h
record_has c (Some of) n h w = has_type c of n ((well_only w).clear UnknownName)

-- an object that may stand, and has a record type, has its number
pub has_record : (c : Context) (allowed : Bool) (of : ObjectType) → AllStand c.names → Has of.record_type → Well (type_there c of.record_type) → Clear (AtObject allowed of (record_named c of)) → Has (record_number c of)
has_record c allowed of n h w k = number_of (record_named c of) of.place (record_has c of.record_type n h w) (either_false allowed _ of.place (k.clear OutOfProfile)).1

pub may_stand : (c : Context) (allowed : Bool) (of : ObjectType) (t : Option TypeTree) → Clear (AtObject allowed of t) → allowed ≡ true
may_stand c allowed of t k = (either_false allowed _ of.place (k.clear OutOfProfile)).0

-- ---- handles

request_has : (c : Context) (group : Option Bool) (number : Option ℕ) (p : Place) (v : Option Value) (by_name : Option NamedCall) → Has group → Has number → Has v → Empty (unfit_handle group number p v) → Empty (called_at (λ k. not (starts k)) (call_in v by_name)) → Empty (called_at is_sync (call_in v by_name))
    → Has (request_in group number v)
request_has c None number p v k g n h e o s = absurd g
request_has c (Some group) None p v k g n h e o s = absurd n
request_has c (Some group) (Some number) p None k g n h e o s = absurd h
request_has c (Some group) (Some number) p (Some (value.Typed of standing tree)) k g n h e o s = absurd e
request_has c (Some group) (Some number) p (Some (value.Object object element)) k g n h e o s = absurd e
request_has c (Some group) (Some number) p (Some (value.Text bytes)) k g n h e o s = absurd e
request_has c (Some group) (Some number) p (Some (value.Act name (act.Step x))) k g n h e o s = absurd e
request_has c (Some group) (Some number) p (Some (value.Act name (act.Barrier true))) k g n h e o s = absurd s
request_has c (Some group) (Some number) p (Some (value.Act name (act.Barrier false))) k g n h e o s = absurd e
request_has c (Some group) (Some number) p (Some (value.Act name (act.Request of_group output record_type element amount))) k g n h e o s =
    has_is_none (request_in (Some group) (Some number) (Some (value.Act name (act.Request of_group output record_type element amount)))) (is_false _ p e)
request_has c (Some group) (Some number) p (Some (value.Act name (act.Increment of_group output element amount))) k g n h e o s = absurd o
request_has c (Some group) (Some number) p (Some (value.Act name (act.Complete handle))) k g n h e o s = absurd o
request_has c (Some group) (Some number) p (Some (value.Act name (act.Finished tracked))) k g n h e o s = absurd o

handle_fine : (name : Named) (number : Option ℕ) (handle : Option TypedHandle) (c : Context) → Has number → Has handle → Fine c → Fine (with_handle name number handle c)
handle_fine name None handle c h k f = absurd h
handle_fine name (Some number) handle c h k f = record { names = stand_push c.names _ f.names tt; values = f.values; gives = f.gives; handles = have_push c.handles handle f.handles k }

pub has_handle : (of : ObjectType) (name : Named) (e : Expr) (c : Context) → Fine c → Well (handle_sites of name e c)
    → Declares (Has (◌>>=◌ (handle_request c of e) (λ r. Some (request_stmt c r)))) (handle_after of name e c)
has_handle of name e c f h =
    let objects = well_left (well_right h) in
    let object = well_only (well_left (well_right objects)) in
    let here = well_only (well_right (well_right (well_right h))) in
    let allowed = may_stand c _ of (record_named c of) object in
    let group = has_is_some (handle_word of.word) (and_left (is_some (handle_word of.word)) _ allowed) in
    let number = has_then (handle_word of.word) _ group (λ g q. has_record c _ of f.names (has_is_some of.record_type (and_right (is_some (handle_word of.word)) _ allowed)) (well_left objects) object) in
    let request = request_has c (handle_word of.word) (handle_record c of) (part c e).place (part c e).value (part c e).by_name group number (has_value c (sound c f) e (well_left h)) (here.clear Mismatch) (here.clear BadOutputCall) (here.clear BadBarrier) in
    record {
      form = has_then (handle_request c of e) _ request (λ r q. tt);
      fine = fine_once name c _ f (handle_fine name (handle_record c of) (handle_tree name (handle_request c of e)) c number (has_then (handle_request c of e) _ request (λ r q. tt)) f);
    }
