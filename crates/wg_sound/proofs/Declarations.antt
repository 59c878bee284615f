-- Declarations of locals are sound.
use Rattle.std.proofs.Common.{◌≡◌, Bool, true, false, List, [], ◌∷◌, ◌++◌, map, length, Option, Some, None, refl, sym, ap, ◌∙◌, subst}
use Rattle.std.specs.Prelude.{◌&&◌, slice_get, is_some}
use Rattle.wg_words.specs.declared.place.Place.{Place}
use Rattle.wg_typed.specs.Uniform.{is_finished}
use Rattle.wg_typing.specs.Conversions.{same_type, truth_type}
use Rattle.wg_typing.specs.Layers.{typed_at, convert, tree_of}
use Rattle.wg_typing.specs.Maybe.{listed, if_there}
use Rattle.wg_typing.specs.Named.{is_among}
use Rattle.wg_typing.specs.Scope.{Context, own_names, enter, enter_loop, leave, named_type}
use Rattle.wg_typing.specs.TypingDeclaration.{local_form, start_in, start_of, start_there, with_local, declarator_after, declarator_sites, declarator_tree, declarators_after, declarators_sites, declarators_trees, all_declarators, declared_as, declaration_after, declaration_sites}
use Rattle.wg_typing.specs.TypingDeclared.{declared_type, fit_in}
use Rattle.wg_typing.specs.TypingExpr.{part}
use Rattle.wg_typing.specs.TypingFunction.{result_if}
use Rattle.wg_facts.specs.Tests.{if_any, every}
use Rattle.wg_sound.specs.StandingTypes.{stands_in}
use Rattle.wg_sound.specs.Room.{Room, has_variable}
use Rattle.wg_sound.specs.Sound.{handle_stands}
use Rattle.wg_sound.specs.SoundStep.{sound_of, starts, declares}
use Rattle.wg_tree.specs.declared.expr.Expr.{Expr}
use Rattle.wg_tree.specs.declared.expr.Named.{Named}
use Rattle.wg_tree.specs.declared.expr.TypeName.{TypeName}
use Rattle.wg_tree.specs.declared.stmt.Declaration.{Declaration}
use Rattle.wg_tree.specs.declared.stmt.Declarator.{Declarator}
use Rattle.wg_typed.specs.declared.types.TypeTree.{TypeTree}
use Rattle.wg_typed.specs.declared.typed.TypedStruct.{TypedStruct}
use Rattle.wg_typed.specs.declared.typed_expr.TypedExpr.{TypedExpr}
use Rattle.wg_typed.specs.declared.typed_expr.TypedKind.TheVariants as tree
use Rattle.wg_typed.specs.declared.typed_stmt.TypedDeclarator.{TypedDeclarator}
use Rattle.wg_typing.specs.declared.scope.Act.TheVariants as act
use Rattle.wg_typing.specs.declared.scope.Declared.{Declared}
use Rattle.wg_typing.specs.declared.scope.Meant.{Meant}
use Rattle.wg_typing.specs.declared.scope.Meant.TheVariants as meant
use Rattle.wg_typing.specs.declared.scope.Value.{Value}
use Rattle.wg_typing.specs.declared.scope.Value.TheVariants as value
use Rattle.wg_facts.proofs.Basics.{and_then, If, and_left, and_right, both, or_left, or_right, if_then, if_was, if_where, every_more}
use Rattle.wg_sound.proofs.Layered.{Is, is_typed}
use Rattle.wg_sound.proofs.Meanings.{ValueIs, Agrees, AllAgree, agree_push, fit_is}
use Rattle.wg_sound.proofs.Growing.{Grows, grows_self, grows_then, once_grows, once_new, Ends, ends_before, local_there}
use Rattle.wg_facts.proofs.Sited.{Well, well_left, well_right, well_only, is_false}
use Rattle.wg_sound.proofs.Sizes.{StructBelow, TypesStand, types_push, TypeStands, named_stands, declared_stands}
use Rattle.wg_sound.proofs.Whole.{Fits, part_is}
use Rattle.wg_typing.specs.declared.context.VariableForm.{VariableForm}
use Rattle.wg_typing.specs.declared.fault.TypingRule.TheVariants.{Repeated}

local_grows : (name : Named) (constant : Bool) (o : Option TypeTree) (v : Option TypedExpr) (c : Context) → Grows c (with_local name constant o v c)
local_grows name constant o v c = record { variables = (map (local_form constant v) (listed o), refl); handles = (grows_self c).handles; structs = refl }

module _ (room : Room) where
  pub record Stands (c : Context) : Type 0 where
    pub fits : Fits room c
    pub gives : result_if c.returns ≡ Some room.function.result
    pub variables : every (λ (l : VariableForm). stands_in room.text.structs l.of) c.variables ≡ true
    pub handles : every (if_any (handle_stands room)) c.handles ≡ true

  pub stands_enter : (c : Context) → Stands c → Stands (enter c)
  stands_enter c s = record { fits = record { names = s.fits.names; structs = s.fits.structs; types = s.fits.types; around = s.fits.around }; gives = s.gives; variables = s.variables; handles = s.handles }

  pub stands_loop : (c : Context) → Stands c → Stands (enter_loop c)
  stands_loop c s = record { fits = record { names = s.fits.names; structs = s.fits.structs; types = s.fits.types; around = s.fits.around }; gives = s.gives; variables = s.variables; handles = s.handles }

  pub stands_leave : (outer inner : Context) → Stands outer → Stands inner → Stands (leave outer inner)
  stands_leave outer inner s i = record { fits = record { names = s.fits.names; structs = s.fits.structs; types = s.fits.types; around = s.fits.around }; gives = s.gives; variables = i.variables; handles = i.handles }

  -- a context with one name more
  pub fits_more : (c : Context) (d : Context) (name : Named) (m : Meant) → Fits room c → d.names ≡ c.names ++ record { name = name; meant = m } ∷ [] → d.structs ≡ c.structs → d.around ≡ c.around → Agrees room m → StructBelow (length c.structs) m → Fits room d
  fits_more c d name m f e x a h k = record {
    names = subst (AllAgree room) (sym e) (agree_push room c.names (record { name = name; meant = m }) f.names h);
    structs = λ n s q. f.structs n s (ap (λ (xs : List TypedStruct). slice_get xs n) (sym x) ∙ q);
    types = subst (λ (xs : List TypedStruct). TypesStand room.text.structs xs d.names) (sym x) (subst (λ (ns : List Declared). TypesStand room.text.structs c.structs ns) (sym e) (types_push room.text.structs c.structs c.names (record { name = name; meant = m }) f.types k));
    around = a ∙ f.around;
  }

  pub named_type_stands : (c : Context) → Fits room c → (of : TypeName) → If (TypeStands room.text.structs c.structs) (named_type c.names of)
  named_type_stands c f of = named_stands room.text.structs c.structs c.names f.types of

  -- ---- locals

  only_stands : (structs : List TypedStruct) (o : Option TypeTree) → If (TypeStands room.text.structs structs) o → If (λ t. stands_in room.text.structs t ≡ true) o
  only_stands structs None h = tt
  only_stands structs (Some t) h = h.stands

  new_local : (name : Named) (constant : Bool) (of : TypeTree) (v : Option TypedExpr) (c : Context) → Ends room (with_local name constant (Some of) v c) → has_variable room (length c.variables) of ≡ true
  new_local name constant of v c h = local_there room c.variables [] (local_form constant v of) h.variables

  local_keeps : (name : Named) (constant : Bool) (o : Option TypeTree) (v : Option TypedExpr) (c : Context) → If (λ t. stands_in room.text.structs t ≡ true) o → Stands c → Ends room (with_local name constant o v c) → Stands (with_local name constant o v c)
  local_keeps name constant None v c b s h = record { fits = fits_more c (with_local name constant None v c) name meant.Broken s.fits refl refl refl tt tt; gives = s.gives; variables = every_more (λ (l : VariableForm). stands_in room.text.structs l.of) c.variables [] s.variables refl; handles = s.handles }
  local_keeps name constant (Some of) v c b s h = record {
    fits = fits_more c (with_local name constant (Some of) v c) name (meant.Variable (length c.variables) of constant) s.fits refl refl refl (new_local name constant of v c h) tt;
    gives = s.gives;
    variables = every_more (λ (l : VariableForm). stands_in room.text.structs l.of) c.variables (local_form constant v of ∷ []) s.variables (both b refl);
    handles = s.handles;
  }

  -- ---- start values

  typed_if : (goal : TypeTree) (o : Option TypedExpr) → If (Is room goal) o → If (λ e. sound_of room goal e ≡ true) o
  typed_if goal None h = tt
  typed_if goal (Some e) h = is_typed room goal e h

  pub fit_in_is : (c : Context) (goal : TypeTree) (e : Expr) → Fits room c → If (λ x. sound_of room goal x ≡ true) (fit_in c goal e)
  fit_in_is c goal e f = typed_if goal (fit_in c goal e) (fit_is room goal (part c e) (part_is room c f e))

  pub maybe_fit_is : (c : Context) (goal : TypeTree) (e : Option Expr) → Fits room c → If (λ x. if_any (sound_of room goal) x ≡ true) (if_there (fit_in c goal) e)
  maybe_fit_is c goal None f = refl
  maybe_fit_is c goal (Some e) f = if_then (λ x. sound_of room goal x ≡ true) (λ x. if_any (sound_of room goal) x ≡ true) (fit_in c goal e) _ (fit_in_is c goal e f) (λ x h. h)

  abbrev StartsAs : TypeTree → TypedExpr → Type 0
  StartsAs goal e = starts room goal e ≡ true

  converted_is : (goal : TypeTree) (place : Place) (v : Option Value) → If (ValueIs room) v → If (StartsAs goal) (and_then (typed_at place v) (convert goal))
  converted_is goal place v h = starting (and_then (typed_at place v) (convert goal)) (fit_is room goal (record { place = place; value = v; by_name = None; pieces = [] }) h)
    where
      starting : (o : Option TypedExpr) → If (Is room goal) o → If (StartsAs goal) o
      starting None k = tt
      starting (Some e) k = or_left (sound_of room goal e) _ (is_typed room goal e k)

  start_in_is : (goal : TypeTree) (place : Place) (v : Option Value) → If (ValueIs room) v → If (StartsAs goal) (start_in goal place v)
  start_in_is goal place (Some (value.Act name (act.Finished tracked))) h = if_where (StartsAs goal) (tracked && same_type goal truth_type) (tree_of place goal tree.Finished) (λ b.
      let g = and_right tracked _ b in
      or_right (sound_of room goal (tree_of place goal tree.Finished)) _ (both (told place goal) (both g (both g (h (and_left tracked _ b))))))
    where
      told : (place : Place) (t : TypeTree) → is_finished (tree_of place t tree.Finished).kind ≡ true
      told place t = refl
  start_in_is goal place v h = converted_is goal place v h

  -- ---- declarators

  abbrev DeclaredIs : TypedDeclarator → Type 0
  DeclaredIs d = declares room d ≡ true

  abbrev pub DeclaratorsAre : List TypedDeclarator → Type 0
  DeclaratorsAre ds = every (declares room) ds ≡ true

  maybe_start_is : (c : Context) (goal : TypeTree) (e : Option Expr) → Fits room c → If (λ x. if_any (starts room goal) x ≡ true) (if_there (start_of c goal) e)
  maybe_start_is c goal None f = refl
  maybe_start_is c goal (Some e) f = if_then (StartsAs goal) (λ x. if_any (starts room goal) x ≡ true) (start_of c goal e) _ (start_in_is goal (part c e).place (part c e).value (part_is room c f e)) (λ x h. h)

  -- a name that is new in its scope
  new_name : (of : Option TypeTree) (d : Declarator) (c : Context) → Well (declarator_sites of d c) → is_among (own_names c) d.name.name ≡ false
  new_name of d c w = is_false (is_among (own_names c) d.name.name) d.name.place (well_only (well_right (well_right (well_left w))) Repeated)

  abbrev next : Bool → Option TypeTree → Declarator → Context → Context
  next constant of d c = with_local d.name constant (declared_type c of d.size) (start_there c (declared_type c of d.size) d.value) c

  declarator_is : (constant : Bool) (of : Option TypeTree) (d : Declarator) (c : Context) → Stands c → Ends room (next constant of d c) → If DeclaredIs (declarator_tree of d c)
  declarator_is constant of d c s h = if_was DeclaredIs (declared_type c of d.size) _ (λ local e.
      if_then (λ x. if_any (starts room local) x ≡ true) DeclaredIs (if_there (start_of c local) d.value) _ (maybe_start_is c local d.value s.fits) (λ v k.
      both (new_local d.name constant local (start_there c (Some local) d.value) c (subst (λ o. Ends room (with_local d.name constant o (start_there c o d.value) c)) e h)) k))

  pub declarator_grows : (constant : Bool) (of : Option TypeTree) (d : Declarator) (c : Context) → Grows c (declarator_after constant of d c)
  declarator_grows constant of d c = once_grows d.name c (next constant of d c) (local_grows d.name constant (declared_type c of d.size) (start_there c (declared_type c of d.size) d.value) c)

  pub declarators_grow : (constant : Bool) (of : Option TypeTree) (ds : List Declarator) (c : Context) → Grows c (declarators_after constant of ds c)
  declarators_grow constant of [] c = grows_self c
  declarators_grow constant of (d ∷ rest) c = grows_then c (declarator_after constant of d c) _ (declarator_grows constant of d c) (declarators_grow constant of rest (declarator_after constant of d c))

  -- the context fits before each declarator
  abbrev pub FitsAlong : Bool → Option TypeTree → List Declarator → Context → Type 0
  FitsAlong constant of [] c = Unit {0}
  FitsAlong constant of (d ∷ rest) c = Fits room c × FitsAlong constant of rest (declarator_after constant of d c)

  pub record Declares (constant : Bool) (of : Option TypeTree) (ds : List Declarator) (c : Context) : Type 0 where
    pub keeps : Stands (declarators_after constant of ds c)
    pub sound : If DeclaratorsAre (declarators_trees constant of ds c)
    pub along : FitsAlong constant of ds c

  declarators_are : (constant : Bool) (of : Option TypeTree) (ds : List Declarator) (c : Context) → If (TypeStands room.text.structs c.structs) of → Stands c → Ends room (declarators_after constant of ds c) → Well (declarators_sites constant of ds c) → Declares constant of ds c
  declarators_are constant of [] c b s h w = record { keeps = s; sound = refl; along = tt }
  declarators_are constant of (d ∷ rest) c b s h w =
      let after = declarator_after constant of d c in
      let e : after ≡ next constant of d c = once_new d.name c (next constant of d c) (new_name of d c (well_left w)) in
      let here : Ends room (next constant of d c) = subst (Ends room) e (ends_before room after (declarators_after constant of rest after) (declarators_grow constant of rest after) h) in
      let stands : Stands after = subst Stands (sym e) (local_keeps d.name constant (declared_type c of d.size) (start_there c (declared_type c of d.size) d.value) c (only_stands c.structs (declared_type c of d.size) (declared_stands room.text.structs c.structs c.names s.fits.types c refl of d.size b)) s here) in
      let r = declarators_are constant of rest after (subst (λ (xs : List TypedStruct). If (TypeStands room.text.structs xs) of) (sym (declarator_grows constant of d c).structs) b) stands h (well_right w) in
      record {
        keeps = r.keeps;
        sound = if_then DeclaredIs DeclaratorsAre (declarator_tree of d c) _ (declarator_is constant of d c s here) (λ x k. if_then DeclaratorsAre DeclaratorsAre (declarators_trees constant of rest after) _ r.sound (λ xs l. both k l));
        along = (s.fits, r.along);
      }

  pub declaration_are : (d : Declaration) (c : Context) → Stands c → Ends room (declaration_after d c) → Well (declaration_sites d c) → Declares (is_some d.constant) (declared_as d c) (all_declarators d) c
  declaration_are d c s h w = declarators_are (is_some d.constant) (declared_as d c) (all_declarators d) c (named_type_stands c s.fits d.of) s h (well_right w)
