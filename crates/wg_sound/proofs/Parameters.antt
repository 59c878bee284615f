-- Parameters are sound, and the names of a function's parameters stand for them.
use Rattle.std.proofs.Common.{◌≡◌, ℕ, suc, Bool, true, false, cond, List, [], ◌∷◌, ◌++◌, length, Option, Some, None, refl, sym, ap, ◌∙◌, subst}
use Rattle.std.specs.Prelude.{nat_lt, ◌&&◌, ◌||◌, slice_get}
use Rattle.wg_words.specs.Maybe.{◌>>=◌}
use Rattle.wg_typing.specs.Maybe.{where_true}
use Rattle.wg_typing.specs.Named.{is_among}
use Rattle.wg_typing.specs.Scope.{Context, declare, own_names, named_type}
use Rattle.wg_typing.specs.TypingObjects.{is_tracked}
use Rattle.wg_typing.specs.TypingParameter.{output_limit, output_site, Role, an_input, an_output, no_role, role_of, Before, is_input, is_output, role_in, one_more, takes_role, HeldRecords, empty, records, unsure_records, holds, is_marked, sharing_of, input_or_output, held_parameter, object_parameter, parameter_of, meant_if, parameter_variable, with_parameter, parameters_after, parameters_sites, parameter_tree, parameters_trees}
use Rattle.wg_facts.specs.Tests.{test, every}
use Rattle.wg_sound.specs.StandingTypes.{stands_in}
use Rattle.wg_sound.specs.Room.{Room, Output, Input, output_if, input_if, output_of, outputs_of, input_of_type, input_of, tells_last}
use Rattle.wg_tree.specs.declared.item.Parameter.{Parameter}
use Rattle.wg_tree.specs.declared.item.ParameterType.{ParameterType}
use Rattle.wg_tree.specs.declared.item.ParameterType.TheVariants as parameter_type
use Rattle.wg_tree.specs.declared.stmt.ObjectType.{ObjectType}
use Rattle.wg_typed.specs.declared.typed.TypedParameter.{TypedParameter}
use Rattle.wg_typed.specs.declared.typed.TypedParameterType.{TypedParameterType}
use Rattle.wg_typed.specs.declared.typed.TypedParameterType.TheVariants as parameter
use Rattle.wg_typed.specs.declared.typed.TypedStruct.{TypedStruct}
use Rattle.wg_typing.specs.declared.context.Around.{Around}
use Rattle.wg_typing.specs.declared.context.Around.TheVariants as surrounding
use Rattle.wg_typing.specs.declared.context.VariableForm.{VariableForm}
use Rattle.wg_typing.specs.declared.fault.TypingRule.TheVariants.{LimitPassed, Repeated}
use Rattle.wg_typing.specs.Sites.{only, nowhere}
use Rattle.wg_typing.specs.Site.{AtLimit}
use Rattle.wg_tree.specs.declared.expr.Named.{Named}
use Rattle.wg_typing.specs.declared.scope.Meant.{Meant}
use Rattle.wg_typing.specs.declared.scope.Meant.TheVariants as meant
use Rattle.wg_typing.specs.declared.scope.Sharing.TheVariants as sharing
use Rattle.wg_typing.specs.declared.scope.Standing.{Standing}
use Rattle.wg_facts.proofs.Basics.{If, both, some_value, if_was, if_so, then_some, where_so, every_more}
use Rattle.wg_sound.proofs.Meanings.{Agrees}
use Rattle.wg_facts.proofs.Lists.{nothing_more, joined, at_end}
use Rattle.wg_sound.specs.Sound.{value_type, value_types}
use Rattle.wg_sound.proofs.Accessed.{Later}
use Rattle.wg_sound.proofs.Declarations.{Stands, fits_more, named_type_stands}
use Rattle.wg_sound.proofs.Growing.{form_types, forms_joined, Grows, grows_self, grows_then, once_grows, once_new, Ends, ends_before, local_there}
use Rattle.wg_facts.proofs.Sited.{Well, well_left, well_right, well_only, is_false}
use Rattle.wg_sound.proofs.Sizes.{StructBelow, TypeStands}
use Rattle.wg_sound.proofs.Whole.{Fits}

-- ---- the objects of parameters

outputs_joined : (xs ys : List TypedParameter) → outputs_of (xs ++ ys) ≡ outputs_of xs ++ outputs_of ys
outputs_joined [] ys = refl
outputs_joined (x ∷ xs) ys = ap (λ os. output_of x.of ++ os) (outputs_joined xs ys) ∙ sym (joined (output_of x.of) (outputs_of xs) (outputs_of ys))

record NoInput (of : TypedParameterType) (r s : Option Input) : Type 0 where
  rest : r ≡ None
  passes : input_of_type of s ≡ s

no_input : (of : TypedParameterType) (r s : Option Input) → input_of_type of r ≡ None → NoInput of r s
no_input (parameter.Value of) r s e = record { rest = e; passes = refl }
no_input (parameter.Object place word number) r s e = by_role (role_of word) refl e
  where
    by_role : (role : Role) → role_of word ≡ role → input_if role number r ≡ None → NoInput (parameter.Object place word number) r s
    by_role (an_input many x shared) q e = absurd (cc)
    by_role (an_output array) q e = record { rest = e; passes = ap (λ z. input_if z number s) q }
    by_role no_role q e = record { rest = e; passes = ap (λ z. input_if z number s) q }

input_past : (xs ys : List TypedParameter) → input_of xs ≡ None → input_of (xs ++ ys) ≡ input_of ys
input_past [] ys e = refl
input_past (x ∷ xs) ys e =
    let n = no_input x.of (input_of xs) (input_of ys) e in
    ap (input_of_type x.of) (input_past xs ys n.rest) ∙ n.passes

length_one : {A : Type 0} (xs : List A) (x : A) → length (xs ++ x ∷ []) ≡ suc (length xs)
length_one [] x = refl
length_one (y ∷ xs) x = ap suc (length_one xs x)

or_none : (a b : Bool) → (a || b) ≡ false → (a ≡ false) × (b ≡ false)
or_none true b e = absurd (cc)
or_none false b e = (refl, e)

-- ---- what is before a parameter

pub record BeforeIs (b : Before) (done : List TypedParameter) : Type 0 where
  pub input : b.has_input ≡ false → input_of done ≡ None
  pub outputs : b.outputs ≡ length (outputs_of done)

-- the roles of a parameter and of its typed form are one
record SameRole (of : ParameterType) (x : TypedParameterType) : Type 0 where
  input : is_input (role_in of) ≡ false → input_of_type x None ≡ None
  outputs : (n : ℕ) (os : List Output) → n ≡ length os → cond (is_output (role_in of)) (suc n) n ≡ length (os ++ output_of x)

object_role : (of : ObjectType) (number : Option ℕ) → SameRole (parameter_type.Object of) (parameter.Object of.place of.word number)
object_role of number = by_role (role_of of.word) refl
  where
    by_role : (role : Role) → role_of of.word ≡ role → SameRole (parameter_type.Object of) (parameter.Object of.place of.word number)
    by_role (an_input many s shared) q = record {
      input = λ e. absurd (true_false (ap is_input (sym q) ∙ e));
      outputs = λ n os e. subst (λ r. cond (is_output r) (suc n) n ≡ length (os ++ output_if r number)) (sym q) (e ∙ ap length (nothing_more os));
    }
      where
        true_false : true ≡ false → ⊥
        true_false e = cc
    by_role (an_output array) q = record {
      input = λ e. subst (λ r. input_if r number None ≡ None) (sym q) refl;
      outputs = λ n os e. subst (λ r. cond (is_output r) (suc n) n ≡ length (os ++ output_if r number)) (sym q) (ap suc e ∙ sym (length_one os (record { array = array; record_type = number })));
    }
    by_role no_role q = record {
      input = λ e. subst (λ r. input_if r number None ≡ None) (sym q) refl;
      outputs = λ n os e. subst (λ r. cond (is_output r) (suc n) n ≡ length (os ++ output_if r number)) (sym q) (e ∙ ap length (nothing_more os));
    }

abbrev Known : Type 0
Known = TypedParameterType × Meant

held_same : (c : Context) (b : Before) (of : ObjectType) (number : Option ℕ) → If (λ (k : Known). SameRole (parameter_type.Object of) k.0) (held_parameter c b of number)
held_same c b of number = if_was (λ (k : Known). SameRole (parameter_type.Object of) k.0) (input_or_output c.structs (role_of of.word) b.outputs number) _ (λ o e. object_role of number)

object_same : (c : Context) (b : Before) (of : ObjectType) (h : HeldRecords) → If (λ (k : Known). SameRole (parameter_type.Object of) k.0) (object_parameter c b of h)
object_same c b of empty = held_same c b of None
object_same c b of (records number) = held_same c b of (Some number)
object_same c b of unsure_records = tt

same_role : (c : Context) (b : Before) (of : ParameterType) → If (λ (k : Known). SameRole of k.0) (parameter_of c b of)
same_role c b (parameter_type.Value of) = if_was (λ (k : Known). SameRole (parameter_type.Value of) k.0) (named_type c.names of) _ (λ t e. record { input = λ e. refl; outputs = λ n os e. e ∙ ap length (nothing_more os) })
same_role c b (parameter_type.Object of) = if_was (λ (k : Known). SameRole (parameter_type.Object of) k.0) (where_true (takes_role c.around b.has_input (role_of of.word)) of) _ (λ o e.
    let w = where_so (takes_role c.around b.has_input (role_of of.word)) of o e in
    subst (λ (y : ObjectType). If (λ (k : Known). SameRole (parameter_type.Object of) k.0) (object_parameter c b y (holds c y))) w.1 (object_same c b of (holds c of)))

before_next : (b : Before) (done : List TypedParameter) (of : ParameterType) (p : TypedParameter) → SameRole of p.of → BeforeIs b done → BeforeIs (one_more of b) (done ++ p ∷ [])
before_next b done of p r h = record {
  input = λ e. let n = or_none b.has_input _ e in input_past done (p ∷ []) (h.input n.0) ∙ r.input n.1;
  outputs = r.outputs b.outputs (outputs_of done) h.outputs ∙ ap length (ap (λ os. outputs_of done ++ os) (nothing_more (output_of p.of)) ∙ sym (outputs_joined done (p ∷ [])));
}

-- an input that is tracked tells its last group
tracked_tells : (xs ys : List TypedStruct) → Later xs ys → (shared : Bool) (r : Option ℕ) → is_tracked (sharing_of xs shared r) ≡ true → (shared && is_marked (r >>= slice_get ys)) ≡ true
tracked_tells xs ys later false r e = absurd (cc)
tracked_tells xs ys later true None e = absurd (cc)
tracked_tells xs ys later true (Some n) e = by_mark (slice_get xs n) refl e
  where
    by_truth : (b : Bool) → is_tracked (cond b sharing.Tracked sharing.Shared) ≡ true → b ≡ true
    by_truth true e = refl
    by_truth false e = absurd (cc)

    by_mark : (o : Option TypedStruct) → slice_get xs n ≡ o → is_tracked (cond (is_marked o) sharing.Tracked sharing.Shared) ≡ true → is_marked (slice_get ys n) ≡ true
    by_mark None q e = absurd (cc)
    by_mark (Some s) q e = ap is_marked (later n s q) ∙ by_truth (is_marked (Some s)) e

takes_input : (a : Around) (h : Bool) (many : Bool) (s : Standing) (shared : Bool) → takes_role a h (an_input many s shared) ≡ true → h ≡ false
takes_input (surrounding.Entry lanes) true many s shared e = absurd (cc)
takes_input (surrounding.Entry lanes) false many s shared e = refl
takes_input surrounding.Plain h many s shared e = absurd (cc)
takes_input surrounding.Const h many s shared e = absurd (cc)
takes_input (surrounding.Attribute allowed) h many s shared e = absurd (cc)

-- a context after a parameter of this type and meaning
abbrev after_known : Context → Parameter → Option Known → Context
after_known c p o = record (declare p.name (meant_if o) c) { variables = c.variables ++ parameter_variable c.around p o }

module _ (room : Room) where
  -- ---- what parameters stand for

  -- what a parameter between these others means
  abbrev Means : List TypedParameter → List TypedParameter → Known → Type 0
  Means done others known = (x : TypedParameter) → x.of ≡ known.0 → room.function.parameters ≡ done ++ x ∷ others → Agrees room known.1

  held_means : (c : Context) (b : Before) (of : ObjectType) (number : Option ℕ) (done others : List TypedParameter) → Fits room c → BeforeIs b done → takes_role c.around b.has_input (role_of of.word) ≡ true → If (Means done others) (held_parameter c b of number)
  held_means c b of number done others f h k = by_role (role_of of.word) refl k
    where
      or_nothing : (a : Bool) → a ≡ (a || false)
      or_nothing true = refl
      or_nothing false = refl

      by_role : (role : Role) → role_of of.word ≡ role → takes_role c.around b.has_input role ≡ true → If (Means done others) (input_or_output c.structs role b.outputs number >>= (λ o. Some (parameter.Object of.place of.word number, meant.Object o)))
      by_role (an_input many s shared) e k = λ x q all.
          let at = ap input_of all ∙ input_past done (x ∷ others) (h.input (takes_input c.around b.has_input many s shared k)) ∙ ap (λ y. input_of_type y (input_of others)) q ∙ ap (λ r. input_if r number (input_of others)) e in
          record { shared = shared; at = at; tells = λ d. ap (test (tells_last room)) at ∙ tracked_tells c.structs room.text.structs f.structs shared number d }
      by_role (an_output array) e k = λ x q all. record {
        at = ap (λ ps. slice_get (outputs_of ps) b.outputs) all ∙ ap (λ os. slice_get os b.outputs) (outputs_joined done (x ∷ others)) ∙ ap (slice_get (outputs_of done ++ (output_of x.of ++ outputs_of others))) h.outputs
            ∙ ap (λ y. slice_get (outputs_of done ++ (output_of y ++ outputs_of others)) (length (outputs_of done))) q ∙ ap (λ r. slice_get (outputs_of done ++ (output_if r number ++ outputs_of others)) (length (outputs_of done))) e
            ∙ at_end (outputs_of done) (record { array = array; record_type = number }) (outputs_of others) ∙ ap (λ a. Some (record { array = a; record_type = number })) (or_nothing array);
        index = tt;
      }
      by_role no_role e k = tt

  object_means : (c : Context) (b : Before) (of : ObjectType) (held : HeldRecords) (done others : List TypedParameter) → Fits room c → BeforeIs b done → takes_role c.around b.has_input (role_of of.word) ≡ true → If (Means done others) (object_parameter c b of held)
  object_means c b of empty done others f h k = held_means c b of None done others f h k
  object_means c b of (records number) done others f h k = held_means c b of (Some number) done others f h k
  object_means c b of unsure_records done others f h k = tt

  -- an object is no variable, and is named as one
  record IsObject (known : Known) : Type 0 where
    place : (around : Around) (p : Parameter) → parameter_variable around p (Some known) ≡ []
    below : (n : ℕ) → StructBelow n known.1

  held_object : (c : Context) (b : Before) (of : ObjectType) (number : Option ℕ) → If IsObject (held_parameter c b of number)
  held_object c b of number = if_was IsObject (input_or_output c.structs (role_of of.word) b.outputs number) _ (λ o e. record { place = λ around p. refl; below = λ n. tt })

  is_object : (c : Context) (b : Before) (of : ObjectType) (held : HeldRecords) → If IsObject (object_parameter c b of held)
  is_object c b of empty = held_object c b of None
  is_object c b of (records number) = held_object c b of (Some number)
  is_object c b of unsure_records = tt

  -- ---- one parameter

  abbrev types_stand : List VariableForm → Type 0
  types_stand vs = every (λ (v : VariableForm). stands_in room.text.structs v.of) vs ≡ true

  known_keeps : (c : Context) (p : Parameter) (known : Known) → Stands room c → Agrees room known.1 → StructBelow (length c.structs) known.1 → types_stand (parameter_variable c.around p (Some known)) → Stands room (after_known c p (Some known))
  known_keeps c p known s h k v = record {
    fits = fits_more room c (after_known c p (Some known)) p.name known.1 s.fits refl refl refl h k;
    gives = s.gives;
    variables = every_more (λ (v : VariableForm). stands_in room.text.structs v.of) c.variables (parameter_variable c.around p (Some known)) s.variables v;
    handles = s.handles;
  }

  parameter_keeps : (c : Context) (b : Before) (p : Parameter) (of : ParameterType) (known : Known) (done others : List TypedParameter) (x : TypedParameter) → parameter_of c b of ≡ Some known → x.of ≡ known.0 → room.function.parameters ≡ done ++ x ∷ others → BeforeIs b done
      → Stands room c → Ends room (after_known c p (Some known)) → Stands room (after_known c p (Some known))
  parameter_keeps c b p (parameter_type.Value of) known done others x e q all h s ends =
      let f = then_some (named_type c.names of) _ known e in
      let r : (parameter.Value f.0, meant.Variable (length c.variables) f.0 false) ≡ known = some_value f.2 in
      subst (λ (k : Known). Stands room (after_known c p (Some k))) r (known_keeps c p (parameter.Value f.0, meant.Variable (length c.variables) f.0 false) s (local_there room c.variables [] _ (subst (λ (k : Known). Ends room (after_known c p (Some k))) (sym r) ends).variables) tt
      (both (if_so (TypeStands room.text.structs c.structs) (named_type c.names of) f.0 f.1 (named_type_stands room c s.fits of)).stands refl))
  parameter_keeps c b p (parameter_type.Object of) known done others x e q all h s ends =
      let f = then_some (where_true (takes_role c.around b.has_input (role_of of.word)) of) (λ of. object_parameter c b of (holds c of)) known e in
      let g = where_so (takes_role c.around b.has_input (role_of of.word)) of f.0 f.1 in
      let k : object_parameter c b of (holds c of) ≡ Some known = subst (λ (y : ObjectType). object_parameter c b y (holds c y) ≡ Some known) (sym g.1) f.2 in
      let o = if_so IsObject (object_parameter c b of (holds c of)) known k (is_object c b of (holds c of)) in
      known_keeps c p known s (if_so (Means done others) (object_parameter c b of (holds c of)) known k (object_means c b of (holds c of) done others s.fits h g.0) x q all) (o.below (length c.structs))
      (subst types_stand (sym (o.place c.around p)) refl)

  parameter_grows : (b : Before) (p : Parameter) (c : Context) → Grows c (with_parameter b p c)
  parameter_grows b p c = once_grows p.name c (after_known c p (parameter_of c b p.of)) (record { variables = (parameter_variable c.around p (parameter_of c b p.of), refl); handles = (grows_self c).handles; structs = refl })

  pub parameters_grow : (ps : List Parameter) (b : Before) (c : Context) → Grows c (parameters_after b ps c)
  parameters_grow [] b c = grows_self c
  parameters_grow (p ∷ ps) b c = grows_then c (with_parameter b p c) _ (parameter_grows b p c) (parameters_grow ps (one_more p.of b) (with_parameter b p c))

  -- ---- all parameters

  -- the context stands before each parameter, and after all
  abbrev pub StandsAlong : List Parameter → Before → Context → Type 0
  StandsAlong [] b c = Stands room c
  StandsAlong (p ∷ ps) b c = Stands room c × StandsAlong ps (one_more p.of b) (with_parameter b p c)

  pub stands_after : (ps : List Parameter) (b : Before) (c : Context) → StandsAlong ps b c → Stands room (parameters_after b ps c)
  stands_after [] b c h = h
  stands_after (p ∷ ps) b c h = stands_after ps (one_more p.of b) (with_parameter b p c) h.1

  pub parameters_keep : (ps : List Parameter) (b : Before) (c : Context) (done rest : List TypedParameter) → Stands room c → BeforeIs b done → room.function.parameters ≡ done ++ rest → parameters_trees b ps c ≡ Some rest
      → Ends room (parameters_after b ps c) → Well (parameters_sites b ps c) → StandsAlong ps b c
  parameters_keep [] b c done rest s h e q ends w = s
  parameters_keep (p ∷ ps) b c done rest s h e q ends w =
      let f = then_some (parameter_tree c b p) _ rest q in
      let g = then_some (parameters_trees (one_more p.of b) ps (with_parameter b p c)) _ rest f.2 in
      let z : f.0 ∷ g.0 ≡ rest = some_value g.2 in
      let k = then_some (parameter_of c b p.of) _ f.0 f.1 in
      let x : f.0.of ≡ k.0.0 = ap (λ (y : TypedParameter). y.of) (sym (some_value k.2)) in
      let a : room.function.parameters ≡ done ++ f.0 ∷ g.0 = e ∙ ap (λ xs. done ++ xs) (sym z) in
      let n : with_parameter b p c ≡ after_known c p (Some k.0) = once_new p.name c _ (is_false (is_among (own_names c) p.name.name) p.name.place (well_only (well_left (well_right (well_right w))) Repeated)) ∙ ap (after_known c p) k.1 in
      let here : Ends room (with_parameter b p c) = ends_before room (with_parameter b p c) _ (parameters_grow ps (one_more p.of b) (with_parameter b p c)) ends in
      let next : Stands room (with_parameter b p c) = subst (Stands room) (sym n) (parameter_keeps c b p p.of k.0 done g.0 f.0 k.1 x a h s (subst (Ends room) n here)) in (
        s,
        parameters_keep ps (one_more p.of b) (with_parameter b p c) (done ++ f.0 ∷ []) g.0 next
            (before_next b done p.of f.0 (subst (SameRole p.of) (sym x) (if_so (λ (k : Known). SameRole p.of k.0) (parameter_of c b p.of) k.0 k.1 (same_role c b p.of))) h)
            (a ∙ sym (joined done (f.0 ∷ []) g.0)) g.1 ends (well_right (well_right (well_right (well_right w)))),
      )

-- ---- the outputs of a function

-- so many outputs are within the limit
abbrev pub Few : ℕ → Type 0
Few n = nat_lt output_limit n ≡ false

few_next : (b : Before) (name : Named) (of : ParameterType) → Well (output_site b name of) → Few b.outputs → Few (one_more of b).outputs
few_next b name of w h = by_role (is_output (role_in of)) w
  where
    by_role : (o : Bool) → Well (cond o (only (AtLimit name (suc b.outputs) output_limit)) nowhere) → Few (cond o (suc b.outputs) b.outputs)
    by_role true w = is_false _ name.place (well_only w LimitPassed)
    by_role false w = h

pub outputs_few : (ps : List Parameter) (b : Before) (c : Context) (done rest : List TypedParameter) → BeforeIs b done → Few b.outputs → parameters_trees b ps c ≡ Some rest → Well (parameters_sites b ps c) → Few (length (outputs_of (done ++ rest)))
outputs_few [] b c done rest h k q w = subst (λ xs. Few (length (outputs_of (done ++ xs)))) (some_value q) (subst (λ xs. Few (length (outputs_of xs))) (nothing_more done) (subst Few h.outputs k))
outputs_few (p ∷ ps) b c done rest h k q w =
    let f = then_some (parameter_tree c b p) _ rest q in
    let g = then_some (parameters_trees (one_more p.of b) ps (with_parameter b p c)) _ rest f.2 in
    let z : f.0 ∷ g.0 ≡ rest = some_value g.2 in
    let l = then_some (parameter_of c b p.of) _ f.0 f.1 in
    let x : f.0.of ≡ l.0.0 = ap (λ (y : TypedParameter). y.of) (sym (some_value l.2)) in
    let next = before_next b done p.of f.0 (subst (SameRole p.of) (sym x) (if_so (λ (k : Known). SameRole p.of k.0) (parameter_of c b p.of) l.0 l.1 (same_role c b p.of))) h in
    let r = outputs_few ps (one_more p.of b) (with_parameter b p c) (done ++ f.0 ∷ []) g.0 next (few_next b p.name p.of (well_left (well_right (well_right (well_right w)))) k) g.1 (well_right (well_right (well_right (well_right w)))) in
    subst (λ (xs : List TypedParameter). Few (length (outputs_of xs))) (joined done (f.0 ∷ []) g.0 ∙ ap (λ xs. done ++ xs) z) r

-- ---- the variables of parameters

known_types : (a : Around) (p : Parameter) (known : Known) → form_types (parameter_variable a p (Some known)) ≡ value_type known.0
known_types a p (parameter.Value of, m) = refl
known_types a p (parameter.Object place word record_type, m) = refl

pub parameters_first : (ps : List Parameter) (b : Before) (c : Context) (rest : List TypedParameter) → parameters_trees b ps c ≡ Some rest → Well (parameters_sites b ps c) → form_types (parameters_after b ps c).variables ≡ form_types c.variables ++ value_types rest
parameters_first [] b c rest q w = nothing_more (form_types c.variables) ∙ ap (λ xs. form_types c.variables ++ value_types xs) (some_value q)
parameters_first (p ∷ ps) b c rest q w =
    let f = then_some (parameter_tree c b p) _ rest q in
    let g = then_some (parameters_trees (one_more p.of b) ps (with_parameter b p c)) _ rest f.2 in
    let z : f.0 ∷ g.0 ≡ rest = some_value g.2 in
    let k = then_some (parameter_of c b p.of) _ f.0 f.1 in
    let x : f.0.of ≡ k.0.0 = ap (λ (y : TypedParameter). y.of) (sym (some_value k.2)) in
    let n : with_parameter b p c ≡ after_known c p (Some k.0) = once_new p.name c _ (is_false (is_among (own_names c) p.name.name) p.name.place (well_only (well_left (well_right (well_right w))) Repeated)) ∙ ap (after_known c p) k.1 in
    parameters_first ps (one_more p.of b) (with_parameter b p c) g.0 g.1 (well_right (well_right (well_right (well_right w))))
    ∙ ap (λ (d : Context). form_types d.variables ++ value_types g.0) n
    ∙ ap (λ ts. ts ++ value_types g.0) (forms_joined c.variables (parameter_variable c.around p (Some k.0)))
    ∙ joined (form_types c.variables) (form_types (parameter_variable c.around p (Some k.0))) (value_types g.0)
    ∙ ap (λ ts. form_types c.variables ++ (ts ++ value_types g.0)) (known_types c.around p k.0 ∙ ap value_type (sym x))
    ∙ ap (λ ps. form_types c.variables ++ value_types ps) z
