-- What is known at the sites of a text whose attributes are right.
use Rattle.std.proofs.Common.{◌≡◌, ◌+◌, ◌==◌, inl, inr, ℕ, zero, suc, Bool, true, false, cond, not, List, [], ◌∷◌, ◌++◌, codes, map, Option, Some, None, slice_get, refl, sym, ap, ◌∙◌, subst, arith}
use Rattle.std.specs.Prelude.{◌||◌, is_some}
use Rattle.std.specs.Str.{bytes_eq}
use Rattle.std.proofs.lemmas.Slice.Eq.{bytes_eq-Decides}
use Rattle.wg_words.specs.Maybe.{◌>>=◌}
use Rattle.wg_words.specs.declared.place.Place.{Place}
use Rattle.wg_typing.specs.AttributeArguments.{first_called, first_named, has, in_mode, is_entry, mode_named, mode_of}
use Rattle.wg_typing.specs.AttributeMissing.{node_lacks, output_lacks}
use Rattle.wg_typing.specs.AttributeNames.{attribute_names, name_of, named_in, standing, where_stands}
use Rattle.wg_typing.specs.AttributeRange.{bounds_itself, has_form, is_out_of_form, is_shared_with, names_partner}
use Rattle.wg_typing.specs.AttributeSites.{AttributeSite, AtAttribute, AtInput, AtNode, AtOutput, Own, Position, on_node, on_output, on_output_array, attribute_sites, function_sites, kind_of, node_sites, parameter_sites, parameters_sites, plain_sites, record_fields, sites_at, sites_of}
use Rattle.wg_typing.specs.AttributeWrongMode.{takes}
use Rattle.wg_typing.specs.Attributes.{AreRight}
use Rattle.wg_typing.specs.Named.{is_called, is_same_name, small}
use Rattle.wg_typing.specs.Sites.{Among, In, Sites, all_sites, at_if}
use Rattle.wg_typing.specs.declared.attribute.AttributeName.{AttributeName}
use Rattle.wg_typing.specs.declared.attribute.AttributeName.TheVariants.{MaxRecordsSharedWith, NodeLaunch}
use Rattle.wg_typing.specs.declared.attribute.Mode.{Mode}
use Rattle.wg_typing.specs.declared.attribute.ParameterKind.{ParameterKind}
use Rattle.wg_typing.specs.declared.attribute.ParameterKind.TheVariants.{Input, Output}
use Rattle.wg_typing.specs.declared.fault.AttributeRule.TheVariants.{Missing, Range, WrongMode}
use Rattle.wg_tree.specs.declared.stmt.ObjectWord.{ObjectWord}
use Rattle.wg_typed.specs.declared.typed.Typed.{Typed}
use Rattle.wg_typed.specs.declared.typed.TypedFunction.{TypedFunction}
use Rattle.wg_typed.specs.declared.typed.TypedParameter.{TypedParameter}
use Rattle.wg_typed.specs.declared.typed_stmt.ArgumentValue.{ArgumentValue}
use Rattle.wg_typed.specs.declared.typed_stmt.ArgumentValue.TheVariants as argument
use Rattle.wg_typed.specs.declared.typed_stmt.TypedArgument.{TypedArgument}
use Rattle.wg_typed.specs.declared.typed_stmt.TypedAttribute.{TypedAttribute}
use Rattle.wg_facts.proofs.Basics.{and_right, some_value}
use Rattle.wg_node_attributes.specs.Budgets.{one_parameter, parameter_in, partner}
use Prim.Native.String.{String}

-- ---- truths

pub not_not : (b : Bool) → not b ≡ false → b ≡ true
not_not true e = refl
not_not false e = cc

pub or_false_left : (a b : Bool) → (a || b) ≡ false → a ≡ false
or_false_left true b e = e
or_false_left false b e = refl

pub or_false_right : (a b : Bool) → (a || b) ≡ false → b ≡ false
or_false_right true b e = absurd (cc)
or_false_right false b e = e

pub other_of : (a b : Bool) → (a || b) ≡ true → a ≡ false → b ≡ true
other_of true b e f = absurd (cc)
other_of false b e f = e

pub is_there : {A : Type 0} (o : Option A) → is_some o ≡ true → (a : A) × (o ≡ Some a)
is_there None e = absurd (cc)
is_there (Some a) e = (a, refl)

broken_not : (b : Bool) (p : Place) → (In (at_if b p) p → ⊥) → b ≡ false
broken_not true p h = absurd (h (inl refl))
broken_not false p h = refl

-- ---- sites of a text

among_map : {A S : Type 0} (f : A → Sites S) (xs : List A) (k : ℕ) (a : A) (s : S) → slice_get xs k ≡ Some a → Among (f a) s → Among (all_sites (map f xs)) s
among_map f [] k a s e h = absurd (cc)
among_map f (x ∷ xs) zero a s e h = inl (subst (λ y. Among (f y) s) (sym (some_value e)) h)
among_map f (x ∷ xs) (suc k) a s e h = inr (among_map f xs k a s e h)

pub node_among : (typed : Typed) (number : ℕ) (f : TypedFunction) (s : AttributeSite) → slice_get typed.functions number ≡ Some f → is_entry f.attributes ≡ true → Among (node_sites typed.structs f) s → Among (sites_of typed) s
node_among typed number f s at entry h =
    inr (among_map (function_sites typed.structs) typed.functions number f s at (subst (λ (b : Bool). Among (cond b (node_sites typed.structs f) (plain_sites f)) s) (sym entry) h))

among_step : (position : Position) (before : List TypedAttribute) (x : TypedAttribute) (rest : List TypedAttribute) (name : List ℕ) (a : TypedAttribute) (b : Bool)
    → cond b (Some x) (first_named name rest) ≡ Some a → (first_named name rest ≡ Some a → (those : List TypedAttribute) × Among (attribute_sites position (before ++ x ∷ []) rest) (AtAttribute position those a))
    → (those : List TypedAttribute) × Among (attribute_sites position before (x ∷ rest)) (AtAttribute position those a)
among_step position before x rest name a true e k = (before, inl (ap (AtAttribute position before) (some_value e)))
among_step position before x rest name a false e k = let r = k e in (r.0, inr r.1)

pub first_among : (position : Position) (before : List TypedAttribute) (list : List TypedAttribute) (name : List ℕ) (a : TypedAttribute) → first_named name list ≡ Some a
    → (those : List TypedAttribute) × Among (attribute_sites position before list) (AtAttribute position those a)
first_among position before [] name a e = absurd (cc)
first_among position before (x ∷ rest) name a e = among_step position before x rest name a (is_same_name name x.name.name) e (first_among position (before ++ x ∷ []) rest name a)

called_step : (name : List ℕ) (x : TypedAttribute) (rest : List TypedAttribute) (a : TypedAttribute) (b : Bool) → is_same_name name x.name.name ≡ b → cond b (Some x) (first_named name rest) ≡ Some a
    → (first_named name rest ≡ Some a → is_same_name name a.name.name ≡ true) → is_same_name name a.name.name ≡ true
called_step name x rest a true t e k = subst (λ (y : TypedAttribute). is_same_name name y.name.name ≡ true) (some_value e) t
called_step name x rest a false t e k = k e

first_called_so : (name : List ℕ) (list : List TypedAttribute) (a : TypedAttribute) → first_named name list ≡ Some a → is_same_name name a.name.name ≡ true
first_called_so name [] a e = absurd (cc)
first_called_so name (x ∷ rest) a e = called_step name x rest a (is_same_name name x.name.name) refl e (first_called_so name rest a)

pub parameter_among : (mode : Option Mode) (all : List TypedParameter) (start : ℕ) (ps : List TypedParameter) (k number : ℕ) (p : TypedParameter) (s : AttributeSite) → number ≡ start + k → slice_get ps k ≡ Some p
    → Among (parameter_sites mode (record { parameters = all; number = number }) p (kind_of p.of)) s → Among (parameters_sites mode all start ps) s
parameter_among mode all start [] k number p s n e h = absurd (cc)
parameter_among mode all start (x ∷ ps) zero number p s n e h =
    let same : number ≡ start = omega (arith, n) in
    inl (subst (λ (y : TypedParameter). Among (parameter_sites mode (record { parameters = all; number = start }) y (kind_of y.of)) s) (sym (some_value e))
    (subst (λ m. Among (parameter_sites mode (record { parameters = all; number = m }) p (kind_of p.of)) s) same h))
parameter_among mode all start (x ∷ ps) (suc k) number p s n e h = inr (parameter_among mode all (start + 1) ps k number p s (omega (arith, n)) e h)

-- ---- attributes by their names

abbrev small_named : List (String × AttributeName) → List ℕ → Option AttributeName
small_named [] letters = None
small_named (entry ∷ rest) letters = cond (bytes_eq (map small (codes entry.0)) letters) (Some entry.1) (small_named rest letters)

by_letters : (table : List (String × AttributeName)) (name : List ℕ) → named_in table name ≡ small_named table (map small name)
by_letters [] name = refl
by_letters (entry ∷ rest) name = ap (λ r. cond (is_called entry.0 name) (Some entry.1) r) (by_letters rest name)

named_as : (letters : List ℕ) (a : TypedAttribute) → is_same_name letters a.name.name ≡ true → name_of a ≡ small_named attribute_names (map small letters)
named_as letters a e = by_letters attribute_names a.name.name ∙ ap (small_named attribute_names) (sym ((bytes_eq-Decides (map small letters) (map small a.name.name)).0 e))

shared_named : small_named attribute_names (map small (codes "MaxRecordsSharedWith")) ≡ Some MaxRecordsSharedWith
shared_named = refl

launch_named : small_named attribute_names (map small (codes "NodeLaunch")) ≡ Some NodeLaunch
launch_named = refl

-- ---- forms

form_right : (typed : Typed) → AreRight typed → (position : Position) (those : List TypedAttribute) (a : TypedAttribute) (name : AttributeName) → Among (sites_of typed) (AtAttribute position those a)
    → standing position a ≡ Some name → has_form position name a.arguments ≡ true
form_right typed right position those a name among stands =
    let fine : is_out_of_form position a.arguments (standing position a) ≡ false =
    broken_not (is_out_of_form position a.arguments (standing position a)) a.name.place (λ i. right Range a.name.place (AtAttribute position those a, among, i)) in
    not_not (has_form position name a.arguments) (sym (ap (is_out_of_form position a.arguments) stands) ∙ fine)

-- ---- nodes

-- a node of a text
pub record NodeAt (typed : Typed) (number : ℕ) (f : TypedFunction) : Type 0 where
  pub there : slice_get typed.functions number ≡ Some f
  pub entry : is_entry f.attributes ≡ true

mode_from : (xs : List TypedAttribute) (a : TypedAttribute) → first_called "NodeLaunch" xs ≡ Some a → is_some (mode_named a.arguments) ≡ true → (m : Mode) × (mode_of xs ≡ Some m)
mode_from xs a e h = let m = is_there (mode_named a.arguments) h in (m.0, ap (λ (o : Option TypedAttribute). o >>= (λ (a : TypedAttribute). mode_named a.arguments)) e ∙ m.1)

-- a node has a launch mode
pub mode_there : (typed : Typed) → AreRight typed → (number : ℕ) (f : TypedFunction) → NodeAt typed number f → (m : Mode) × (mode_of f.attributes ≡ Some m)
mode_there typed right number f n =
    let fields = record_fields typed.structs f.parameters in
    let among : Among (sites_of typed) (AtNode f fields) = node_among typed number f (AtNode f fields) n.there n.entry (inr (inl refl)) in
    let lacks : node_lacks f.attributes fields ≡ false = broken_not (node_lacks f.attributes fields) f.name.place (λ i. right Missing f.name.place (AtNode f fields, among, i)) in
    let launch : has "NodeLaunch" f.attributes ≡ true = not_not (has "NodeLaunch" f.attributes) (or_false_left _ _ (or_false_left _ _ (or_false_left _ _ lacks))) in
    let a = is_there (first_called "NodeLaunch" f.attributes) launch in
    let position = on_node (mode_of f.attributes) in
    let site = first_among position [] f.attributes (codes "NodeLaunch") a.0 a.1 in
    let stands : standing position a.0 ≡ Some NodeLaunch = ap (where_stands position) (named_as (codes "NodeLaunch") a.0 (first_called_so (codes "NodeLaunch") f.attributes a.0 a.1) ∙ launch_named) in
    mode_from f.attributes a.0 a.1 (form_right typed right position site.0 a.0 NodeLaunch (node_among typed number f (AtAttribute position site.0 a.0) n.there n.entry (inl site.1)) stands)

-- ---- outputs

abbrev pub own_at : TypedFunction → ℕ → Own
own_at f k = record { parameters = f.parameters; number = k }

-- where the attributes of an output stand
abbrev pub output_position : Bool → Own → Position
output_position true here = on_output_array here
output_position false here = on_output here

output_among : (mode : Option Mode) (here : Own) (p : TypedParameter) (array : Bool) → Among (parameter_sites mode here p (Output array)) (AtOutput array p)
output_among mode here p true = inr refl
output_among mode here p false = inr refl

attribute_among : (mode : Option Mode) (here : Own) (p : TypedParameter) (array : Bool) (s : AttributeSite) → Among (sites_at (output_position array here) p.attributes) s → Among (parameter_sites mode here p (Output array)) s
attribute_among mode here p true s h = inl h
attribute_among mode here p false s h = inl h

in_node : (typed : Typed) (number : ℕ) (f : TypedFunction) (k : ℕ) (p : TypedParameter) (kind : ParameterKind) (s : AttributeSite) → NodeAt typed number f → slice_get f.parameters k ≡ Some p → kind_of p.of ≡ kind
    → Among (parameter_sites (mode_of f.attributes) (own_at f k) p kind) s → Among (sites_of typed) s
in_node typed number f k p kind s n e q h =
    node_among typed number f s n.there n.entry (inr (inr (inl (parameter_among (mode_of f.attributes) f.parameters 0 f.parameters k k p s (omega arith) e
    (subst (λ kind. Among (parameter_sites (mode_of f.attributes) (own_at f k) p kind) s) (sym q) h)))))

-- an output has a bound of its own or another's
pub has_bound : (typed : Typed) → AreRight typed → (number : ℕ) (f : TypedFunction) (k : ℕ) (p : TypedParameter) (array : Bool) → NodeAt typed number f → slice_get f.parameters k ≡ Some p → kind_of p.of ≡ Output array
    → (has "MaxRecords" p.attributes || has "MaxRecordsSharedWith" p.attributes) ≡ true
has_bound typed right number f k p array n e q =
    let among = in_node typed number f k p (Output array) (AtOutput array p) n e q (output_among (mode_of f.attributes) (own_at f k) p array) in
    let lacks : output_lacks array p.attributes ≡ false = broken_not (output_lacks array p.attributes) p.name.place (λ i. right Missing p.name.place (AtOutput array p, among, i)) in
    not_not (has "MaxRecords" p.attributes || has "MaxRecordsSharedWith" p.attributes) (or_false_left _ _ lacks)

-- the output that a bound is shared with has one of its own
pub record Bounds (parameters : List TypedParameter) (partner_is : Option ℕ) : Type 0 where
  pub owner : ℕ
  pub named : partner_is ≡ Some owner
  pub bounds : bounds_itself (slice_get parameters owner) ≡ true

named_bounds : (here : Own) (v : ArgumentValue) → names_partner here v ≡ true → Bounds here.parameters (parameter_in v)
named_bounds here (argument.Number v) e = absurd (cc)
named_bounds here (argument.Text bytes) e = absurd (cc)
named_bounds here (argument.Parameter number) e = record { owner = number; named = refl; bounds = and_right (not (number == here.number)) (bounds_itself (slice_get here.parameters number)) e }
named_bounds here argument.Other e = absurd (cc)

one_bounds : (here : Own) (xs : List TypedArgument) → is_shared_with here xs ≡ true → Bounds here.parameters (one_parameter xs)
one_bounds here [] e = absurd (cc)
one_bounds here (a ∷ []) e = named_bounds here a.value e
one_bounds here (a ∷ b ∷ rest) e = absurd (cc)

shared_form : (array : Bool) (here : Own) (xs : List TypedArgument) → has_form (output_position array here) MaxRecordsSharedWith xs ≡ true → is_shared_with here xs ≡ true
shared_form true here xs e = e
shared_form false here xs e = e

stands_there : (array : Bool) (here : Own) → where_stands (output_position array here) (Some MaxRecordsSharedWith) ≡ Some MaxRecordsSharedWith
stands_there true here = refl
stands_there false here = refl

pub shared_bounds : (typed : Typed) → AreRight typed → (number : ℕ) (f : TypedFunction) (k : ℕ) (p : TypedParameter) (array : Bool) → NodeAt typed number f → slice_get f.parameters k ≡ Some p → kind_of p.of ≡ Output array
    → has "MaxRecordsSharedWith" p.attributes ≡ true → Bounds f.parameters (partner p.attributes)
shared_bounds typed right number f k p array n e q h =
    let a = is_there (first_called "MaxRecordsSharedWith" p.attributes) h in
    let position = output_position array (own_at f k) in
    let site = first_among position [] p.attributes (codes "MaxRecordsSharedWith") a.0 a.1 in
    let s = AtAttribute position site.0 a.0 in
    let among = in_node typed number f k p (Output array) s n e q (attribute_among (mode_of f.attributes) (own_at f k) p array s site.1) in
    let stands : standing position a.0 ≡ Some MaxRecordsSharedWith = ap (where_stands position) (named_as (codes "MaxRecordsSharedWith") a.0 (first_called_so (codes "MaxRecordsSharedWith") p.attributes a.0 a.1) ∙ shared_named) ∙ stands_there array (own_at f k) in
    let form = form_right typed right position site.0 a.0 MaxRecordsSharedWith among stands in
    let b = one_bounds (own_at f k) a.0.arguments (shared_form array (own_at f k) a.0.arguments form) in
    record { owner = b.owner; named = ap (λ (o : Option TypedAttribute). o >>= (λ (a : TypedAttribute). one_parameter a.arguments)) a.1 ∙ b.named; bounds = b.bounds }

-- ---- inputs

-- the launch mode of a node takes its input
pub input_taken : (typed : Typed) → AreRight typed → (number : ℕ) (f : TypedFunction) (k : ℕ) (p : TypedParameter) (word : ObjectWord) (m : Mode) → NodeAt typed number f → slice_get f.parameters k ≡ Some p → kind_of p.of ≡ Input word
    → mode_of f.attributes ≡ Some m → takes word m ≡ true
input_taken typed right number f k p word m n e q mode =
    let s = AtInput (mode_of f.attributes) word p in
    let among = in_node typed number f k p (Input word) s n e q (inr refl) in
    let refused = in_mode (λ m. not (takes word m)) (mode_of f.attributes) in
    let fine : refused ≡ false = broken_not refused p.name.place (λ i. right WrongMode p.name.place (s, among, i)) in
    not_not (takes word m) (sym (ap (in_mode (λ m. not (takes word m))) mode) ∙ fine)
