-- What right attributes say of a node of a sound text keeps the limits.
use Rattle.std.proofs.Common.{◌≡◌, ◌≤◌, ◌+◌, ℕ, zero, suc, Bool, true, false, cond, List, [], ◌∷◌, ◌++◌, length, map, codes, Option, Some, None, slice_get, unwrap_or, refl, sym, ap, ◌∙◌, subst, arith, inl, inr, IsTrue}
use Rattle.std.proofs.lemmas.List.{length-map}
use Rattle.wg_words.specs.Each.{Each}
use Rattle.wg_words.specs.Maybe.{◌>>=◌}
use Rattle.wg_words.specs.declared.place.Place.{Place}
use Rattle.wg_words.specs.declared.limits.TheConstants.{MOST_RECORD_WORDS}
use Rattle.wg_tree.specs.declared.stmt.ObjectWord.{ObjectWord}
use Rattle.wg_tree.specs.declared.stmt.ObjectWord.TheVariants as object
use Rattle.wg_machine.specs.GoodShape.{IsBetween, IsGoodKind}
use Rattle.wg_machine.specs.Units.{is_broadcasting}
use Rattle.wg_typing.specs.AttributeArguments.{has, mode_of}
use Rattle.wg_typing.specs.AttributeRange.{bounds_itself}
use Rattle.wg_typing.specs.AttributeRange as range
use Rattle.wg_typing.specs.AttributeSites.{kind_of, object_kind}
use Rattle.wg_typing.specs.AttributeWrongMode.{takes}
use Rattle.wg_typing.specs.Attributes.{AreRight}
use Rattle.wg_typing.specs.Sites.{In}
use Rattle.wg_typing.specs.TypingParameter.{Role, an_input, an_output, no_role, is_output, numbered, role_of, typed_role}
use Rattle.wg_typing.specs.declared.attribute.Mode.{Mode}
use Rattle.wg_typing.specs.declared.attribute.Mode.TheVariants.{Broadcasting, Coalescing, Thread}
use Rattle.wg_typing.specs.declared.attribute.ParameterKind.TheVariants.{Input, Output}
use Rattle.wg_typed.specs.declared.typed.Typed.{Typed}
use Rattle.wg_typed.specs.declared.typed.TypedEntry.{TypedEntry}
use Rattle.wg_typed.specs.declared.typed.TypedFunction.{TypedFunction}
use Rattle.wg_typed.specs.declared.typed.TypedParameter.{TypedParameter}
use Rattle.wg_typed.specs.declared.typed.TypedParameterType.{TypedParameterType}
use Rattle.wg_typed.specs.declared.typed.TypedParameterType.TheVariants as parameter
use Rattle.wg_typed.specs.declared.typed.TypedStruct.{TypedStruct}
use Rattle.wg_typed.specs.declared.typed_stmt.TypedAttribute.{TypedAttribute}
use Rattle.wg_facts.proofs.Basics.{If, and_left, and_right, some_value}
use Rattle.wg_sound.specs.Room.{output_if, output_of, outputs_of}
use Rattle.wg_sound.specs.Sound.{IsSound, IsSoundFunction}
use Rattle.wg_node_attributes.specs.Budgets.{owner_of, owners, owns, partner, place_in}
use Rattle.wg_node_attributes.specs.Kinds.{kind_in, kind_said}
use Rattle.wg_node_attributes.specs.Nodes.{elements_said, node_if, node_said, nodes_from, nodes_said, output_said, outputs_said}
use Rattle.wg_node_attributes.specs.Numbers.{number_said}
use Rattle.wg_node_attributes.specs.Parameters.{attributes_at, attributes_if, is_array_at, record_at, record_if, record_of}
use Rattle.wg_node_attributes.specs.declared.attributes.NodeAttrs.{NodeAttrs}
use Rattle.wg_shapes.specs.Limits.{AreGoodAttrs, IsGoodNode, IsGoodOutputAttr}
use Rattle.wg_shapes.specs.Records.{is_shared_in, is_shared_type, parameter_of, record_in, record_type, record_words}
use Rattle.wg_shapes.specs.ShapeOf.{budget_count, budgets_of, most_of}
use Rattle.wg_attribute_limits.specs.Beside.{KeepsBeside}
use Rattle.wg_attribute_limits.proofs.GoodKinds.{Structs, either_way, grid_broadcasts, kind_good}
use Rattle.wg_attribute_limits.proofs.Owning.{Rises, at_place, count_within, each_in_range, filter_rises, from_filter, in_filter, most_found, place_below, rises_from}
use Rattle.wg_attribute_limits.proofs.RightSites.{NodeAt, has_bound, input_taken, mode_there, other_of, shared_bounds}
use Rattle.wg_attribute_limits.proofs.Values.{count_is, index_is, name_is, number_is}

-- ---- parameters by their words

word_output : (word : ObjectWord) → is_output (role_of word) ≡ true → (array : Bool) × (object_kind word ≡ Output array)
word_output object.DispatchNodeInputRecord e = absurd (cc)
word_output object.RwDispatchNodeInputRecord e = absurd (cc)
word_output object.GroupNodeInputRecords e = absurd (cc)
word_output object.RwGroupNodeInputRecords e = absurd (cc)
word_output object.ThreadNodeInputRecord e = absurd (cc)
word_output object.RwThreadNodeInputRecord e = absurd (cc)
word_output object.EmptyNodeInput e = absurd (cc)
word_output object.NodeOutput e = (false, refl)
word_output object.NodeOutputArray e = (true, refl)
word_output object.EmptyNodeOutput e = (false, refl)
word_output object.EmptyNodeOutputArray e = (true, refl)
word_output object.ThreadNodeOutputRecords e = absurd (cc)
word_output object.GroupNodeOutputRecords e = absurd (cc)

output_kind : (of : TypedParameterType) → is_output (typed_role of) ≡ true → (array : Bool) × (kind_of of ≡ Output array)
output_kind (parameter.Value of) e = absurd (cc)
output_kind (parameter.Object place word held) e = word_output word e

output_word : (word : ObjectWord) → range.is_output (object_kind word) ≡ true → is_output (role_of word) ≡ true
output_word object.DispatchNodeInputRecord e = absurd (cc)
output_word object.RwDispatchNodeInputRecord e = absurd (cc)
output_word object.GroupNodeInputRecords e = absurd (cc)
output_word object.RwGroupNodeInputRecords e = absurd (cc)
output_word object.ThreadNodeInputRecord e = absurd (cc)
output_word object.RwThreadNodeInputRecord e = absurd (cc)
output_word object.EmptyNodeInput e = absurd (cc)
output_word object.NodeOutput e = refl
output_word object.NodeOutputArray e = refl
output_word object.EmptyNodeOutput e = refl
output_word object.EmptyNodeOutputArray e = refl
output_word object.ThreadNodeOutputRecords e = absurd (cc)
output_word object.GroupNodeOutputRecords e = absurd (cc)

output_role : (of : TypedParameterType) → range.is_output (kind_of of) ≡ true → is_output (typed_role of) ≡ true
output_role (parameter.Value of) e = absurd (cc)
output_role (parameter.Object place word held) e = output_word word e

shared_word : (word : ObjectWord) (place : Place) (held : Option ℕ) → is_shared_type (parameter.Object place word held) ≡ true → object_kind word ≡ Input object.RwDispatchNodeInputRecord
shared_word object.DispatchNodeInputRecord place held e = absurd (cc)
shared_word object.RwDispatchNodeInputRecord place held e = refl
shared_word object.GroupNodeInputRecords place held e = absurd (cc)
shared_word object.RwGroupNodeInputRecords place held e = absurd (cc)
shared_word object.ThreadNodeInputRecord place held e = absurd (cc)
shared_word object.RwThreadNodeInputRecord place held e = absurd (cc)
shared_word object.EmptyNodeInput place held e = absurd (cc)
shared_word object.NodeOutput place held e = absurd (cc)
shared_word object.NodeOutputArray place held e = absurd (cc)
shared_word object.EmptyNodeOutput place held e = absurd (cc)
shared_word object.EmptyNodeOutputArray place held e = absurd (cc)
shared_word object.ThreadNodeOutputRecords place held e = absurd (cc)
shared_word object.GroupNodeOutputRecords place held e = absurd (cc)

shared_kind : (of : TypedParameterType) → is_shared_type of ≡ true → kind_of of ≡ Input object.RwDispatchNodeInputRecord
shared_kind (parameter.Value of) e = absurd (cc)
shared_kind (parameter.Object place word held) e = shared_word word place held e

-- ---- parameters by their numbers

numbered_rises : (test : Role → Bool) (at : ℕ) (ps : List TypedParameter) → Rises at (numbered test at ps)
numbered_rises test at [] = tt
numbered_rises test at (p ∷ rest) =
    either_way (Rises at) (test (typed_role p.of)) (at ∷ numbered test (suc at) rest) (numbered test (suc at) rest)
    (omega arith, numbered_rises test (suc at) rest) (rises_from at (suc at) (numbered test (suc at) rest) (omega arith) (numbered_rises test (suc at) rest))

first_in : (b : Bool) (n : ℕ) (ns : List ℕ) → b ≡ true → In (cond b (n ∷ ns) ns) n
first_in b n ns e = subst (λ (x : Bool). In (cond x (n ∷ ns) ns) n) (sym e) (inl refl)

later_in : (b : Bool) (m n : ℕ) (ns : List ℕ) → In ns n → In (cond b (m ∷ ns) ns) n
later_in true m n ns r = inr r
later_in false m n ns r = r

numbered_in : (test : Role → Bool) (at : ℕ) (ps : List TypedParameter) (k number : ℕ) (p : TypedParameter) → number ≡ at + k → slice_get ps k ≡ Some p → test (typed_role p.of) ≡ true → In (numbered test at ps) number
numbered_in test at [] k number p n e t = absurd (cc)
numbered_in test at (x ∷ ps) zero number p n e t =
    let same : number ≡ at = omega (arith, n) in
    subst (In (numbered test at (x ∷ ps))) (sym same) (first_in (test (typed_role x.of)) at (numbered test (suc at) ps) (subst (λ (y : TypedParameter). test (typed_role y.of) ≡ true) (sym (some_value e)) t))
numbered_in test at (x ∷ ps) (suc k) number p n e t = later_in (test (typed_role x.of)) at number (numbered test (suc at) ps) (numbered_in test (suc at) ps k number p (omega (arith, n)) e t)

record Numbered (test : Role → Bool) (at : ℕ) (ps : List TypedParameter) (number : ℕ) : Type 0 where
  pub place : ℕ
  pub found : TypedParameter
  pub number_is : number ≡ at + place
  pub there : slice_get ps place ≡ Some found
  pub passes : test (typed_role found.of) ≡ true

numbered_step : (test : Role → Bool) (at : ℕ) (x : TypedParameter) (ps : List TypedParameter) (number : ℕ) (b : Bool) → test (typed_role x.of) ≡ b → (In (numbered test (suc at) ps) number → Numbered test (suc at) ps number)
    → In (cond b (at ∷ numbered test (suc at) ps) (numbered test (suc at) ps)) number → Numbered test at (x ∷ ps) number
numbered_step test at x ps number true e k (inl q) = record { place = 0; found = x; number_is = omega (arith, q); there = refl; passes = e }
numbered_step test at x ps number true e k (inr r) =
    let f = k r in
    let n = f.number_is in
    record { place = suc f.place; found = f.found; number_is = omega (arith, n); there = f.there; passes = f.passes }
numbered_step test at x ps number false e k r =
    let f = k r in
    let n = f.number_is in
    record { place = suc f.place; found = f.found; number_is = omega (arith, n); there = f.there; passes = f.passes }

numbered_out : (test : Role → Bool) (at : ℕ) (ps : List TypedParameter) (number : ℕ) → In (numbered test at ps) number → Numbered test at ps number
numbered_out test at [] number i = absurd i
numbered_out test at (x ∷ ps) number i = numbered_step test at x ps number (test (typed_role x.of)) refl (numbered_out test (suc at) ps number) i

count_step : (r : Role) (held : Option ℕ) (at : ℕ) (ns : List ℕ) (others : ℕ) → length ns ≡ others → length (cond (is_output r) (at ∷ ns) ns) ≡ length (output_if r held) + others
count_step (an_input many s shared) held at ns others e = omega (arith, e)
count_step (an_output array) held at ns others e = omega (arith, e)
count_step no_role held at ns others e = omega (arith, e)

length_joined : {A : Type 0} (xs ys : List A) → length (xs ++ ys) ≡ length xs + length ys
length_joined [] ys = omega arith
length_joined (x ∷ xs) ys = let e = length_joined xs ys in omega (arith, e)

outputs_counted : (at : ℕ) (ps : List TypedParameter) → length (numbered is_output at ps) ≡ length (outputs_of ps)
outputs_counted at [] = refl
outputs_counted at (p ∷ rest) = of_type p.of (outputs_counted (suc at) rest)
  where
    of_type : (of : TypedParameterType) → length (numbered is_output (suc at) rest) ≡ length (outputs_of rest)
        → length (cond (is_output (typed_role of)) (at ∷ numbered is_output (suc at) rest) (numbered is_output (suc at) rest)) ≡ length (output_of of ++ outputs_of rest)
    of_type (parameter.Value of) e = e
    of_type (parameter.Object place word held) e = count_step (role_of word) held at (numbered is_output (suc at) rest) (length (outputs_of rest)) e ∙ sym (length_joined (output_if (role_of word) held) (outputs_of rest))

-- ---- owners of budgets

record Owner (ps : List TypedParameter) (number : ℕ) : Type 0 where
  pub owner : ℕ
  pub is : owner_of ps number ≡ owner
  pub output : In (numbered is_output 0 ps) owner
  pub bound : owns ps owner ≡ true

record Bounded (o : Option TypedParameter) : Type 0 where
  pub found : TypedParameter
  pub there : o ≡ Some found
  pub output : range.is_output (kind_of found.of) ≡ true
  pub bound : has "MaxRecords" found.attributes ≡ true

bounded : (o : Option TypedParameter) → bounds_itself o ≡ true → Bounded o
bounded None e = absurd (cc)
bounded (Some p) e = record { found = p; there = refl; output = and_left (range.is_output (kind_of p.of)) (has "MaxRecords" p.attributes) e; bound = and_right (range.is_output (kind_of p.of)) (has "MaxRecords" p.attributes) e }

own_number : (ps : List TypedParameter) (number : ℕ) → owns ps number ≡ true → owner_of ps number ≡ number
own_number ps number e = ap (λ (b : Bool). cond b number (unwrap_or (partner (attributes_at ps number)) number)) e

owner_case : (typed : Typed) → AreRight typed → (number : ℕ) (f : TypedFunction) → NodeAt typed number f → (k : ℕ) (p : TypedParameter) (array : Bool) → slice_get f.parameters k ≡ Some p → is_output (typed_role p.of) ≡ true → kind_of p.of ≡ Output array
    → (b : Bool) → has "MaxRecords" p.attributes ≡ b → Owner f.parameters k
owner_case typed right number f n k p array e t q true h =
    let own : owns f.parameters k ≡ true = ap (λ (o : Option TypedParameter). has "MaxRecords" (attributes_if o)) e ∙ h in
    record { owner = k; is = own_number f.parameters k own; output = numbered_in is_output 0 f.parameters k k p (omega arith) e t; bound = own }
owner_case typed right number f n k p array e t q false h =
    let not_own : owns f.parameters k ≡ false = ap (λ (o : Option TypedParameter). has "MaxRecords" (attributes_if o)) e ∙ h in
    let shares = other_of (has "MaxRecords" p.attributes) (has "MaxRecordsSharedWith" p.attributes) (has_bound typed right number f k p array n e q) h in
    let b = shared_bounds typed right number f k p array n e q shares in
    let o = bounded (slice_get f.parameters b.owner) b.bounds in
    record {
      owner = b.owner;
      is = ap (λ (x : Bool). cond x k (unwrap_or (partner (attributes_at f.parameters k)) k)) not_own ∙ ap (λ (x : Option ℕ). unwrap_or x k) (ap (λ (x : Option TypedParameter). partner (attributes_if x)) e ∙ b.named);
      output = numbered_in is_output 0 f.parameters b.owner b.owner o.found (omega arith) o.there (output_role o.found.of o.output);
      bound = ap (λ (x : Option TypedParameter). has "MaxRecords" (attributes_if x)) o.there ∙ o.bound;
    }

owner_found : (typed : Typed) → AreRight typed → (number : ℕ) (f : TypedFunction) → NodeAt typed number f → (k : ℕ) → In (numbered is_output 0 f.parameters) k → Owner f.parameters k
owner_found typed right number f n k i =
    let o = numbered_out is_output 0 f.parameters k i in
    let at = o.number_is in
    let place : o.place ≡ k = omega (arith, at) in
    let kind = output_kind o.found.of o.passes in
    owner_case typed right number f n k o.found kind.0 (sym (ap (slice_get f.parameters) place) ∙ o.there) o.passes kind.1 (has "MaxRecords" o.found.attributes) refl

budgets_good : (typed : Typed) → AreRight typed → (number : ℕ) (f : TypedFunction) → NodeAt typed number f → Each (IsBetween 1 256) (budgets_of (outputs_said f.parameters (numbered is_output 0 f.parameters)))
budgets_good typed right number f n =
    let ps = f.parameters in
    let outs = numbered is_output 0 ps in
    let holders = owners ps outs in
    let said = output_said ps holders in
    let count : budget_count (map said outs) ≤ length holders = count_within said outs (length holders) (λ k i.
    let o = owner_found typed right number f n k i in
    place_below holders (owner_of ps k) (subst (In holders) (sym o.is) (in_filter (owns ps) outs o.owner o.output o.bound))) in
    each_in_range (most_of (map said outs)) (IsBetween 1 256) 0 (budget_count (map said outs)) (λ k l.
    let at = at_place 0 holders (filter_rises (owns ps) 0 outs (numbered_rises is_output 0 ps)) k (omega (arith, l, count)) in
    let from = from_filter (owns ps) outs at.0 at.1 in
    most_found said outs k at.0 (λ m. count_is 256 (codes "MaxRecords") (attributes_at ps (owner_of ps m)) (omega arith)) from.0 (ap (place_in holders) (own_number ps at.0 from.1) ∙ at.2))

-- ---- records

parameter_is : (typed : Typed) (number : ℕ) (f : TypedFunction) → slice_get typed.functions number ≡ Some f → (k : ℕ) → parameter_of typed number k ≡ slice_get f.parameters k
parameter_is typed number f at k = ap (λ (o : Option TypedFunction). o >>= (λ (g : TypedFunction). slice_get g.parameters k)) at

held_small : (typed : Typed) → KeepsBeside typed → (number : ℕ) (f : TypedFunction) → slice_get typed.functions number ≡ Some f → (k : ℕ) (o : Option TypedParameter) → slice_get f.parameters k ≡ o → record_words typed.structs (record_in o) ≤ MOST_RECORD_WORDS
held_small typed beside number f at k None e = omega arith
held_small typed beside number f at k (Some p) e = beside.records number k f p at e

parameter_small : (typed : Typed) → KeepsBeside typed → (number : ℕ) (f : TypedFunction) → slice_get typed.functions number ≡ Some f → (k : ℕ) → record_words typed.structs (record_in (parameter_of typed number k)) ≤ MOST_RECORD_WORDS
parameter_small typed beside number f at k =
    subst (λ (o : Option TypedParameter). record_words typed.structs (record_in o) ≤ MOST_RECORD_WORDS) (sym (parameter_is typed number f at k)) (held_small typed beside number f at k (slice_get f.parameters k) refl)

input_small : (typed : Typed) → KeepsBeside typed → (number : ℕ) (f : TypedFunction) → slice_get typed.functions number ≡ Some f → (input : Option ℕ) → record_words typed.structs (record_in (input >>= parameter_of typed number)) ≤ MOST_RECORD_WORDS
input_small typed beside number f at None = omega arith
input_small typed beside number f at (Some k) = parameter_small typed beside number f at k

same_type : (of : TypedParameterType) → record_type of ≡ record_of of
same_type (parameter.Value of) = refl
same_type (parameter.Object place word held) = refl

same_record : (o : Option TypedParameter) → record_in o ≡ record_if o
same_record None = refl
same_record (Some p) = same_type p.of

input_is : (typed : Typed) (number : ℕ) (f : TypedFunction) → slice_get typed.functions number ≡ Some f → (input : Option ℕ) → record_in (input >>= parameter_of typed number) ≡ record_at f.parameters input
input_is typed number f at None = refl
input_is typed number f at (Some k) = ap record_in (parameter_is typed number f at k) ∙ same_record (slice_get f.parameters k)

-- ---- shared inputs

takes_shared : (m : Mode) → takes object.RwDispatchNodeInputRecord m ≡ true → m ≡ Broadcasting
takes_shared Broadcasting e = refl
takes_shared Coalescing e = absurd (cc)
takes_shared Thread e = absurd (cc)

shared_at : (typed : Typed) → AreRight typed → (number : ℕ) (f : TypedFunction) → NodeAt typed number f → (k : ℕ) (o : Option TypedParameter) → slice_get f.parameters k ≡ o → is_shared_in o ≡ true → mode_of f.attributes ≡ Some Broadcasting
shared_at typed right number f n k None e s = absurd (cc)
shared_at typed right number f n k (Some p) e s =
    let m = mode_there typed right number f n in
    let taken = input_taken typed right number f k p object.RwDispatchNodeInputRecord m.0 n e (shared_kind p.of s) m.1 in
    m.1 ∙ ap Some (takes_shared m.0 taken)

shared_mode : (typed : Typed) → AreRight typed → (number : ℕ) (f : TypedFunction) → NodeAt typed number f → (input : Option ℕ) → is_shared_in (input >>= parameter_of typed number) ≡ true → mode_of f.attributes ≡ Some Broadcasting
shared_mode typed right number f n None s = absurd (cc)
shared_mode typed right number f n (Some k) s =
    shared_at typed right number f n k (slice_get f.parameters k) refl (ap is_shared_in (sym (parameter_is typed number f n.there k)) ∙ s)

-- ---- nodes

each_said : {A : Type 0} (p : A → Type 0) (f : ℕ → A) (ns : List ℕ) → ((n : ℕ) → p (f n)) → Each p (map f ns)
each_said p f [] h = tt
each_said p f (n ∷ ns) h = (h n, each_said p f ns h)

elements_good : (array : Bool) (attributes : List TypedAttribute) → IsBetween 1 256 (elements_said array attributes)
elements_good true attributes = count_is 256 (codes "NodeArraySize") attributes (omega arith)
elements_good false attributes = record { low = omega arith; high = omega arith }

depth_within : (o : Option ℕ) → If (IsBetween 1 31) o → unwrap_or o 0 ≤ 31
depth_within None h = omega arith
depth_within (Some d) h = h.high

pub node_good : (typed : Typed) → Structs typed.structs → KeepsBeside typed → AreRight typed → (number : ℕ) (f : TypedFunction) (e : TypedEntry) → NodeAt typed number f → IsSoundFunction typed number f → f.entry ≡ Some e
    → IsGoodNode typed (node_said typed.structs number f e)
node_good typed structs beside right number f e n sound there =
    let outs : e.outputs ≡ numbered is_output 0 f.parameters = (sound.entry e there).outputs in
    let few = sound.few_outputs in
    let said : length (outputs_said f.parameters e.outputs) ≡ length e.outputs = length-map e.outputs (output_said f.parameters (owners f.parameters e.outputs)) in
    let counted : length e.outputs ≡ length (outputs_of f.parameters) = ap length outs ∙ outputs_counted 0 f.parameters in
    record {
      name = name_is f.name.name f.attributes (beside.function_names number f n.there);
      index = index_is f.attributes;
      recursion = depth_within (number_said 1 31 (codes "NodeMaxRecursionDepth") f.attributes) (number_is 1 31 (codes "NodeMaxRecursionDepth") f.attributes);
      words = input_small typed beside number f n.there e.input;
      kind = subst (λ r. IsGoodKind (record_words typed.structs r) (kind_said typed.structs f.parameters e.input f.attributes)) (sym (input_is typed number f n.there e.input)) (kind_good typed.structs structs f.parameters e.input f.attributes (mode_of f.attributes));
      budgets = subst (λ ns. Each (IsBetween 1 256) (budgets_of (outputs_said f.parameters ns))) (sym outs) (budgets_good typed right number f n);
      few_outputs = omega (arith, few, said, counted);
      outputs = each_said (IsGoodOutputAttr typed (node_said typed.structs number f e)) (output_said f.parameters (owners f.parameters e.outputs)) e.outputs (λ k. record {
        words = parameter_small typed beside number f n.there k;
        count = elements_good (is_array_at f.parameters k) (attributes_at f.parameters k);
      });
      shared = λ s. subst (λ m. IsTrue (is_broadcasting (kind_in typed.structs f.parameters e.input f.attributes m))) (sym (shared_mode typed right number f n e.input s)) (grid_broadcasts typed.structs (record_at f.parameters e.input) f.attributes);
    }

node_if_good : (p : NodeAttrs → Type 0) (structs : List TypedStruct) (number : ℕ) (f : TypedFunction) (o : Option TypedEntry) (rest : List NodeAttrs) → ((e : TypedEntry) → o ≡ Some e → p (node_said structs number f e)) → Each p rest → Each p (node_if structs number f o ++ rest)
node_if_good p structs number f None rest h r = r
node_if_good p structs number f (Some e) rest h r = (h e refl, r)

each_node : (p : NodeAttrs → Type 0) (structs : List TypedStruct) (start : ℕ) (fs : List TypedFunction)
    → ((k number : ℕ) (f : TypedFunction) (e : TypedEntry) → number ≡ start + k → slice_get fs k ≡ Some f → f.entry ≡ Some e → p (node_said structs number f e)) → Each p (nodes_from structs start fs)
each_node p structs start [] h = tt
each_node p structs start (f ∷ rest) h =
    node_if_good p structs start f f.entry (nodes_from structs (start + 1) rest) (λ e q. h 0 start f e (omega arith) refl q)
    (each_node p structs (start + 1) rest (λ k number g e n at q. h (suc k) number g e (omega (arith, n)) at q))

pub attributes_good : (typed : Typed) → Structs typed.structs → IsSound typed → KeepsBeside typed → AreRight typed → AreGoodAttrs typed (nodes_said typed)
attributes_good typed structs sound beside right =
    let few = sound.few_buffers in
    record {
      nodes_good = each_node (IsGoodNode typed) typed.structs 0 typed.functions (λ k number f e n at q.
          let same : k ≡ number = omega (arith, n) in
          let there : slice_get typed.functions number ≡ Some f = subst (λ m. slice_get typed.functions m ≡ Some f) same at in
          node_good typed structs beside right number f e (record { there = there; entry = beside.entries number f e there q }) (sound.functions number f there) q);
      few_buffers = omega (arith, few);
      buffer_names = beside.buffer_names;
      buffers_differ = beside.buffers_differ;
    }
