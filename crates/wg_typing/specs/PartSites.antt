-- What is wanted of parts that have types, by the sites at which it is looked at: operands, arguments, components. Own.
use Rattle.std.specs.Prelude.{◌==◌, Bool, true, false, ◌&&◌, if◌then◌else◌, is_some, List, [], ◌∷◌, length, Option, Some, None}
use Rattle.wg_words.specs.Maybe.{◌>>=◌}
use Rattle.wg_words.specs.declared.place.Place.{Place}
use Rattle.wg_typing.specs.Conversions.{numbers, of_value_type, size_of, truth_type, uint_type, is_word}
use Rattle.wg_typing.specs.Layers.{typed_part, all_typed_parts}
use Rattle.wg_typing.specs.Scope.{Context}
use Rattle.wg_typing.specs.Site.{Site, AtCount, AtArgument, AtGoal, AtSuited, AtTogether, AtComponent, AtResults, AtDestination, AtWord, AtAssigned, AtFlags, AtLink}
use Rattle.wg_typing.specs.Sites.{Sites, nowhere, only, ◌&◌}
use Rattle.wg_typing.specs.TypingConstructor.{component_count, components}
use Rattle.wg_typing.specs.TypingInterlocked.{operands, raw_type}
use Rattle.wg_typing.specs.TypingIntrinsic.{arity_of, reckons, all_numbers}
use Rattle.wg_typing.specs.TypingObjects.{method_of, takes, argument_types, has_elements}
use Rattle.wg_typing.specs.TypingOperators.{typed_of}
use Rattle.wg_tree.specs.declared.expr.BinaryOperator.{BinaryOperator}
use Rattle.wg_tree.specs.declared.expr.ValueType.{ValueType}
use Rattle.wg_typed.specs.declared.types.TypeTree.{TypeTree}
use Rattle.wg_typed.specs.declared.types.TypeTree.TheVariants as type
use Rattle.wg_typed.specs.declared.typed_expr.Intrinsic.{Intrinsic}
use Rattle.wg_typed.specs.declared.typed_stmt.InterlockedForm.{InterlockedForm}
use Rattle.wg_typing.specs.declared.called.Builtin.{Builtin}
use Rattle.wg_typing.specs.declared.called.Builtin.TheVariants as builtin
use Rattle.wg_typing.specs.declared.called.CalledName.{CalledName}
use Rattle.wg_typing.specs.declared.called.CalledName.TheVariants as called_name
use Rattle.wg_typing.specs.declared.called.Method.{Method}
use Rattle.wg_typing.specs.declared.called.Method.TheVariants as method
use Rattle.wg_typing.specs.declared.numbers.Numbers.{Numbers}
use Rattle.wg_typing.specs.declared.part.Along.{Along}
use Rattle.wg_typing.specs.declared.part.Along.TheVariants as along
use Rattle.wg_typing.specs.declared.part.FormLayer.{FormLayer}
use Rattle.wg_typing.specs.declared.part.FormLayer.TheVariants as form_layer
use Rattle.wg_typing.specs.declared.part.Operands.{Operands}
use Rattle.wg_typing.specs.declared.part.Part.{Part}
use Rattle.wg_typing.specs.declared.part.TypedPart.{TypedPart}
use Rattle.wg_typing.specs.declared.scope.FormalParameter.{FormalParameter}
use Rattle.wg_typing.specs.declared.scope.Object.{Object}
use Rattle.wg_typing.specs.declared.scope.Value.TheVariants as value

-- ---- one part, and several

abbrev pub is_typed : Part → Bool
is_typed p = is_some (typed_part p)

abbrev pub all_are_typed : List Part → Bool
all_are_typed [] = true
all_are_typed (p ∷ rest) = is_typed p && all_are_typed rest

-- An expression with a broken part breaks no further rule: these sites, where all parts have types.
abbrev pub where_typed : List Part → Sites Site → Sites Site
where_typed parts sites = if all_are_typed parts then sites else nowhere

abbrev pub site_if : (TypedPart → Site) → Option TypedPart → Sites Site
site_if at None = nowhere
site_if at (Some t) = only (at t)

-- a part where it has a type
abbrev pub part_site : (TypedPart → Site) → Part → Sites Site
part_site at p = site_if at (typed_part p)

abbrev pub maybe_site : (TypedPart → Site) → Option Part → Sites Site
maybe_site at None = nowhere
maybe_site at (Some p) = part_site at p

abbrev pub each_site : (TypedPart → Site) → List Part → Sites Site
each_site at [] = nowhere
each_site at (p ∷ rest) = part_site at p & each_site at rest

-- a part that has to convert to a type
abbrev pub goal_site : TypeTree → Part → Sites Site
goal_site goal p = part_site (AtGoal goal) p

-- the same, where the type is known
abbrev pub goal_if : Option TypeTree → Part → Sites Site
goal_if None p = nowhere
goal_if (Some goal) p = goal_site goal p

abbrev pub goal_sites : List TypeTree → List Part → Sites Site
goal_sites [] parts = nowhere
goal_sites (t ∷ types) [] = nowhere
goal_sites (t ∷ types) (p ∷ parts) = goal_site t p & goal_sites types parts

-- ---- operators

abbrev pub link_site : Place → Option TypeTree → BinaryOperator → Option TypedPart → Sites Site
link_site whole None operator t = nowhere
link_site whole (Some before) operator None = nowhere
link_site whole (Some before) operator (Some t) = only (AtLink whole before operator t)

abbrev pub results_site : Place → Option TypedPart → Option TypedPart → Sites Site
results_site whole None b = nowhere
results_site whole (Some a) None = nowhere
results_site whole (Some a) (Some b) = only (AtResults whole a b)

abbrev pub choice_sites : Place → Part → Part → Part → Sites Site
choice_sites whole test a b = where_typed (test ∷ a ∷ b ∷ []) (goal_site truth_type test & results_site whole (typed_part a) (typed_part b))

-- ---- constructors

abbrev pub components_site : Place → Option Numbers → Option (List Numbers) → Sites Site
components_site place None ns = nowhere
components_site place (Some goal) None = nowhere
components_site place (Some goal) (Some ns) = only (AtCount place (component_count ns == components goal.size))

abbrev pub construct_sites : Place → ValueType → List Part → Sites Site
construct_sites place of parts = where_typed parts
    (each_site (AtComponent (size_of of)) parts & components_site place (numbers (of_value_type of)) (all_typed_parts parts >>= all_numbers))

-- ---- interlocked forms

-- the arguments after the destination, on words of a type
abbrev pub operand_sites : TypeTree → Operands Part → Sites Site
operand_sites by o = maybe_site (AtGoal by) o.compare & goal_site by o.value & maybe_site AtWord o.old

-- where the destination is no word, its type tells nothing of the others
abbrev pub word_sites : Option TypedPart → Operands Part → Sites Site
word_sites None o = nowhere
word_sites (Some t) o = if is_word t.of then operand_sites t.of o else nowhere

abbrev pub destination_sites : Part → Option (Operands Part) → Sites Site
destination_sites to None = nowhere
destination_sites to (Some o) = part_site AtDestination to & word_sites (typed_part to) o & maybe_site AtAssigned o.old

-- with the destination as the first argument
abbrev pub interlocked_sites : InterlockedForm → List Part → Sites Site
interlocked_sites f [] = nowhere
interlocked_sites f (to ∷ parts) = destination_sites to (operands f parts)

abbrev pub raw_word_sites : Option TypeTree → Operands Part → Sites Site
raw_word_sites None o = nowhere
raw_word_sites (Some t) o = operand_sites (raw_type t) o

abbrev pub address_sites : Part → Option (Operands Part) → Sites Site
address_sites address None = nowhere
address_sites address (Some o) = goal_site uint_type address & raw_word_sites (typed_of o.value) o & maybe_site AtAssigned o.old

-- with an address in a raw buffer as the first argument
abbrev pub raw_sites : InterlockedForm → List Part → Sites Site
raw_sites f [] = nowhere
raw_sites f (address ∷ parts) = address_sites address (operands f parts)

abbrev pub takes_form : InterlockedForm → List Part → Bool
takes_form f [] = false
takes_form f (to ∷ parts) = is_some (operands f parts)

-- ---- calls

abbrev pub same_length : {A B : Type 0} → List A → List B → Bool
same_length xs ys = length xs == length ys

abbrev pub passed_sites : List FormalParameter → List Part → Sites Site
passed_sites [] parts = nowhere
passed_sites (a ∷ parameters) [] = nowhere
passed_sites (a ∷ parameters) (p ∷ parts) = part_site (AtArgument a) p & passed_sites parameters parts

-- the number of arguments, and where that is right these sites
abbrev pub counted_sites : Place → Bool → Sites Site → Sites Site
counted_sites name right sites = only (AtCount name right) & (if right then sites else nowhere)

abbrev pub together_site : Place → Intrinsic → Option (List TypedPart) → Sites Site
together_site name i None = nowhere
together_site name i (Some ts) = only (AtTogether name i ts)

abbrev pub intrinsic_sites : Place → Intrinsic → List Part → Sites Site
intrinsic_sites name i parts = each_site (AtSuited (reckons i)) parts & together_site name i (all_typed_parts parts)

abbrev pub builtin_sites : Context → Place → Builtin → List Part → Sites Site
builtin_sites c name (builtin.OnNumbers i) parts = where_typed parts (counted_sites name (length parts == arity_of i) (intrinsic_sites name i parts))
builtin_sites c name (builtin.Interlocked f) parts = where_typed parts (counted_sites name (takes_form f parts) (interlocked_sites f parts))
builtin_sites c name builtin.Levels parts = where_typed parts (only (AtCount name (length parts == 0)))
builtin_sites c name (builtin.Barrier syncs) parts = where_typed parts (only (AtCount name (length parts == 0)))
builtin_sites c name builtin.BarrierOf parts = only (AtFlags c name parts)

-- the arguments of a call by a name
abbrev pub call_sites : Context → Place → CalledName → List Part → Sites Site
call_sites c name (called_name.Plain number result parameters chain) parts =
    where_typed parts (counted_sites name (same_length parameters parts) (passed_sites parameters parts))
call_sites c name called_name.Entry parts = nowhere
call_sites c name called_name.Itself parts = nowhere
call_sites c name (called_name.Builtin b) parts = builtin_sites c name b parts
call_sites c name called_name.Broken parts = nowhere
call_sites c name called_name.Unknown parts = nowhere

-- ---- forms

abbrev pub argument_sites : Method → List Part → Sites Site
argument_sites (method.Interlocked f) parts = raw_sites f parts
argument_sites m parts = goal_sites (argument_types m parts) parts

-- of a method that the object has
abbrev pub method_sites : Object → Place → Option Method → List Part → Sites Site
method_sites o name None parts = nowhere
method_sites o name (Some m) parts = where_typed parts (counted_sites name (takes o m parts) (argument_sites m parts))

-- an index after a value of a type: only an array has elements
abbrev pub index_site : TypeTree → Part → Sites Site
index_site (type.Scalar of) p = nowhere
index_site (type.Vector of size) p = nowhere
index_site (type.Struct number) p = nowhere
index_site (type.Array of size) p = goal_site uint_type p

abbrev pub typed_form_sites : TypeTree → FormLayer Part → Sites Site
typed_form_sites of (form_layer.Member name) = nowhere
typed_form_sites of (form_layer.Method name parts) = nowhere
typed_form_sites of (form_layer.Index p) = index_site of p

abbrev pub object_form_sites : Object → FormLayer Part → Sites Site
object_form_sites o (form_layer.Member name) = nowhere
object_form_sites o (form_layer.Method name parts) = method_sites o name.place (method_of o name.name) parts
object_form_sites o (form_layer.Index p) = if has_elements o then goal_site uint_type p else nowhere

-- the arguments and the index of a form
abbrev pub form_sites : Along → FormLayer Part → Sites Site
form_sites (along.Typed r) f = typed_form_sites r.of f
form_sites (along.Other (value.Typed of standing tree)) f = nowhere
form_sites (along.Other (value.Object o element)) f = object_form_sites o f
form_sites (along.Other (value.Act name a)) f = nowhere
form_sites (along.Other (value.Text bytes)) f = nowhere
