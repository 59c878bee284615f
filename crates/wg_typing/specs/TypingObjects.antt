-- What follows an object: methods and elements of buffers, inputs, outputs and handles (HLSL Shader Model 6.8, buffers; DirectX-Specs,
-- Work Graphs, node inputs and outputs).
use Rattle.std.specs.Prelude.{ℕ, ◌==◌, Bool, true, false, nat_le, if◌then◌else◌, List, [], ◌∷◌, ◌++◌, length, is_some, Option, Some, None}
use Prim.Native.String.{String}
use Rattle.wg_words.specs.declared.place.Place.{Place}
use Rattle.wg_words.specs.Maybe.{◌>>=◌}
use Rattle.wg_typing.specs.Named.{at_name}
use Rattle.wg_typing.specs.Conversions.{uint_type, truth_type, uints}
use Rattle.wg_typing.specs.Layers.{fit_all, valued, fixed, act}
use Rattle.wg_typing.specs.TypingInterlocked.{interlocked_names, operands, interlocked_raw}
use Rattle.wg_typed.specs.declared.types.TypeTree.{TypeTree}
use Rattle.wg_typed.specs.declared.types.TypeTree.TheVariants as type
use Rattle.wg_typed.specs.declared.typed.TypedBufferType.{TypedBufferType}
use Rattle.wg_typed.specs.declared.typed.TypedBufferType.TheVariants as buffer_type
use Rattle.wg_typed.specs.declared.typed_expr.TypedExpr.{TypedExpr}
use Rattle.wg_typed.specs.declared.typed_expr.TypedKind.TheVariants as tree
use Rattle.wg_typed.specs.declared.typed_stmt.InterlockedForm.{InterlockedForm}
use Rattle.wg_typed.specs.declared.typed_stmt.TypedStep.TheVariants as step
use Rattle.wg_typing.specs.declared.scope.Object.{Object}
use Rattle.wg_typing.specs.declared.scope.Object.TheVariants as object
use Rattle.wg_typing.specs.declared.scope.Standing.{Standing}
use Rattle.wg_typing.specs.declared.scope.Standing.TheVariants as standing
use Rattle.wg_typing.specs.declared.scope.Value.{Value}
use Rattle.wg_typing.specs.declared.scope.Value.TheVariants as value
use Rattle.wg_typing.specs.declared.scope.Act.TheVariants as act_of
use Rattle.wg_typing.specs.declared.scope.Sharing.{Sharing}
use Rattle.wg_typing.specs.declared.scope.Sharing.TheVariants as sharing
use Rattle.wg_typing.specs.declared.part.Part.{Part}
use Rattle.wg_typing.specs.declared.called.Method.{Method}
use Rattle.wg_typing.specs.declared.called.Method.TheVariants as method

-- ---- methods

abbrev pub loads : List (String × Method)
loads = ("Load", method.Load 1) ∷ ("Load2", method.Load 2) ∷ ("Load3", method.Load 3) ∷ ("Load4", method.Load 4) ∷ []

abbrev pub stores : List (String × Method)
stores = ("Store", method.Store 1) ∷ ("Store2", method.Store 2) ∷ ("Store3", method.Store 3) ∷ ("Store4", method.Store 4) ∷ []

abbrev pub interlocked_methods : List (String × InterlockedForm) → List (String × Method)
interlocked_methods [] = []
interlocked_methods (f ∷ rest) = (f.0, method.Interlocked f.1) ∷ interlocked_methods rest

abbrev pub raw_methods : Bool → List (String × Method)
raw_methods writable = loads ++ (if writable then stores ++ interlocked_methods interlocked_names else [])

abbrev pub buffer_methods : TypedBufferType → List (String × Method)
buffer_methods (buffer_type.Raw writable) = raw_methods writable
buffer_methods (buffer_type.Structured writable of) = []

-- whether the words are the record's, which its groups share
abbrev pub is_shared : Sharing → Bool
is_shared sharing.Copied = false
is_shared sharing.Shared = true
is_shared sharing.Tracked = true

abbrev pub is_tracked : Sharing → Bool
is_tracked sharing.Copied = false
is_tracked sharing.Shared = false
is_tracked sharing.Tracked = true

abbrev pub input_methods : Bool → Option ℕ → Sharing → List (String × Method)
input_methods many None s = ("Count", method.Count) ∷ []
input_methods many (Some record_type) s =
    ("Get", method.Get) ∷ ((if many then ("Count", method.Count) ∷ [] else []) ++ (if is_shared s then ("FinishedCrossGroupSharing", method.Finished) ∷ [] else []))

abbrev pub sending : Option ℕ → List (String × Method)
sending None = ("ThreadIncrementOutputCount", method.Increment false) ∷ ("GroupIncrementOutputCount", method.Increment true) ∷ []
sending (Some record_type) = ("GetThreadNodeOutputRecords", method.Request false) ∷ ("GetGroupNodeOutputRecords", method.Request true) ∷ []

-- an array itself has none: they follow an element
abbrev pub output_methods : Bool → Option ℕ → List (String × Method)
output_methods true record_type = []
output_methods false record_type = ("IsValid", method.IsValid) ∷ sending record_type

abbrev pub methods : Object → List (String × Method)
methods (object.Buffer buffer of) = buffer_methods of
methods (object.Input many record_type standing sharing) = input_methods many record_type sharing
methods (object.Output output array record_type) = output_methods array record_type
methods (object.Handle handle record_type) = ("Get", method.Get) ∷ ("OutputComplete", method.Complete) ∷ []

abbrev pub method_of : Object → List ℕ → Option Method
method_of o name = at_name (methods o) name

-- ---- their arguments

-- `Get` has an index on several records; on a handle it may
abbrev pub get_takes : Object → ℕ → Bool
get_takes (object.Buffer buffer of) n = false
get_takes (object.Input many record_type standing sharing) n = n == (if many then 1 else 0)
get_takes (object.Output output array record_type) n = false
get_takes (object.Handle handle record_type) n = nat_le n 1

abbrev pub raw_takes : InterlockedForm → List Part → Bool
raw_takes f [] = false
raw_takes f (address ∷ parts) = is_some (operands f parts)

-- whether the method takes as many arguments
abbrev pub takes : Object → Method → List Part → Bool
takes o (method.Load n) parts = length parts == 1
takes o (method.Store n) parts = length parts == 2
takes o (method.Interlocked f) parts = raw_takes f parts
takes o method.Get parts = get_takes o (length parts)
takes o method.Count parts = length parts == 0
takes o (method.Request group) parts = length parts == 1
takes o (method.Increment group) parts = length parts == 1
takes o method.IsValid parts = length parts == 0
takes o method.Complete parts = length parts == 0
takes o method.Finished parts = length parts == 0

-- the types of the arguments, where there are as many; those of an interlocked form are told in its own file
abbrev pub argument_types : Method → List Part → List TypeTree
argument_types (method.Load n) parts = uint_type ∷ []
argument_types (method.Store n) parts = uint_type ∷ uints n ∷ []
argument_types (method.Interlocked f) parts = []
argument_types method.Get [] = []
argument_types method.Get (p ∷ parts) = uint_type ∷ []
argument_types method.Count parts = []
argument_types (method.Request group) parts = uint_type ∷ []
argument_types (method.Increment group) parts = uint_type ∷ []
argument_types method.IsValid parts = []
argument_types method.Complete parts = []
argument_types method.Finished parts = []

-- ---- typed forms

-- the method of an object with these arguments; an output that is an element of an array has its index
abbrev pub method_form : Place → Place → Object → Option TypedExpr → Method → List TypedExpr → Option Value
method_form place name (object.Buffer buffer of) element (method.Load n) (address ∷ []) = fixed place (uints n) (tree.Load buffer address)
method_form place name (object.Buffer buffer of) element (method.Store n) (address ∷ v ∷ []) = act name (act_of.Step (step.Store buffer address v))
method_form place name (object.Input many (Some number) standing sharing) element method.Get [] = valued standing place (type.Struct number) (tree.Input None)
method_form place name (object.Input many (Some number) standing sharing) element method.Get (i ∷ []) = valued standing place (type.Struct number) (tree.Input (Some i))
method_form place name (object.Input many record_type standing sharing) element method.Count [] = fixed place uint_type tree.Count
method_form place name (object.Input many record_type standing sharing) element method.Finished [] = act name (act_of.Finished (is_tracked sharing))
method_form place name (object.Output output array (Some number)) element (method.Request group) (n ∷ []) = act name (act_of.Request group output number element n)
method_form place name (object.Output output array None) element (method.Increment group) (n ∷ []) = act name (act_of.Increment group output element n)
method_form place name (object.Output output array record_type) element method.IsValid [] = fixed place truth_type (tree.IsValid output element)
method_form place name (object.Handle handle number) element method.Get [] = valued standing.Own place (type.Struct number) (tree.Handle handle None)
method_form place name (object.Handle handle number) element method.Get (i ∷ []) = valued standing.Own place (type.Struct number) (tree.Handle handle (Some i))
method_form place name (object.Handle handle number) element method.Complete [] = act name (act_of.Complete handle)
method_form place name o element m arguments = None

-- the place of the whole expression and that of the method's name
abbrev pub method_value : Place → Place → Object → Option TypedExpr → Method → List Part → Option Value
method_value place name (object.Buffer buffer of) element (method.Interlocked f) parts = interlocked_raw name f buffer parts
method_value place name o element m parts = fit_all (argument_types m parts) parts >>= method_form place name o element m

-- ---- elements

abbrev pub element_of_buffer : Place → ℕ → TypedBufferType → TypedExpr → Option Value
element_of_buffer place buffer (buffer_type.Raw writable) i = None
element_of_buffer place buffer (buffer_type.Structured writable of) i =
    valued (if writable then standing.Memory else standing.Fixed) place of (tree.Element buffer i)

abbrev pub input_element : Place → Bool → Option ℕ → Standing → TypedExpr → Option Value
input_element place true (Some number) standing i = valued standing place (type.Struct number) (tree.Input (Some i))
input_element place true None standing i = None
input_element place false record_type standing i = None

abbrev pub output_element : ℕ → Bool → Option ℕ → TypedExpr → Option Value
output_element output true record_type i = Some (value.Object (object.Output output false record_type) (Some i))
output_element output false record_type i = None

-- the element of an object at an index; none where it has no elements
abbrev pub element_value : Place → Object → TypedExpr → Option Value
element_value place (object.Buffer buffer of) i = element_of_buffer place buffer of i
element_value place (object.Input many record_type standing sharing) i = input_element place many record_type standing i
element_value place (object.Output output array record_type) i = output_element output array record_type i
element_value place (object.Handle handle number) i = valued standing.Own place (type.Struct number) (tree.Handle handle (Some i))

abbrev pub is_structured : TypedBufferType → Bool
is_structured (buffer_type.Raw writable) = false
is_structured (buffer_type.Structured writable of) = true

-- whether an object has elements
abbrev pub has_elements : Object → Bool
has_elements (object.Buffer buffer of) = is_structured of
has_elements (object.Input many None standing sharing) = false
has_elements (object.Input many (Some number) standing sharing) = many
has_elements (object.Output output array record_type) = array
has_elements (object.Handle handle number) = true
