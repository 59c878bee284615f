-- Rule 404 of attributes: an argument out of its range or of a wide type, or arguments of another form. Its number is own.
use Rattle.std.specs.Prelude.{ℕ, ◌*◌, ◌==◌, Bool, true, false, not, ◌&&◌, nat_le, nat_lt, if◌then◌else◌, is_some, List, [], ◌∷◌, slice_get, Option, Some, None}
use Rattle.wg_words.specs.declared.place.Place.{Place}
use Rattle.wg_words.specs.Maybe.{◌>>=◌}
use Rattle.wg_typing.specs.Maybe.{where_true}
use Rattle.wg_words.specs.Characters.{is_identifier}
use Rattle.wg_typing.specs.AttributeArguments.{mode_named, has, is_one_text, product, in_mode, is_thread, is_narrow}
use Rattle.wg_typing.specs.AttributeSites.{AttributeSite, AtAttribute, AtNode, AtInput, AtOutput, AtValue, Position, on_struct, on_node, on_plain, on_input, on_output, on_output_array, on_value, on_branch, Own, kind_of}
use Rattle.wg_typing.specs.AttributeNames.{standing}
use Rattle.wg_typing.specs.Sites.{at_if}
use Rattle.wg_typed.specs.declared.typed.TypedParameter.{TypedParameter}
use Rattle.wg_typed.specs.declared.typed_stmt.ArgumentValue.{ArgumentValue}
use Rattle.wg_typed.specs.declared.typed_stmt.ArgumentValue.TheVariants as argument
use Rattle.wg_typed.specs.declared.typed_stmt.TypedArgument.{TypedArgument}
use Rattle.wg_typing.specs.declared.attribute.AttributeName.{AttributeName}
use Rattle.wg_typing.specs.declared.attribute.AttributeName.TheVariants.{Shader, NodeLaunch, NumThreads, DispatchGrid, MaxDispatchGrid, NodeId, ProgramEntry, MaxRecursionDepth, MaxRecords, MaxRecordsSharedWith, NodeArraySize, AllowSparseNodes, TrackSharing, Hint}
use Rattle.wg_typing.specs.declared.attribute.Mode.{Mode}
use Rattle.wg_typing.specs.declared.attribute.ParameterKind.{ParameterKind}
use Rattle.wg_typing.specs.declared.attribute.ParameterKind.TheVariants.{Value, Input, Output, Handle}

abbrev pub is_nothing : List TypedArgument → Bool
is_nothing [] = true
is_nothing (a ∷ rest) = false

abbrev pub is_number : ArgumentValue → Bool
is_number (argument.Number v) = is_narrow v
is_number (argument.Text bytes) = false
is_number (argument.Parameter number) = false
is_number argument.Other = false

abbrev pub is_number_between : ℕ → ℕ → ArgumentValue → Bool
is_number_between low high (argument.Number v) = is_narrow v && nat_le low v.value && nat_le v.value high
is_number_between low high (argument.Text bytes) = false
is_number_between low high (argument.Parameter number) = false
is_number_between low high argument.Other = false

abbrev pub is_one_between : ℕ → ℕ → List TypedArgument → Bool
is_one_between low high (a ∷ []) = is_number_between low high a.value
is_one_between low high _ = false

-- a number of groups in one direction
abbrev pub groups_in : ArgumentValue → Option ℕ
groups_in (argument.Number v) = where_true (is_narrow v && nat_le 1 v.value && nat_le v.value 65535) v.value
groups_in (argument.Text bytes) = None
groups_in (argument.Parameter number) = None
groups_in argument.Other = None

-- the product of three numbers, where each is from 1 to 65,535
abbrev pub grid_product : List TypedArgument → Option ℕ
grid_product (x ∷ y ∷ z ∷ []) = do
  a ← groups_in x.value
  b ← groups_in y.value
  c ← groups_in z.value
  Some (a * b * c)
grid_product _ = None

abbrev pub is_below : ℕ → Option ℕ → Bool
is_below limit None = false
is_below limit (Some n) = nat_lt n limit

-- the threads of a group: 1, 1, 1 for thread launch, and a product of at most 1,024 for any other
abbrev pub are_threads : Option Mode → Option ℕ → Bool
are_threads mode None = false
are_threads mode (Some n) = if in_mode is_thread mode then n == 1 else true

-- a string that is a name; own
abbrev pub is_id_name : ArgumentValue → Bool
is_id_name (argument.Number v) = false
is_id_name (argument.Text bytes) = is_identifier bytes
is_id_name (argument.Parameter number) = false
is_id_name argument.Other = false

-- a node's name, and an index
abbrev pub is_id : ℕ → List TypedArgument → Bool
is_id greatest (name ∷ []) = is_id_name name.value
is_id greatest (name ∷ index ∷ []) = is_id_name name.value && is_number_between 0 greatest index.value
is_id greatest _ = false

-- the greatest index of a `NodeID`: on an output array it is 0
abbrev pub greatest_index : Position → ℕ
greatest_index on_struct = 255
greatest_index (on_node mode) = 255
greatest_index on_plain = 255
greatest_index (on_input mode) = 255
greatest_index (on_output here) = 255
greatest_index (on_output_array here) = 0
greatest_index on_value = 255
greatest_index on_branch = 255

abbrev pub is_output : ParameterKind → Bool
is_output (Output array) = true
is_output Value = false
is_output (Input word) = false
is_output Handle = false

abbrev pub bounds_itself : Option TypedParameter → Bool
bounds_itself None = false
bounds_itself (Some p) = is_output (kind_of p.of) && has "MaxRecords" p.attributes

-- the name of another output that has `MaxRecords`
abbrev pub names_partner : Own → ArgumentValue → Bool
names_partner here (argument.Number v) = false
names_partner here (argument.Text bytes) = false
names_partner here (argument.Parameter number) = not (number == here.number) && bounds_itself (slice_get here.parameters number)
names_partner here argument.Other = false

abbrev pub is_shared_with : Own → List TypedArgument → Bool
is_shared_with here (a ∷ []) = names_partner here a.value
is_shared_with here _ = false

abbrev pub is_partner : Position → List TypedArgument → Bool
is_partner on_struct arguments = false
is_partner (on_node mode) arguments = false
is_partner on_plain arguments = false
is_partner (on_input mode) arguments = false
is_partner (on_output here) arguments = is_shared_with here arguments
is_partner (on_output_array here) arguments = is_shared_with here arguments
is_partner on_value arguments = false
is_partner on_branch arguments = false

abbrev pub mode_at : Position → Option Mode
mode_at on_struct = None
mode_at (on_node mode) = mode
mode_at on_plain = None
mode_at (on_input mode) = None
mode_at (on_output here) = None
mode_at (on_output_array here) = None
mode_at on_value = None
mode_at on_branch = None

-- no argument, or one number
abbrev pub is_hint : List TypedArgument → Bool
is_hint [] = true
is_hint (a ∷ []) = is_number a.value
is_hint _ = false

-- the arguments that an attribute may have at a position where it stands
abbrev pub has_form : Position → AttributeName → List TypedArgument → Bool
has_form position Shader arguments = is_one_text "node" arguments
has_form position NodeLaunch arguments = is_some (mode_named arguments)
has_form position NumThreads arguments = are_threads (mode_at position) (product arguments)
has_form position DispatchGrid arguments = is_below 16777216 (grid_product arguments)
has_form position MaxDispatchGrid arguments = is_below 16777216 (grid_product arguments)
has_form position NodeId arguments = is_id (greatest_index position) arguments
has_form position ProgramEntry arguments = is_nothing arguments
has_form position MaxRecursionDepth arguments = is_one_between 1 31 arguments
has_form position MaxRecords arguments = is_one_between 1 256 arguments
has_form position MaxRecordsSharedWith arguments = is_partner position arguments
has_form position NodeArraySize arguments = is_one_between 1 256 arguments
has_form position AllowSparseNodes arguments = is_nothing arguments
has_form position TrackSharing arguments = is_nothing arguments
has_form position Hint arguments = is_hint arguments

abbrev pub is_out_of_form : Position → List TypedArgument → Option AttributeName → Bool
is_out_of_form position arguments None = false
is_out_of_form position arguments (Some name) = not (has_form position name arguments)

abbrev pub range_at : AttributeSite → List Place
range_at (AtAttribute position before a) = at_if (is_out_of_form position a.arguments (standing position a)) a.name.place
range_at (AtNode f fields) = []
range_at (AtInput mode word p) = []
range_at (AtOutput array p) = []
range_at (AtValue mode p) = []
