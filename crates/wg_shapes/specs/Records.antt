-- The records of a node's input and outputs (DirectX-Specs, Work Graphs, "Node input" and "Node output"; records without words are this
-- project's own).
use Rattle.std.specs.Prelude.{ℕ, Bool, true, false, List, [], slice_get, slice_index_or, Option, Some, None}
use Rattle.std.specs.List.{filter, range_with_len}
use Rattle.wg_words.specs.Maybe.{◌>>=◌}
use Rattle.wg_tree.specs.declared.stmt.ObjectWord.{ObjectWord}
use Rattle.wg_tree.specs.declared.stmt.ObjectWord.TheVariants as word
use Rattle.wg_typed.specs.Layout.{words_of}
use Rattle.wg_typed.specs.Marks.{marks_in}
use Rattle.wg_typed.specs.declared.types.TypeTree.TheVariants.{Struct}
use Rattle.wg_typed.specs.declared.types.WordMark.{WordMark}
use Rattle.wg_typed.specs.declared.types.WordMark.TheVariants.{Plain, Truth, Signed16, Unsigned16, Between}
use Rattle.wg_typed.specs.declared.typed.Typed.{Typed}
use Rattle.wg_typed.specs.declared.typed.TypedFunction.{TypedFunction}
use Rattle.wg_typed.specs.declared.typed.TypedParameter.{TypedParameter}
use Rattle.wg_typed.specs.declared.typed.TypedParameterType.{TypedParameterType}
use Rattle.wg_typed.specs.declared.typed.TypedParameterType.TheVariants as parameter
use Rattle.wg_typed.specs.declared.typed.TypedStruct.{TypedStruct}
use Rattle.wg_node_attributes.specs.declared.attributes.NodeAttrs.{NodeAttrs}
use Rattle.wg_node_attributes.specs.declared.attributes.OutputAttr.{OutputAttr}

-- ---- record types, by the numbers of their structs; none where there is no record type

abbrev pub record_type : TypedParameterType → Option ℕ
record_type (parameter.Value of) = None
record_type (parameter.Object place word held) = held

abbrev pub record_in : Option TypedParameter → Option ℕ
record_in None = None
record_in (Some p) = record_type p.of

abbrev pub parameter_of : Typed → ℕ → ℕ → Option TypedParameter
parameter_of typed function number = slice_get typed.functions function >>= (λ (f : TypedFunction). slice_get f.parameters number)

abbrev pub input_of : Typed → NodeAttrs → Option TypedParameter
input_of typed a = a.input >>= parameter_of typed a.function

abbrev pub input_record : Typed → NodeAttrs → Option ℕ
input_record typed a = record_in (input_of typed a)

abbrev pub output_record : Typed → NodeAttrs → OutputAttr → Option ℕ
output_record typed a o = record_in (parameter_of typed a.function o.param)

-- ---- words

-- the words of a record
abbrev pub record_words : List TypedStruct → Option ℕ → ℕ
record_words structs None = 0
record_words structs (Some number) = words_of structs (Struct number)

abbrev pub is_truth : WordMark → Bool
is_truth Plain = false
is_truth Truth = true
is_truth Signed16 = false
is_truth Unsigned16 = false
is_truth Between = false

-- the words of a record that hold a `bool`
abbrev pub bool_words : List TypedStruct → Option ℕ → List ℕ
bool_words structs None = []
bool_words structs (Some number) =
    filter (λ at. is_truth (slice_index_or (marks_in structs (Struct number)) at Plain)) (range_with_len 0 (words_of structs (Struct number)))

-- ---- inputs whose words the groups of a record share (DirectX-Specs, Work Graphs, "RWDispatchNodeInputRecord")

abbrev pub is_shared_word : ObjectWord → Bool
is_shared_word word.DispatchNodeInputRecord = false
is_shared_word word.RwDispatchNodeInputRecord = true
is_shared_word word.GroupNodeInputRecords = false
is_shared_word word.RwGroupNodeInputRecords = false
is_shared_word word.ThreadNodeInputRecord = false
is_shared_word word.RwThreadNodeInputRecord = false
is_shared_word word.EmptyNodeInput = false
is_shared_word word.NodeOutput = false
is_shared_word word.NodeOutputArray = false
is_shared_word word.EmptyNodeOutput = false
is_shared_word word.EmptyNodeOutputArray = false
is_shared_word word.ThreadNodeOutputRecords = false
is_shared_word word.GroupNodeOutputRecords = false

abbrev pub is_shared_type : TypedParameterType → Bool
is_shared_type (parameter.Value of) = false
is_shared_type (parameter.Object place word held) = is_shared_word word

abbrev pub is_shared_in : Option TypedParameter → Bool
is_shared_in None = false
is_shared_in (Some p) = is_shared_type p.of

abbrev pub shares_input : Typed → NodeAttrs → Bool
shares_input typed a = is_shared_in (input_of typed a)
