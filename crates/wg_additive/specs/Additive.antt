-- Which texts only add to the shared buffers, so that the order of their launches does not show there. Own.
use Rattle.std.specs.Prelude.{ℕ, Bool, true, false, not, ◌&&◌, List, Option, Some, None, slice_get}
use Rattle.std.specs.List.{list_all}
use Rattle.wg_tree.specs.declared.stmt.ObjectWord.{ObjectWord}
use Rattle.wg_tree.specs.declared.stmt.ObjectWord.TheVariants as word
use Rattle.wg_typed.specs.declared.typed.Typed.{Typed}
use Rattle.wg_typed.specs.declared.typed.TypedEntry.{TypedEntry}
use Rattle.wg_typed.specs.declared.typed.TypedFunction.{TypedFunction}
use Rattle.wg_typed.specs.declared.typed.TypedParameter.{TypedParameter}
use Rattle.wg_typed.specs.declared.typed.TypedParameterType.{TypedParameterType}
use Rattle.wg_typed.specs.declared.typed.TypedParameterType.TheVariants as parameter
use Rattle.wg_additive.specs.Touch.{Touch, a_read, a_store, an_addition, an_exchange}
use Rattle.wg_additive.specs.TextTouches.{text_touches}

-- the writable input of a broadcasting node, which all groups of its record share (DirectX-Specs, Work Graphs, node inputs)
abbrev pub is_shared_word : ObjectWord → Bool
is_shared_word word.DispatchNodeInputRecord = false
is_shared_word word.RwDispatchNodeInputRecord = true
is_shared_word word.GroupNodeInputRecords = false
is_shared_word word.RwGroupNodeInputRecords = false
is_shared_word word.ThreadNodeInputRecord = false
is_shared_word word.RwThreadNodeInputRecord = false
is_shared_word word.EmptyNodeInput = false
is_shared_word word.NodeOutput = false
is_shared_word word.NodeOutputArray = false
is_shared_word word.EmptyNodeOutput = false
is_shared_word word.EmptyNodeOutputArray = false
is_shared_word word.ThreadNodeOutputRecords = false
is_shared_word word.GroupNodeOutputRecords = false

abbrev pub is_shared_type : TypedParameterType → Bool
is_shared_type (parameter.Value of) = false
is_shared_type (parameter.Object place object record_type) = is_shared_word object

abbrev pub is_shared_input : Option TypedParameter → Bool
is_shared_input None = false
is_shared_input (Some p) = is_shared_type p.of

-- the parameter of a number, if there is a number
abbrev pub input_in : List TypedParameter → Option ℕ → Option TypedParameter
input_in parameters None = None
input_in parameters (Some number) = slice_get parameters number

abbrev pub entry_shares : List TypedParameter → Option TypedEntry → Bool
entry_shares parameters None = false
entry_shares parameters (Some e) = is_shared_input (input_in parameters e.input)

-- a node whose input record is writable and shared between groups
abbrev pub shares_its_input : TypedFunction → Bool
shares_its_input f = entry_shares f.parameters f.entry

abbrev pub only_adds : Touch → Bool
only_adds a_read = false
only_adds a_store = false
only_adds an_addition = true
only_adds an_exchange = false

-- No node coalesces, none shares its input's words, and all that is done to buffers is to add. `coalesces` says of a function whether
-- it is a coalescing node, which its attributes tell.
abbrev pub is_additive : (TypedFunction → Bool) → Typed → Bool
is_additive coalesces text =
    list_all (λ (f : TypedFunction). not (coalesces f)) text.functions
    && list_all (λ (f : TypedFunction). not (shares_its_input f)) text.functions
    && list_all only_adds (text_touches text)
