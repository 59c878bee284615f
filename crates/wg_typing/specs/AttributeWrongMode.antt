-- Rule 405 of attributes: what the launch mode of the node forbids. Its number is own.
use Rattle.std.specs.Prelude.{Bool, true, false, not, ◌&&◌, List, [], Option, Some, None}
use Rattle.wg_words.specs.declared.place.Place.{Place}
use Rattle.wg_typing.specs.AttributeArguments.{in_mode, is_broadcasting, is_coalescing, is_thread}
use Rattle.wg_typing.specs.AttributeSites.{AttributeSite, AtAttribute, AtNode, AtInput, AtOutput, AtValue, Position, on_struct, on_node, on_plain, on_input, on_output, on_output_array, on_value, on_branch}
use Rattle.wg_typing.specs.AttributeNames.{standing}
use Rattle.wg_typed.specs.declared.typed.SystemValue.{SystemValue}
use Rattle.wg_typed.specs.declared.typed.SystemValue.TheVariants as system
use Rattle.wg_typing.specs.Sites.{at_if}
use Rattle.wg_typing.specs.TypingSystem.{system_of}
use Rattle.wg_tree.specs.declared.stmt.ObjectWord.{ObjectWord}
use Rattle.wg_tree.specs.declared.stmt.ObjectWord.TheVariants as object
use Rattle.wg_typing.specs.declared.attribute.AttributeName.{AttributeName}
use Rattle.wg_typing.specs.declared.attribute.AttributeName.TheVariants.{DispatchGrid, MaxDispatchGrid, MaxRecords}
use Rattle.wg_typing.specs.declared.attribute.Mode.{Mode}

abbrev pub is_grid : Option AttributeName → Bool
is_grid (Some DispatchGrid) = true
is_grid (Some MaxDispatchGrid) = true
is_grid _ = false

abbrev pub is_bound : Option AttributeName → Bool
is_bound (Some MaxRecords) = true
is_bound _ = false

-- an attribute that the launch mode forbids: a grid on a node that does not broadcast, a bound on the input of one that does not coalesce
abbrev pub is_forbidden : Position → Option AttributeName → Bool
is_forbidden on_struct name = false
is_forbidden (on_node mode) name = is_grid name && in_mode (λ m. not (is_broadcasting m)) mode
is_forbidden on_plain name = false
is_forbidden (on_input mode) name = is_bound name && in_mode (λ m. not (is_coalescing m)) mode
is_forbidden (on_output here) name = false
is_forbidden (on_output_array here) name = false
is_forbidden on_value name = false
is_forbidden on_branch name = false

-- the inputs of a launch mode
abbrev pub takes : ObjectWord → Mode → Bool
takes object.DispatchNodeInputRecord mode = is_broadcasting mode
takes object.RwDispatchNodeInputRecord mode = is_broadcasting mode
takes object.GroupNodeInputRecords mode = is_coalescing mode
takes object.RwGroupNodeInputRecords mode = is_coalescing mode
takes object.EmptyNodeInput mode = is_coalescing mode
takes object.ThreadNodeInputRecord mode = is_thread mode
takes object.RwThreadNodeInputRecord mode = is_thread mode
takes object.NodeOutput mode = false
takes object.NodeOutputArray mode = false
takes object.EmptyNodeOutput mode = false
takes object.EmptyNodeOutputArray mode = false
takes object.ThreadNodeOutputRecords mode = false
takes object.GroupNodeOutputRecords mode = false

-- the system values of a launch mode: all for broadcasting, the last two for coalescing, none for thread launch; own
abbrev pub gives : SystemValue → Mode → Bool
gives system.DispatchThreadId mode = is_broadcasting mode
gives system.GroupId mode = is_broadcasting mode
gives system.GroupThreadId mode = not (is_thread mode)
gives system.GroupIndex mode = not (is_thread mode)

abbrev pub is_not_given : Option Mode → Option SystemValue → Bool
is_not_given mode None = false
is_not_given mode (Some s) = in_mode (λ m. not (gives s m)) mode

abbrev pub wrong_mode_at : AttributeSite → List Place
wrong_mode_at (AtAttribute position before a) = at_if (is_forbidden position (standing position a)) a.name.place
wrong_mode_at (AtNode f fields) = []
wrong_mode_at (AtInput mode word p) = at_if (in_mode (λ m. not (takes word m)) mode) p.name.place
wrong_mode_at (AtOutput array p) = []
wrong_mode_at (AtValue mode p) = at_if (is_not_given mode (system_of p)) p.name.place
