-- The attributes by name, and where each stands (DirectX-Specs, Work Graphs, shader function attributes).
use Rattle.std.specs.Prelude.{ℕ, Bool, true, false, if◌then◌else◌, List, [], ◌∷◌, Option, Some, None}
use Prim.Native.String.{String}
use Rattle.wg_typing.specs.Named.{is_called}
use Rattle.wg_typing.specs.AttributeSites.{Position, on_struct, on_node, on_plain, on_input, on_output, on_output_array, on_value, on_branch}
use Rattle.wg_typed.specs.declared.typed_stmt.TypedAttribute.{TypedAttribute}
use Rattle.wg_typing.specs.declared.attribute.AttributeName.{AttributeName}
use Rattle.wg_typing.specs.declared.attribute.AttributeName.TheVariants.{Shader, NodeLaunch, NumThreads, DispatchGrid, MaxDispatchGrid, NodeId, ProgramEntry, MaxRecursionDepth, MaxRecords, MaxRecordsSharedWith, NodeArraySize, AllowSparseNodes, TrackSharing, Hint}

abbrev pub attribute_names : List (String × AttributeName)
attribute_names =
    ("Shader", Shader) ∷ ("NodeLaunch", NodeLaunch) ∷ ("NumThreads", NumThreads) ∷ ("NodeDispatchGrid", DispatchGrid)
    ∷ ("NodeMaxDispatchGrid", MaxDispatchGrid) ∷ ("NodeID", NodeId) ∷ ("NodeIsProgramEntry", ProgramEntry)
    ∷ ("NodeMaxRecursionDepth", MaxRecursionDepth) ∷ ("MaxRecords", MaxRecords) ∷ ("MaxRecordsSharedWith", MaxRecordsSharedWith)
    ∷ ("NodeArraySize", NodeArraySize) ∷ ("AllowSparseNodes", AllowSparseNodes) ∷ ("NodeTrackRWInputSharing", TrackSharing)
    ∷ ("unroll", Hint) ∷ ("loop", Hint) ∷ ("branch", Hint) ∷ ("flatten", Hint) ∷ []

-- the attribute of a name
abbrev pub named_in : List (String × AttributeName) → List ℕ → Option AttributeName
named_in [] name = None
named_in (entry ∷ rest) name = if is_called entry.0 name then Some entry.1 else named_in rest name

abbrev pub name_of : TypedAttribute → Option AttributeName
name_of a = named_in attribute_names a.name.name

abbrev pub stands_on_node : AttributeName → Bool
stands_on_node Shader = true
stands_on_node NodeLaunch = true
stands_on_node NumThreads = true
stands_on_node DispatchGrid = true
stands_on_node MaxDispatchGrid = true
stands_on_node NodeId = true
stands_on_node ProgramEntry = true
stands_on_node MaxRecursionDepth = true
stands_on_node _ = false

abbrev pub stands_on_output : AttributeName → Bool
stands_on_output NodeId = true
stands_on_output MaxRecords = true
stands_on_output MaxRecordsSharedWith = true
stands_on_output AllowSparseNodes = true
stands_on_output _ = false

abbrev pub stands : Position → AttributeName → Bool
stands on_struct TrackSharing = true
stands on_struct _ = false
stands (on_node mode) name = stands_on_node name
stands on_plain Shader = true
stands on_plain _ = false
stands (on_input mode) MaxRecords = true
stands (on_input mode) _ = false
stands (on_output here) name = stands_on_output name
stands (on_output_array here) NodeArraySize = true
stands (on_output_array here) name = stands_on_output name
stands on_value name = false
stands on_branch Hint = true
stands on_branch _ = false

abbrev pub where_stands : Position → Option AttributeName → Option AttributeName
where_stands position None = None
where_stands position (Some name) = if stands position name then Some name else None

-- the attribute, where it stands at its position
abbrev pub standing : Position → TypedAttribute → Option AttributeName
standing position a = where_stands position (name_of a)
