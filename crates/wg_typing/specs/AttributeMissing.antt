-- Rule 402 of attributes: what a node or an output lacks. Its number is own.
use Rattle.std.specs.Prelude.{Bool, not, ◌&&◌, ◌||◌, is_none, List, []}
use Rattle.std.specs.List.{list_any}
use Rattle.wg_words.specs.declared.place.Place.{Place}
use Rattle.wg_typing.specs.AttributeArguments.{mode_of, has, in_mode, is_broadcasting, is_thread}
use Rattle.wg_typing.specs.AttributeSites.{AttributeSite, AtAttribute, AtNode, AtInput, AtOutput, AtValue}
use Rattle.wg_typing.specs.AttributeSystem.{is_grid_field}
use Rattle.wg_typing.specs.Sites.{at_if}
use Rattle.wg_typing.specs.TypingSystem.{system_of}
use Rattle.wg_typed.specs.declared.typed.TypedField.{TypedField}
use Rattle.wg_typed.specs.declared.typed_stmt.TypedAttribute.{TypedAttribute}

-- what a node lacks: `NodeLaunch`; `NumThreads` but for thread launch; a grid for broadcasting launch, and the field for a greatest grid
abbrev pub node_lacks : List TypedAttribute → List TypedField → Bool
node_lacks attributes fields =
    not (has "NodeLaunch" attributes)
    || (in_mode (λ m. not (is_thread m)) (mode_of attributes) && not (has "NumThreads" attributes))
    || (in_mode is_broadcasting (mode_of attributes) && not (has "NodeDispatchGrid" attributes || has "NodeMaxDispatchGrid" attributes))
    || (in_mode is_broadcasting (mode_of attributes) && has "NodeMaxDispatchGrid" attributes && not (list_any is_grid_field fields))

-- what an output lacks: a bound on its records, and an array its size
abbrev pub output_lacks : Bool → List TypedAttribute → Bool
output_lacks array attributes =
    not (has "MaxRecords" attributes || has "MaxRecordsSharedWith" attributes) || (array && not (has "NodeArraySize" attributes))

abbrev pub missing_at : AttributeSite → List Place
missing_at (AtAttribute position before a) = []
missing_at (AtNode f fields) = at_if (node_lacks f.attributes fields) f.name.place
missing_at (AtInput mode word p) = []
missing_at (AtOutput array p) = at_if (output_lacks array p.attributes) p.name.place
missing_at (AtValue mode p) = at_if (is_none (system_of p)) p.name.place
