-- The field that gives a record's grid (DirectX-Specs, Work Graphs, node inputs).
use Rattle.std.specs.Prelude.{Bool, false, ◌&&◌, codes, Option, Some, None}
use Prim.Native.String.{String}
use Rattle.std.specs.Str.{bytes_eq}
use Rattle.wg_typing.specs.TypingSystem.{is_uint_up_to_3}
use Rattle.wg_tree.specs.declared.expr.Named.{Named}
use Rattle.wg_typed.specs.declared.typed.TypedField.{TypedField}

abbrev pub is_named : String → Option Named → Bool
is_named word None = false
is_named word (Some n) = bytes_eq (codes word) n.name

-- a field that may give a record's grid
abbrev pub is_grid_field : TypedField → Bool
is_grid_field f = is_named "SV_DispatchGrid" f.semantic && is_uint_up_to_3 f.of
