-- The layout of a type.
use Rattle.std.specs.Prelude.{◌≡◌, List, map}
use Rattle.wg_typed.specs.declared.types.TypeTree.{TypeTree}
use Rattle.wg_typed.specs.declared.typed.TypedStruct.{TypedStruct}
use Rattle.wg_machine.specs.Units.{stride_of}
use Rattle.wg_typed.specs.Layout.{Range, words_of, field_ranges}
use Rattle.wg_layout.specs.declared.parts.FieldRange.{FieldRange}
use Rattle.wg_layout.specs.declared.parts.Layout.{Layout}

abbrev pub range_of : Range → FieldRange
range_of r = record { from = r.from; to = r.to }

-- the number of words, the bytes of a slot, and the ranges of the fields in order, which only a struct has
pub record IsLayout (structs : List TypedStruct) (t : TypeTree) (l : Layout) : Type 0 where
  pub words : l.words ≡ words_of structs t
  pub stride : l.stride ≡ stride_of (words_of structs t)
  pub fields : l.fields ≡ map range_of (field_ranges structs t)
