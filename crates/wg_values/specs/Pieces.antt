-- Parts of values as the program keeps them.
use Rattle.std.specs.Prelude.{ℕ, List, slice_get, unwrap_or}
use Rattle.wg_typed.specs.Layout.{Range}
use Rattle.wg_typed.specs.declared.types.WordMark.{WordMark}
use Rattle.wg_typed.specs.declared.types.WordMark.TheVariants as mark
use Rattle.wg_semantics.specs.Places.{Setting}
use Rattle.wg_values.specs.declared.extents.Piece.{Piece}
use Rattle.wg_values.specs.declared.place.Setting.{Setting as Given}

abbrev pub range_of : Piece → Range
range_of p = record { from = p.from; to = p.to }

-- the mark of a word by its number; behind the end a word is as it is
abbrev pub mark_at : List WordMark → ℕ → WordMark
mark_at marks at = unwrap_or (slice_get marks at) mark.Plain

abbrev pub setting_of : Given → Setting
setting_of s = record { structs = s.structs.now; handles = s.handles.now; outputs = s.outputs.now; level = s.level; last = s.last; lane = s.lane }
