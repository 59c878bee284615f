-- What a text's structs take, as a table holds it: one above the greatest number of words that a type may have stands for any greater.
use Rattle.std.specs.Prelude.{ℕ, ◌+◌, List, map, min}
use Rattle.wg_words.specs.declared.limits.TheConstants.{MOST_TYPE_WORDS}
use Rattle.wg_typed.specs.Layout.{extents_of}
use Rattle.wg_typed.specs.declared.types.Extent.{Extent}
use Rattle.wg_typed.specs.declared.typed.TypedStruct.{TypedStruct}

-- a number of words, or one above the limit
abbrev pub capped : ℕ → ℕ
capped words = min (MOST_TYPE_WORDS + 1) words

abbrev pub capped_extent : Extent → Extent
capped_extent x = record { words = capped x.words; even = x.even }

abbrev pub table_of : List TypedStruct → List Extent
table_of structs = map capped_extent (extents_of structs)
