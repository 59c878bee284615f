-- How values of a type are laid out in words: a scalar of 64 bits is two words, the low one first, any other is one, and a vector, a struct
-- and an array are their parts' words in order. A type with a part of 64 bits is even: it begins at an even word, and takes an even
-- number of them. A record and a slot are laid out so. Own.
use Rattle.std.specs.Prelude.{ℕ, ⊤, ◌≡◌, ◌<◌, ◌+◌, ◌*◌, ◌%◌, Bool, true, false, ◌||◌, if◌then◌else◌, List, [], ◌∷◌, ◌++◌, length, map, take, drop, replicate, ◌-◌, Option, Some, None, unwrap_or, slice_get}
use Rattle.wg_words.specs.Each.{Each}
use Rattle.wg_tree.specs.declared.expr.Scalar.{Scalar}
use Rattle.wg_tree.specs.declared.expr.Scalar.TheVariants as scalar
use Rattle.wg_typed.specs.declared.types.Extent.{Extent}
use Rattle.wg_typed.specs.declared.types.ElementType.{ElementType}
use Rattle.wg_typed.specs.declared.types.ElementType.TheVariants as element
use Rattle.wg_typed.specs.declared.types.TypeTree.{TypeTree}
use Rattle.wg_typed.specs.declared.types.TypeTree.TheVariants as type
use Rattle.wg_typed.specs.declared.typed.TypedField.{TypedField}
use Rattle.wg_typed.specs.declared.typed.TypedStruct.{TypedStruct}

-- ---- what types take, where the structs have these extents, by number

abbrev pub plain_extent : ℕ → Extent
plain_extent words = record { words = words; even = false }

abbrev pub scalar_extent : Scalar → Extent
scalar_extent scalar.Bool = plain_extent 1
scalar_extent scalar.Int = plain_extent 1
scalar_extent scalar.Uint = plain_extent 1
scalar_extent scalar.Int16 = plain_extent 1
scalar_extent scalar.Uint16 = plain_extent 1
scalar_extent scalar.Int64 = record { words = 2; even = true }
scalar_extent scalar.Uint64 = record { words = 2; even = true }

-- no words where the text has no struct of that number
abbrev pub struct_extent : List Extent → ℕ → Extent
struct_extent extents number = unwrap_or (slice_get extents number) (plain_extent 0)

abbrev pub element_extent : List Extent → ElementType → Extent
element_extent extents (element.Scalar of) = scalar_extent of
element_extent extents (element.Vector of size) = plain_extent size
element_extent extents (element.Struct number) = struct_extent extents number

-- so many of one extent, with nothing between
abbrev pub repeated_extent : ℕ → Extent → Extent
repeated_extent size x = record { words = size * x.words; even = x.even }

abbrev pub type_extent : List Extent → TypeTree → Extent
type_extent extents (type.Scalar of) = scalar_extent of
type_extent extents (type.Vector of size) = plain_extent size
type_extent extents (type.Struct number) = struct_extent extents number
type_extent extents (type.Array of size) = repeated_extent size (element_extent extents of)

-- ---- parts one after another

-- a piece of a list of words: from one word up to another
pub record Range : Type 0 where
  pub from : ℕ
  pub to : ℕ

-- the next even number of words, where that is wanted
abbrev pub rounded : Bool → ℕ → ℕ
rounded even words = if even then words + words % 2 else words

-- the word at which a part of this extent begins, after so many words
abbrev pub begins : Extent → ℕ → ℕ
begins x at = rounded x.even at

abbrev pub range_at : List Extent → ℕ → TypeTree → Range
range_at extents at t = record { from = begins (type_extent extents t) at; to = begins (type_extent extents t) at + (type_extent extents t).words }

-- the ranges of parts of these types, after so many words
abbrev pub ranges_after : List Extent → ℕ → List TypeTree → List Range
ranges_after extents at [] = []
ranges_after extents at (t ∷ rest) = range_at extents at t ∷ ranges_after extents (range_at extents at t).to rest

-- where the last part ends
abbrev pub end_after : List Extent → ℕ → List TypeTree → ℕ
end_after extents at [] = at
end_after extents at (t ∷ rest) = end_after extents (range_at extents at t).to rest

-- whether one of the types is even
abbrev pub has_even : List Extent → List TypeTree → Bool
has_even extents [] = false
has_even extents (t ∷ rest) = (type_extent extents t).even || has_even extents rest

abbrev pub types_of : List TypedField → List TypeTree
types_of fields = map (λ (f : TypedField). f.of) fields

abbrev pub field_types : TypedStruct → List TypeTree
field_types s = types_of s.fields

-- ---- the structs of a text: the fields of each name only structs before it

-- what a struct with fields of these types takes
abbrev pub fields_extent : List Extent → List TypeTree → Extent
fields_extent extents types = record { words = rounded (has_even extents types) (end_after extents 0 types); even = has_even extents types }

abbrev pub extents_after : List Extent → List TypedStruct → List Extent
extents_after extents [] = extents
extents_after extents (s ∷ rest) = extents_after (extents ++ fields_extent extents (field_types s) ∷ []) rest

abbrev pub extents_of : List TypedStruct → List Extent
extents_of structs = extents_after [] structs

-- what a value of the type takes
abbrev pub extent_of : List TypedStruct → TypeTree → Extent
extent_of structs t = type_extent (extents_of structs) t

-- how many words a value of the type has
abbrev pub words_of : List TypedStruct → TypeTree → ℕ
words_of structs t = (extent_of structs t).words

abbrev pub ranges_in : List TypedStruct → Option TypedStruct → List Range
ranges_in structs None = []
ranges_in structs (Some s) = ranges_after (extents_of structs) 0 (field_types s)

-- where the fields of a struct stand in its words, in order; other types have none
abbrev pub field_ranges : List TypedStruct → TypeTree → List Range
field_ranges structs (type.Struct number) = ranges_in structs (slice_get structs number)
field_ranges structs (type.Scalar of) = []
field_ranges structs (type.Vector of size) = []
field_ranges structs (type.Array of size) = []

abbrev pub nowhere : Range
nowhere = record { from = 0; to = 0 }

-- where a field of a struct stands, by its number
abbrev pub field_range : List TypedStruct → TypeTree → ℕ → Range
field_range structs t field = unwrap_or (slice_get (field_ranges structs t) field) nowhere

abbrev pub element_type : ElementType → TypeTree
element_type (element.Scalar of) = type.Scalar of
element_type (element.Vector of size) = type.Vector of size
element_type (element.Struct number) = type.Struct number

-- where an element of an array stands
abbrev pub element_range : List TypedStruct → ElementType → ℕ → Range
element_range structs of at = record { from = at * words_of structs (element_type of); to = (at + 1) * words_of structs (element_type of) }

-- ---- the order of structs

-- a type that names only structs of lower numbers
abbrev pub NamesBelow : ℕ → TypeTree → Type 0
NamesBelow n (type.Scalar of) = ⊤
NamesBelow n (type.Vector of size) = ⊤
NamesBelow n (type.Struct number) = number < n
NamesBelow n (type.Array (element.Scalar of) size) = ⊤
NamesBelow n (type.Array (element.Vector of count) size) = ⊤
NamesBelow n (type.Array (element.Struct number) size) = number < n

-- the fields of each struct name only structs before it, as in every well-typed text
abbrev pub AreInOrder : List TypedStruct → Type 0
AreInOrder structs = (n : ℕ) (s : TypedStruct) → slice_get structs n ≡ Some s → Each (NamesBelow n) (field_types s)

-- ---- values: the words of a value are those of its parts

-- the words of a value whose parts, in order and with nothing between, have these words
abbrev pub put : List (List ℕ) → List ℕ
put [] = []
put (part ∷ rest) = part ++ put rest

-- the words with zeros behind them, up to so many
abbrev pub padded : ℕ → List ℕ → List ℕ
padded size words = words ++ replicate (size - length words) 0

-- the words with those of parts behind them, each where its range begins
abbrev pub put_after : List ℕ → List Range → List (List ℕ) → List ℕ
put_after words [] parts = words
put_after words (r ∷ rest) [] = words
put_after words (r ∷ rest) (part ∷ parts) = put_after (padded r.from words ++ part) rest parts

-- the words of a struct's value whose fields have these words, with zeros between them
abbrev pub put_fields : List TypedStruct → TypeTree → List (List ℕ) → List ℕ
put_fields structs t parts = padded (words_of structs t) (put_after [] (field_ranges structs t) parts)

-- the words that stand in a range
abbrev pub words_in : Range → List ℕ → List ℕ
words_in r words = take (r.to - r.from) (drop r.from words)
