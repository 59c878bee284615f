-- What each word of a value is, and the words of a value as they are read from a buffer or from a record of the input: a `bool` is 1 where its
-- word is not 0, of a number of 16 bits the low ones count, and a word between two parts is 0. Own.
use Rattle.std.specs.Prelude.{ℕ, zero, suc, ◌-◌, ◌%◌, ◌^◌, List, [], ◌∷◌, ◌++◌, length, replicate, slice_get, unwrap_or}
use Rattle.wg_words.specs.Truth.{is_true, truth}
use Rattle.wg_tree.specs.declared.expr.Scalar.{Scalar}
use Rattle.wg_tree.specs.declared.expr.Scalar.TheVariants as scalar
use Rattle.wg_typed.specs.declared.types.Extent.{Extent}
use Rattle.wg_typed.specs.declared.types.WordMark.{WordMark}
use Rattle.wg_typed.specs.declared.types.WordMark.TheVariants as mark
use Rattle.wg_typed.specs.declared.types.ElementType.{ElementType}
use Rattle.wg_typed.specs.declared.types.ElementType.TheVariants as element
use Rattle.wg_typed.specs.declared.types.TypeTree.{TypeTree}
use Rattle.wg_typed.specs.declared.types.TypeTree.TheVariants as type
use Rattle.wg_typed.specs.declared.typed.TypedStruct.{TypedStruct}
use Rattle.wg_typed.specs.Layout.{type_extent, extents_of, begins, fields_extent, field_types}
use Rattle.wg_typed.specs.Operators.{extended}

-- ---- the marks of a type's words

-- a word of the scalar
abbrev pub scalar_mark : Scalar → WordMark
scalar_mark scalar.Bool = mark.Truth
scalar_mark scalar.Int = mark.Plain
scalar_mark scalar.Uint = mark.Plain
scalar_mark scalar.Int16 = mark.Signed16
scalar_mark scalar.Uint16 = mark.Unsigned16
scalar_mark scalar.Int64 = mark.Plain
scalar_mark scalar.Uint64 = mark.Plain

-- where the structs of the text have these marks, by number
abbrev pub struct_marks : List (List WordMark) → ℕ → List WordMark
struct_marks known number = unwrap_or (slice_get known number) []

abbrev pub element_marks : List Extent → List (List WordMark) → ElementType → List WordMark
element_marks extents known (element.Scalar of) = replicate (type_extent extents (type.Scalar of)).words (scalar_mark of)
element_marks extents known (element.Vector of size) = replicate size (scalar_mark of)
element_marks extents known (element.Struct number) = struct_marks known number

abbrev pub repeated : ℕ → List WordMark → List WordMark
repeated zero marks = []
repeated (suc n) marks = marks ++ repeated n marks

abbrev pub type_marks : List Extent → List (List WordMark) → TypeTree → List WordMark
type_marks extents known (type.Scalar of) = replicate (type_extent extents (type.Scalar of)).words (scalar_mark of)
type_marks extents known (type.Vector of size) = replicate size (scalar_mark of)
type_marks extents known (type.Struct number) = struct_marks known number
type_marks extents known (type.Array of size) = repeated size (element_marks extents known of)

-- marks with words between two parts behind them, up to so many
abbrev pub filled_up : ℕ → List WordMark → List WordMark
filled_up size marks = marks ++ replicate (size - length marks) mark.Between

-- the marks with those of parts of these types behind them, each where it begins
abbrev pub marks_behind : List Extent → List (List WordMark) → List WordMark → List TypeTree → List WordMark
marks_behind extents known marks [] = marks
marks_behind extents known marks (t ∷ rest) =
    marks_behind extents known (filled_up (begins (type_extent extents t) (length marks)) marks ++ type_marks extents known t) rest

-- the marks of a struct with fields of these types
abbrev pub fields_marks : List Extent → List (List WordMark) → List TypeTree → List WordMark
fields_marks extents known types = filled_up (fields_extent extents types).words (marks_behind extents known [] types)

-- the fields of a struct name only structs before it
abbrev pub marks_after : List Extent → List (List WordMark) → List TypedStruct → List (List WordMark)
marks_after extents known [] = known
marks_after extents known (s ∷ rest) = marks_after extents (known ++ fields_marks extents known (field_types s) ∷ []) rest

-- what each word of a value of the type is
abbrev pub marks_in : List TypedStruct → TypeTree → List WordMark
marks_in structs t = type_marks (extents_of structs) (marks_after (extents_of structs) [] structs) t

-- ---- reading

-- a word as it is read
abbrev pub cleaned_word : WordMark → ℕ → ℕ
cleaned_word mark.Plain word = word
cleaned_word mark.Truth word = truth (is_true word)
cleaned_word mark.Signed16 word = extended (word % 2 ^ 16)
cleaned_word mark.Unsigned16 word = word % 2 ^ 16
cleaned_word mark.Between word = 0

-- the words of a value as they are read
abbrev pub cleaned : List WordMark → List ℕ → List ℕ
cleaned marks [] = []
cleaned [] (word ∷ words) = word ∷ words
cleaned (m ∷ marks) (word ∷ words) = cleaned_word m word ∷ cleaned marks words
