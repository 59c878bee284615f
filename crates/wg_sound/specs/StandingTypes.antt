-- Types that stand in a text: their structs are there, and they have no more words than a type may have.
use Rattle.std.specs.Prelude.{ℕ, ◌==◌, ◌^◌, nat_lt, nat_le, Bool, true, false, ◌&&◌, List, [], length}
use Rattle.wg_facts.specs.Tests.{every}
use Rattle.wg_tree.specs.declared.expr.Scalar.{Scalar}
use Rattle.wg_tree.specs.declared.expr.Scalar.TheVariants as scalar
use Rattle.wg_typed.specs.Layout.{words_of}
use Rattle.wg_typed.specs.Operators.{scalar_of}
use Rattle.wg_typing.specs.Conversions.{is_number}
use Rattle.wg_typing.specs.TypingDeclared.{type_limit}
use Rattle.wg_typed.specs.declared.types.ElementType.TheVariants as element
use Rattle.wg_typed.specs.declared.types.TypeTree.{TypeTree}
use Rattle.wg_typed.specs.declared.types.TypeTree.TheVariants as type
use Rattle.wg_typed.specs.declared.typed.TypedStruct.{TypedStruct}

-- the numbers of structs in a type are below this
abbrev pub names_below : ℕ → TypeTree → Bool
names_below n (type.Scalar of) = true
names_below n (type.Vector of size) = true
names_below n (type.Struct number) = nat_lt number n
names_below n (type.Array (element.Scalar of) size) = true
names_below n (type.Array (element.Vector of count) size) = true
names_below n (type.Array (element.Struct number) size) = nat_lt number n

-- its structs are there, its arrays have elements, and but for a vector it is within the limit on words
abbrev pub stands_in : List TypedStruct → TypeTree → Bool
stands_in structs (type.Scalar of) = true
stands_in structs (type.Vector of size) = true
stands_in structs (type.Struct number) = nat_lt number (length structs) && nat_le (words_of structs (type.Struct number)) type_limit
stands_in structs (type.Array of size) =
    names_below (length structs) (type.Array of size) && (nat_lt 0 size && nat_le (words_of structs (type.Array of size)) type_limit)

abbrev pub is_struct : TypeTree → Bool
is_struct (type.Scalar of) = false
is_struct (type.Vector of size) = false
is_struct (type.Struct number) = true
is_struct (type.Array of size) = false

-- what a word of a scalar's value may be: of `bool` 0 or 1, of 16 and 32 bits below 2 ^ 32. Of 64 bits nothing is said: the high word of a
-- number is as large as the number that is written makes it.
abbrev pub fits_word : Scalar → ℕ → Bool
fits_word scalar.Bool w = nat_lt w 2
fits_word scalar.Int w = nat_lt w (2 ^ 32)
fits_word scalar.Uint w = nat_lt w (2 ^ 32)
fits_word scalar.Int16 w = nat_lt w (2 ^ 32)
fits_word scalar.Uint16 w = nat_lt w (2 ^ 32)
fits_word scalar.Int64 w = true
fits_word scalar.Uint64 w = true

-- as many words as the number type has, each such as its scalar's words are
abbrev pub are_words : List ℕ → TypeTree → Bool
are_words words t = is_number t && (length words == words_of [] t && every (fits_word (scalar_of t)) words)
