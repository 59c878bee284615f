-- What the words of a struct's value are made of: each field's range holds the field's words, and every other word is 0.
use Rattle.std.specs.Prelude.{ℕ, ◌≡◌, ◌<◌, ◌≤◌, ◌⊎◌, List, length, map, Some, slice_get, slice_index}
use Rattle.wg_words.specs.Each.{Each}
use Rattle.wg_typed.specs.declared.types.TypeTree.TheVariants as type
use Rattle.wg_typed.specs.declared.typed.TypedStruct.{TypedStruct}
use Rattle.wg_typed.specs.Layout.{Range, field_types, words_of, words_in, field_ranges, field_range, put_fields}

-- parts that have as many words as the fields' types
abbrev pub AreParts : List TypedStruct → TypedStruct → List (List ℕ) → Type 0
AreParts structs s parts = map length parts ≡ map (words_of structs) (field_types s)

-- a word that is in none of the ranges
abbrev pub IsBetween : ℕ → List Range → Type 0
IsBetween at ranges = Each (λ r. (at < r.from) ⊎ (r.to ≤ at)) ranges

pub record HoldsFields (structs : List TypedStruct) (number : ℕ) (parts : List (List ℕ)) : Type 0 where
  pub size : length (put_fields structs (type.Struct number) parts) ≡ words_of structs (type.Struct number)
  pub fields : (k : ℕ) (part : List ℕ) → slice_get parts k ≡ Some part → words_in (field_range structs (type.Struct number) k) (put_fields structs (type.Struct number) parts) ≡ part
  pub between : (at : ℕ) → IsBetween at (field_ranges structs (type.Struct number)) → slice_index (put_fields structs (type.Struct number) parts) at ≡ 0
