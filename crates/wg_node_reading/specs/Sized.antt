-- What the structs of a text keep to, as in every text that breaks no typing rule: each names only structs before it, and has no more words
-- than a type may have. The limit is this project's own.
use Rattle.std.specs.Prelude.{ℕ, ◌≤◌, List}
use Rattle.wg_words.specs.declared.limits.TheConstants.{MOST_TYPE_WORDS}
use Rattle.wg_typed.specs.Layout.{AreInOrder, words_of}
use Rattle.wg_typed.specs.declared.typed.TypedStruct.{TypedStruct}
use Rattle.wg_typed.specs.declared.types.TypeTree.TheVariants as type

pub record AreSized (structs : List TypedStruct) : Type 0 where
  pub order : AreInOrder structs
  pub few : (number : ℕ) → words_of structs (type.Struct number) ≤ MOST_TYPE_WORDS
