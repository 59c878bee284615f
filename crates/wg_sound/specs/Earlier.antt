-- What a checker keeps of the declarations so far, in place of looking at all of them again. Own.
use Rattle.std.specs.Prelude.{◌≡◌, ◌≤◌, ◌+◌, ℕ, if◌then◌else◌, true, List, [], ◌∷◌, slice_get, Some}
use Rattle.std.specs.Str.{bytes_eq}
use Rattle.wg_typing.specs.Named.{is_among}
use Rattle.wg_typing.specs.TypingShared.{shared_size, shared_tree, shared_type}
use Rattle.wg_typing.specs.TypingSoFar.{Text, text_names}
use Rattle.wg_typing.specs.TypingText.{item_name, item_after}
use Rattle.wg_tree.specs.declared.item.Item.{Item}
use Rattle.wg_tree.specs.declared.item.Item.TheVariants as item

-- the words of a groupshared variable that is declared, and nothing of any other declaration
abbrev pub words_added : Text → Item → ℕ
words_added x (item.Struct place attributes name fields) = 0
words_added x (item.Buffer coherent of name registers) = 0
words_added x (item.Shared place of name size) = shared_size x.structs (shared_tree name (shared_type x of size))
words_added x (item.Constant place of name e) = 0
words_added x (item.Function attributes result name parameters place body) = 0

-- a number to which each declaration adds the words of its variable; the second of two of one name adds none
abbrev pub total_after : ℕ → Text → List Item → ℕ
total_after total x [] = total
total_after total x (i ∷ rest) = total_after (if is_among (text_names x) (item_name i).name then total else total + words_added x i) (item_after x i) rest

-- the first place of a name among names
pub record IsFirst (names : List (List ℕ)) (name : List ℕ) (place : ℕ) : Type 0 where
  pub own : List ℕ
  pub there : slice_get names place ≡ Some own
  pub same : bytes_eq own name ≡ true
  pub least : (n : ℕ) (other : List ℕ) → slice_get names n ≡ Some other → bytes_eq other name ≡ true → place ≤ n
