-- Rule 403 of attributes: the second of one name, of the two grids of a node, or of the two bounds of an output. Its number is own.
use Rattle.std.specs.Prelude.{ℕ, Bool, true, false, ◌||◌, List, [], ◌∷◌, map, Option, Some}
use Rattle.std.specs.Str.{bytes_eq}
use Rattle.std.specs.List.{list_any}
use Rattle.wg_words.specs.declared.place.Place.{Place}
use Rattle.wg_typing.specs.Named.{small, is_same_name, is_among}
use Rattle.wg_typing.specs.AttributeSites.{AttributeSite, AtAttribute, AtNode, AtInput, AtOutput, AtValue, Position}
use Rattle.wg_typing.specs.AttributeNames.{standing}
use Rattle.wg_typing.specs.Sites.{at_if}
use Rattle.wg_typed.specs.declared.typed_stmt.TypedAttribute.{TypedAttribute}
use Rattle.wg_typing.specs.declared.attribute.AttributeName.{AttributeName}
use Rattle.wg_typing.specs.declared.attribute.AttributeName.TheVariants.{DispatchGrid, MaxDispatchGrid, MaxRecords, MaxRecordsSharedWith}

abbrev pub are_rivals : AttributeName → AttributeName → Bool
are_rivals DispatchGrid MaxDispatchGrid = true
are_rivals MaxDispatchGrid DispatchGrid = true
are_rivals MaxRecords MaxRecordsSharedWith = true
are_rivals MaxRecordsSharedWith MaxRecords = true
are_rivals _ _ = false

abbrev pub rival_names : Option AttributeName → Option AttributeName → Bool
rival_names (Some x) (Some y) = are_rivals x y
rival_names _ _ = false

abbrev pub has_one_name : TypedAttribute → TypedAttribute → Bool
has_one_name a b = is_same_name a.name.name b.name.name

abbrev pub clashes : Position → TypedAttribute → TypedAttribute → Bool
clashes position a b = has_one_name b a || rival_names (standing position b) (standing position a)

abbrev pub twice_at : AttributeSite → List Place
twice_at (AtAttribute position before a) = at_if (list_any (clashes position a) before) a.name.place
twice_at (AtNode f fields) = []
twice_at (AtInput mode word p) = []
twice_at (AtOutput array p) = []
twice_at (AtValue mode p) = []

-- ---- the same by what is kept of the attributes before: their names in small letters, and what they are there

abbrev pub small_name : TypedAttribute → List ℕ
small_name a = map small a.name.name

abbrev pub any_rival : Option AttributeName → List (Option AttributeName) → Bool
any_rival name [] = false
any_rival name (x ∷ rest) = rival_names x name || any_rival name rest

abbrev pub clashes_among : Position → List (List ℕ) → List (Option AttributeName) → TypedAttribute → Bool
clashes_among position names stood a = is_among names (small_name a) || any_rival (standing position a) stood
