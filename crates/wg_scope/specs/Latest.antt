-- Where the last of a name stands among declared names.
use Rattle.std.specs.Prelude.{◌≡◌, ℕ, suc, List, [], ◌∷◌, ◌++◌, map, option_map, Option, None}
use Rattle.std.specs.Option.{option_or}
use Rattle.std.specs.Str.{bytes_eq}
use Rattle.wg_words.specs.Maybe.{◌>>=◌}
use Rattle.wg_typing.specs.Maybe.{where_true}
use Rattle.wg_text.specs.Names.{found_in}
use Rattle.wg_typing.specs.declared.scope.Declared.{Declared}
use Rattle.wg_scope.specs.declared.scope.Entry.{Entry}

abbrev pub last_at : List ℕ → List Declared → Option ℕ
last_at name [] = None
last_at name (d ∷ rest) = option_or (option_map suc (last_at name rest)) (where_true (bytes_eq d.name.name name) 0)

abbrev pub declared_in : List Entry → List Declared
declared_in entries = map (λ (e : Entry). e.declared) entries

-- each entry tells where the one of its name stood before it
abbrev pub Chained : List Declared → List Entry → Type 0
Chained before [] = Unit {0}
Chained before (e ∷ rest) = (e.earlier ≡ last_at e.declared.name.name before) × Chained (before ++ e.declared ∷ []) rest

-- what the map of last places has for a name, which may be none again
abbrev pub known_at : List (List ℕ × Option ℕ) → List ℕ → Option ℕ
known_at latest name = found_in latest name >>= (λ at. at)

-- the entries and the map of last places agree
pub record Agrees (entries : List Entry) (latest : List (List ℕ × Option ℕ)) : Type 0 where
  pub found : (name : List ℕ) → known_at latest name ≡ last_at name (declared_in entries)
  pub chained : Chained [] entries
