-- The first form of a graph: pairs of lines, a thread node each, of which some send to a later one. This project's own.
use Rattle.std.specs.Prelude.{◌≡◌, ⊤, ℕ, ◌^◌, ◌<◌, ◌≤◌, ◌&&◌, Bool, true, false, if◌then◌else◌, List, [], ◌∷◌, ◌++◌, length, Option, Some, None, IsTrue}
use Rattle.std.specs.Fmt.{decimal}
use Rattle.std.specs.List.{list_any}
use Rattle.std.specs.Str.{bytes_eq}
use Rattle.wg_words.specs.Each.{Each}
use Rattle.wg_tool.specs.declared.pair.Pair.{Pair}
use Rattle.wg_tool.specs.declared.pair.Sends.{Sends}
use Rattle.wg_tool.specs.declared.pair.TheConstants.{STRUCT_LINE, PAIR_HEAD, INPUT, QUIET, OPENS, REQUESTS, ADDS, ENDS}
use Rattle.wg_tool.specs.Parts.{is_name}

-- a pair up to its input parameter
abbrev pub head_text : List ℕ → List ℕ
head_text name = PAIR_HEAD.now ++ (name ++ INPUT.now)

-- a second line's output parameter and body, up to the added word
abbrev pub target_text : List ℕ → List ℕ
target_text target = OPENS.now ++ (target ++ (REQUESTS.now ++ (target ++ ADDS.now)))

-- what follows the input parameter of a node that sends
abbrev pub sending_text : List ℕ → ℕ → List ℕ
sending_text target add = target_text target ++ (decimal add ++ ENDS.now)

-- what follows the input parameter
abbrev pub sends_text : Option Sends → List ℕ
sends_text None = QUIET.now
sends_text (Some s) = sending_text s.target s.add

abbrev pub pair_text : Pair → List ℕ
pair_text p = head_text p.name ++ sends_text p.sends

abbrev pub pairs_text : List Pair → List ℕ
pairs_text [] = []
pairs_text (p ∷ pairs) = pair_text p ++ pairs_text pairs

-- the text of a graph
abbrev pub graph_text : List Pair → List ℕ
graph_text pairs = STRUCT_LINE.now ++ pairs_text pairs

-- what is sent goes to a name, with a word added
abbrev pub IsGoodSends : Option Sends → Type 0
IsGoodSends None = ⊤
IsGoodSends (Some s) = IsTrue (is_name s.target) × (s.add < 2 ^ 32)

pub record IsGoodPair (p : Pair) : Type 0 where
  pub name : IsTrue (is_name p.name)
  pub sends : IsGoodSends p.sends

abbrev pub is_named : List ℕ → Pair → Bool
is_named name p = bytes_eq p.name name

-- no name stands twice
abbrev pub names_differ : List Pair → Bool
names_differ [] = true
names_differ (p ∷ pairs) = (if list_any (is_named p.name) pairs then false else true) && names_differ pairs

-- what is sent goes to one of the pairs
abbrev pub has_target : Option Sends → List Pair → Bool
has_target None pairs = true
has_target (Some s) pairs = list_any (is_named s.target) pairs

-- each target is a later pair
abbrev pub targets_are_later : List Pair → Bool
targets_are_later [] = true
targets_are_later (p ∷ pairs) = has_target p.sends pairs && targets_are_later pairs

-- The pairs are those of a graph of the first form: 1 to 32, of which each sends to a later one or to none.
pub record IsFirstForm (pairs : List Pair) : Type 0 where
  pub some : 1 ≤ length pairs
  pub few : length pairs ≤ 32
  pub each : Each IsGoodPair pairs
  pub differ : IsTrue (names_differ pairs)
  pub later : IsTrue (targets_are_later pairs)

-- no graph of the first form has the text
abbrev pub IsNoGraph : List ℕ → Type 0
IsNoGraph text = (pairs : List Pair) → IsFirstForm pairs → text ≡ graph_text pairs → ⊥
