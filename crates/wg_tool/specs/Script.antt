-- The first form of a script: entry records of one word, for nodes to which nothing is sent. This project's own.
use Rattle.std.specs.Prelude.{◌≡◌, ℕ, ◌^◌, ◌<◌, ◌≤◌, List, [], ◌∷◌, ◌++◌, length, slice_get, slice_index, unwrap_or, IsTrue}
use Rattle.std.specs.Option.{option_map}
use Rattle.std.specs.Fmt.{decimal}
use Rattle.wg_words.specs.Each.{Each}
use Rattle.wg_machine.specs.declared.launch.Sent.{Sent}
use Rattle.wg_tool.specs.declared.pair.Pair.{Pair}
use Rattle.wg_tool.specs.declared.script.TheConstants.{SCRIPT_LINE, ENTRY, BLANK, LINE_END}
use Rattle.wg_tool.specs.Wiring.{targets_of, is_free}

-- a node's name and a word, as the line of an entry record
abbrev pub entry_line : List ℕ → ℕ → List ℕ
entry_line name word = ENTRY.now ++ (name ++ (BLANK.now ++ (decimal word ++ LINE_END.now)))

abbrev pub pair_name_at : List Pair → ℕ → List ℕ
pair_name_at pairs u = unwrap_or (option_map (λ (p : Pair). p.name) (slice_get pairs u)) []

-- the line of an entry record
abbrev pub line_of : List Pair → Sent → List ℕ
line_of pairs s = entry_line (pair_name_at pairs s.unit) (slice_index s.words 0)

abbrev pub entry_lines : List Pair → List Sent → List ℕ
entry_lines pairs [] = []
entry_lines pairs (s ∷ entries) = line_of pairs s ++ entry_lines pairs entries

-- the text of a script
abbrev pub script_text : List Pair → List Sent → List ℕ
script_text pairs entries = SCRIPT_LINE.now ++ entry_lines pairs entries

-- an entry record of one word, for a node to which nothing is sent
pub record IsFormEntry (pairs : List Pair) (s : Sent) : Type 0 where
  pub unit : s.unit < length pairs
  pub free : IsTrue (is_free (targets_of pairs) s.unit)
  pub one : s.words ≡ slice_index s.words 0 ∷ []
  pub word : slice_index s.words 0 < 2 ^ 32

-- The entries are those of a script of the first form: at most 1,000.
pub record IsFormScript (pairs : List Pair) (entries : List Sent) : Type 0 where
  pub few : length entries ≤ 1000
  pub each : Each (IsFormEntry pairs) entries

-- no script of the first form has the text
abbrev pub IsNoScript : List Pair → List ℕ → Type 0
IsNoScript pairs text = (entries : List Sent) → IsFormScript pairs entries → text ≡ script_text pairs entries → ⊥
