-- What a launch of a graph of the first form does: it sends its word, with its node's word added, to its node's target.
use Rattle.std.specs.Prelude.{ℕ, ◌+◌, ◌%◌, ◌^◌, List, [], ◌∷◌, map, slice_get, slice_index, unwrap_or, Option, Some, None}
use Rattle.std.specs.Option.{option_map}
use Rattle.wg_machine.specs.declared.launch.Launch.{Launch}
use Rattle.wg_machine.specs.declared.launch.Record.{Record}
use Rattle.wg_machine.specs.declared.launch.Sent.{Sent}
use Rattle.wg_machine.specs.LaunchMeaning.{Meaning}
use Rattle.wg_tool.specs.declared.pair.Pair.{Pair}
use Rattle.wg_tool.specs.declared.pair.Sends.{Sends}
use Rattle.wg_tool.specs.Wiring.{targets_of}

-- the first word of a launch's first record
abbrev pub word_of_launch : Launch → ℕ
word_of_launch launch = slice_index (unwrap_or (option_map (λ (r : Record). r.words) (slice_get launch.records 0)) []) 0

abbrev pub target_at : List (Option ℕ) → ℕ → Option ℕ
target_at targets u = unwrap_or (slice_get targets u) None

-- one record of one word, or none
abbrev pub one_sent : Option ℕ → ℕ → List Sent
one_sent None word = []
one_sent (Some t) word = record { unit = t; words = word ∷ [] } ∷ []

-- what a launch sends, by the targets and the added words of the units
abbrev pub sent_of : List (Option ℕ) → List ℕ → Launch → List Sent
sent_of targets adds launch = one_sent (target_at targets launch.unit) ((word_of_launch launch + slice_index adds launch.unit) % 2 ^ 32)

-- No request is denied, no turn is made, the buffers stay, and no record is shared.
abbrev pub sender : List (Option ℕ) → List ℕ → Meaning
sender targets adds launch buffers turns = Some (record { sent = sent_of targets adds launch; denied = 0; turns = 0; buffers = buffers; shared = None })

abbrev pub add_of : Option Sends → ℕ
add_of None = 0
add_of (Some s) = s.add

-- for each pair the word that it adds
abbrev pub adds_of : List Pair → List ℕ
adds_of pairs = map (λ (p : Pair). add_of p.sends) pairs

-- the meaning of a graph's bodies
abbrev pub made_of : List Pair → Meaning
made_of pairs = sender (targets_of pairs) (adds_of pairs)
