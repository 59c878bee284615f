use Rattle.std.proofs.Common.{◌≡◌, ◌++◌, List, ℕ, length}
use Rattle.std.specs.Option.{option_map}
use Rattle.wg_script.specs.Lines.{all_words}
use Rattle.wg_script.proofs.lines.words.Given as goal

-- the words so far, and those that are left
abbrev pub invariant-loop-field : goal.invariant-loop-field
invariant-loop-field l = option_map (λ (ws : List ℕ). l.words ++ ws) (all_words l.version l.fields) ≡ all_words l.version l.fn.fields

abbrev pub decreases-loop-field : goal.decreases-loop-field
decreases-loop-field l = length l.fields
