use Rattle.std.proofs.Common.{◌≡◌, length}
use Rattle.wg_journal.specs.Reading.{word_fields}
use Rattle.wg_journal.proofs.FieldLemmas.{after_words}
use Rattle.wg_journal.proofs.fields.Fields.words.Given as goal

-- the words so far, and those that are left
abbrev pub invariant-loop-words : goal.invariant-loop-words
invariant-loop-words l = after_words l.words (word_fields l.self) ≡ word_fields l.fn.self

abbrev pub decreases-loop-words : goal.decreases-loop-words
decreases-loop-words l = length l.self
