use Rattle.std.proofs.Common.{◌≡◌, map}
use Rattle.wg_script.specs.Script.{count_given, words_given}
use Rattle.wg_script.proofs.draft.Draft.finish.Given as goal

-- the lengths and the words of the buffers so far
abbrev pub invariant-loop-slot : goal.invariant-loop-slot
invariant-loop-slot l = record { lengths : l.lengths ≡ map count_given l.yielded; start : l.start ≡ map words_given l.yielded }
