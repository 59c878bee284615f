use Rattle.std.proofs.Common.{◌≡◌, ◌++◌, drop}
use Rattle.wg_journal.specs.Texts.{launch_lines}
use Rattle.wg_journal.proofs.write.print.Given as goal

-- the text so far and the lines left make all lines
abbrev pub invariant-loop-entry : goal.invariant-loop-entry
invariant-loop-entry l =
    record {
      number : l.number ≡ l.entry-index;
      lines : l.text.items ++ launch_lines l.shape l.number (drop l.entry-index l.entry-items) ≡ launch_lines l.shape 0 l.entry-items;
    }
