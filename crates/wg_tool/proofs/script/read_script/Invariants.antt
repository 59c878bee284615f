use Rattle.std.proofs.Common.{◌≡◌, ◌≤◌, ◌++◌, List, length}
use Rattle.wg_words.specs.Each.{Each}
use Rattle.wg_machine.specs.declared.launch.Sent.{Sent}
use Rattle.wg_tool.specs.Script.{entry_lines, script_text, IsFormEntry}
use Rattle.wg_tool.specs.declared.script.TheConstants.{SCRIPT_LINE}
use Rattle.wg_tool.proofs.script.read_script.Given as goal

-- the entries so far begin the script, and only they do
abbrev pub invariant-loop-rest : goal.invariant-loop-rest
invariant-loop-rest l =
    record {
      so_far : l.text ≡ SCRIPT_LINE.now ++ (entry_lines l.pairs l.entries.items ++ l.rest);
      good : Each (IsFormEntry l.pairs) l.entries.items;
      few : length l.entries.items ≤ 1000;
      only : (entries : List Sent) → Each (IsFormEntry l.pairs) entries → l.text ≡ script_text l.pairs entries → (tail : List Sent) × (entries ≡ l.entries.items ++ tail) × Each (IsFormEntry l.pairs) tail × (l.rest ≡ entry_lines l.pairs tail);
    }

abbrev pub decreases-loop-rest : goal.decreases-loop-rest
decreases-loop-rest l = length l.rest
