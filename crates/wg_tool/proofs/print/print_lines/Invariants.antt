use Rattle.std.proofs.Common.{◌≡◌, ◌++◌, List, ℕ, drop}
use Rattle.wg_io.specs.Causes.{Appends}
use Rattle.wg_journal.specs.Texts.{launch_lines}
use Rattle.wg_tool.proofs.print.print_lines.Given as goal

-- the lines so far are written, and those of the entries that are left are not
abbrev pub invariant-loop-place : goal.invariant-loop-place
invariant-loop-place g l =
    record {
      same : g.S.Sink.faults l.out ≡ g.S.Sink.faults l.fn.out;
      front : (front : List ℕ) × (launch_lines l.shape 0 l.entries ≡ front ++ launch_lines l.shape l.place (drop l.place l.entries)) × Appends (g.S.Sink.written l.fn.out) (g.S.Sink.written l.out) front;
    }
