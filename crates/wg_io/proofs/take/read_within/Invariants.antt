use Rattle.std.proofs.Common.{◌≤◌, ◌+◌, length}
use Rattle.std.specs.Io.KnownBytes.{Consumes}
use Rattle.wg_io.specs.Counts.{raised}
use Rattle.wg_io.proofs.take.read_within.Given as goal

-- what was taken so far is a front of the file within the limit, and is counted
abbrev pub invariant-loop : goal.invariant-loop
invariant-loop g l =
    record {
      short : length l.bytes.items ≤ l.limit;
      front : Consumes (g.F.Read.remaining l.fn.file) (g.F.Read.remaining l.file) l.bytes.items;
      counted : raised l.fn.taken (length l.bytes.items) ≤ l.taken;
      no_more : l.taken ≤ l.fn.taken + length l.bytes.items;
      no_less : l.fn.taken ≤ l.taken;
    }
