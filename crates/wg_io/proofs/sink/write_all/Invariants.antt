use Rattle.std.proofs.Common.{◌≡◌, ◌++◌, List, ℕ}
use Rattle.std.specs.Prelude.{length}
use Rattle.wg_io.specs.Causes.{Appends}
use Rattle.wg_io.proofs.sink.write_all.Given as goal

-- a front is written, the rest is left, and no write has failed
abbrev pub invariant-loop-rest : goal.invariant-loop-rest
invariant-loop-rest g l =
    record {
      same : g.S.Sink.faults l.out ≡ g.S.Sink.faults l.fn.out;
      front : (front : List ℕ) × (l.bytes ≡ front ++ l.rest) × Appends (g.S.Sink.written l.fn.out) (g.S.Sink.written l.out) front;
    }

abbrev pub decreases-loop-rest : goal.decreases-loop-rest
decreases-loop-rest g l = length l.rest
