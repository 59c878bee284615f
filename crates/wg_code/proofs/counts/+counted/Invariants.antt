use Rattle.std.proofs.Common.{◌≡◌, ◌+◌, ◌≤◌, min, drop}
use Rattle.wg_code.specs.Counts.{requests_in}
use Rattle.wg_code.specs.declared.counts.TheConstants.{ABOVE_REQUESTS}
use Rattle.wg_code.proofs.counts.+counted.Given as goal

abbrev pub invariant-requests-loop-op : goal.invariant-requests-loop-op
invariant-requests-loop-op l =
    (min ABOVE_REQUESTS (l.total + requests_in (drop l.op-index l.ops)) ≡ min ABOVE_REQUESTS (requests_in l.ops)) × (l.total ≤ ABOVE_REQUESTS)
