use Rattle.std.proofs.Common.{◌≡◌, ◌+◌, ◌≤◌, min, drop}
use Rattle.wg_code.specs.Counts.{requests_in_parts}
use Rattle.wg_code.specs.declared.counts.TheConstants.{ABOVE_REQUESTS}
use Rattle.wg_code.proofs.counts.+parts_counted.Given as goal

abbrev pub invariant-part_list_requests-loop-part : goal.invariant-part_list_requests-loop-part
invariant-part_list_requests-loop-part l =
    (min ABOVE_REQUESTS (l.total + requests_in_parts (drop l.part-index l.parts)) ≡ min ABOVE_REQUESTS (requests_in_parts l.parts)) × (l.total ≤ ABOVE_REQUESTS)
