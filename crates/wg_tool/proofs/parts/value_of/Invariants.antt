use Rattle.std.proofs.Common.{◌≡◌, ◌<◌, drop}
use Rattle.wg_tool.specs.Parts.{value_from}
use Rattle.wg_tool.proofs.parts.value_of.Given as goal

-- what is left goes on with the value
abbrev pub invariant-loop-byte : goal.invariant-loop-byte
invariant-loop-byte l =
    record {
      small : l.value < 100000000000;
      same : value_from l.value (drop l.byte-index l.bytes) ≡ value_from 0 l.bytes;
    }
