use Rattle.std.proofs.Common.{◌≡◌, map}
use Rattle.std.specs.List.{range_with_len}
use Rattle.wg_directories.specs.Listed.{listed_at}
use Rattle.wg_directories.proofs.of_output.elements.Given as goal

abbrev pub invariant-loop-e : goal.invariant-loop-e
invariant-loop-e l = l.places ≡ map (listed_at l.directory l.o.name) (range_with_len l.o.index l.e)
