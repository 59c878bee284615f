use Rattle.std.proofs.Common.{◌≡◌, ◌+◌, map, take}
use Rattle.wg_emit.proofs.places.behind.Given as goal

abbrev pub invariant-loop-number : goal.invariant-loop-number
invariant-loop-number l = l.list ≡ map (λ c. l.at + c) (take l.number-index l.number-items)
