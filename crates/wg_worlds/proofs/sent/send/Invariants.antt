use Rattle.std.proofs.Common.{◌≡◌, ◌++◌, map, take}
use Rattle.wg_worlds.proofs.sent.send.Given as goal

abbrev pub invariant-loop-item : goal.invariant-loop-item
invariant-loop-item l = l.sent ≡ l.initial.sent ++ map (λ words. record { unit = l.unit; words = words }) (take l.item-index l.item-items)
