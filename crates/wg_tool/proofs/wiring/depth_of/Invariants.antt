use Rattle.std.proofs.Common.{◌≡◌, drop, max}
use Rattle.std.specs.Prelude.{map, filter}
use Rattle.wg_machine.specs.declared.shape.Unit.{Unit}
use Rattle.wg_machine.specs.Need.{greatest}
use Rattle.wg_machine.specs.Unrolling.{sends_to}
use Rattle.wg_tool.proofs.wiring.depth_of.Given as goal

-- the deepest so far, and those that are left
abbrev pub invariant-loop-source : goal.invariant-loop-source
invariant-loop-source l =
    max l.deepest (greatest (map (λ (u : Unit). u.depth) (filter (sends_to l.unit) (drop l.source-index l.units)))) ≡ greatest (map (λ (u : Unit). u.depth) (filter (sends_to l.unit) l.units))
