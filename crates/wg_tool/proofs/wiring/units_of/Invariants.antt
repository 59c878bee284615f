use Rattle.std.proofs.Common.{◌≡◌, ◌≤◌, ◌++◌, drop}
use Rattle.wg_words.specs.Each.{Each}
use Rattle.wg_machine.specs.declared.shape.Unit.{Unit}
use Rattle.wg_tool.specs.Wiring.{later_units, units_of}
use Rattle.wg_tool.proofs.wiring.units_of.Given as goal

-- the units so far, and those of the targets that are left; no depth is above its place
abbrev pub invariant-loop-place : goal.invariant-loop-place
invariant-loop-place l =
    record {
      so_far : l.units ++ later_units l.targets l.units l.place (drop l.place l.targets) ≡ units_of l.targets;
      shallow : Each (λ (u : Unit). u.depth ≤ l.place) l.units;
    }
