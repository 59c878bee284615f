-- How a parameter is passed (HLSL, `in`, `out` and `inout`).
use Rattle.std.specs.Prelude.{Option, Some, None}
use Rattle.wg_tree.specs.declared.item.Direction.{Direction}
use Rattle.wg_tree.specs.declared.item.Direction.TheVariants as direction
use Rattle.wg_tree.specs.declared.item.Directed.{Directed}

-- `in` where none is written
abbrev pub direction_of : Option Directed → Direction
direction_of None = direction.In
direction_of (Some d) = d.direction
