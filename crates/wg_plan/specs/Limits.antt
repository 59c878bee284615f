-- What keeps the numbers of a plan small. Every good shape keeps to it (`good_shapes_are_small`).
use Rattle.std.specs.Prelude.{◌≤◌, length, All}
use Rattle.wg_machine.specs.declared.shape.Shape.{Shape}
use Rattle.wg_machine.specs.declared.shape.Unit.{Unit}

-- few outputs, and each `MaxRecords` and the stride within the limits of a graph
pub record IsSmallUnit (u : Unit) : Type 0 where
  pub outputs : length u.outputs ≤ 64
  pub budgets : All (λ most. most ≤ 256) u.budgets
  pub stride : u.stride ≤ 8192

pub record IsSmall (shape : Shape) : Type 0 where
  pub count : length shape.units ≤ 8192
  pub units : All IsSmallUnit shape.units
