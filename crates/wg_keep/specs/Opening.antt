-- The groups of a record by a cursor and a countdown. This project's own.
use Rattle.std.specs.Prelude.{ℕ, ◌<◌, ◌≤◌, List, drop}
use Rattle.wg_words.specs.declared.limits.TheConstants.{GRID_BOUND}
use Rattle.wg_machine.specs.Grids.{groups_in, groups_of}
use Rattle.wg_keep.specs.declared.opening.Opening.{Opening}

-- the groups that are not opened, in their order
abbrev pub unopened_groups : Opening → List (List ℕ)
unopened_groups o = drop o.opened (groups_of o.grid)

-- none is opened
abbrev pub begun : List ℕ → Opening
begun grid = record { grid = grid; opened = 0; left = groups_in grid }

-- no more groups are opened or left than the grid has, and there are few
pub record IsOpening (o : Opening) : Type 0 where
  pub opened : o.opened ≤ groups_in o.grid
  pub left : o.left ≤ groups_in o.grid
  pub few : groups_in o.grid < GRID_BOUND
