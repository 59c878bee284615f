use Rattle.std.proofs.Common.{◌≡◌, ◌≤◌, ℕ, List, length, drop}
use Rattle.std.specs.List.{position_from}
use Rattle.wg_shapes.specs.Naming.{is_named}
use Rattle.wg_text.specs.Names.{found_in}
use Rattle.wg_directories.proofs.by_name.table.Given as goal

-- the nodes from a place on are in the table
abbrev pub invariant-loop-place : goal.invariant-loop-place
invariant-loop-place l = record { within : l.place ≤ length l.nodes; found : (name : List ℕ) → found_in l.table name ≡ position_from (is_named name l.index) l.place (drop l.place l.nodes) }

abbrev pub decreases-loop-place : goal.decreases-loop-place
decreases-loop-place l = l.place
