use Rattle.std.proofs.Common.{◌≡◌, ◌≤◌, ◌<◌, ◌^◌, ℕ, List, length, drop}
use Rattle.std.specs.Option.{option_map}
use Rattle.wg_script.specs.Naming.{first_from, has_name, entry_at}
use Rattle.wg_text.specs.Names.{found_in}
use Rattle.wg_script.specs.Names.{node_key}
use Rattle.wg_script.proofs.names.node_map.Given as goal

-- the nodes from a place on are in the map
abbrev pub invariant-loop-place : goal.invariant-loop-place
invariant-loop-place l =
    record {
      within : l.place ≤ length l.shape.nodes;
      found : (name : List ℕ) (index : ℕ) → index < 2 ^ 32 → found_in l.map (node_key name index) ≡ option_map (entry_at l.shape) (first_from (has_name name index) l.place (drop l.place l.shape.nodes));
    }

abbrev pub decreases-loop-place : goal.decreases-loop-place
decreases-loop-place l = l.place
