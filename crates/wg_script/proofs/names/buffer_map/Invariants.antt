use Rattle.std.proofs.Common.{◌≡◌, ◌≤◌, ℕ, List, length, drop}
use Rattle.std.specs.Str.{bytes_eq}
use Rattle.wg_script.specs.Naming.{first_from}
use Rattle.wg_text.specs.Names.{found_in}
use Rattle.wg_script.proofs.names.buffer_map.Given as goal

-- the names from a place on are in the map
abbrev pub invariant-loop-place : goal.invariant-loop-place
invariant-loop-place l = record { within : l.place ≤ length l.names; found : (name : List ℕ) → found_in l.map name ≡ first_from (λ (n : List ℕ). bytes_eq n name) l.place (drop l.place l.names) }

abbrev pub decreases-loop-place : goal.decreases-loop-place
decreases-loop-place l = l.place
