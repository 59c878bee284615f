-- What is left of the entries from a place on. This project's own.
use Rattle.std.specs.Prelude.{◌≡◌, ℕ, Bool, true, List, drop, nat_lt, slice_get, IfSome}
use Rattle.std.specs.List.{flat_map}
use Rattle.wg_machine.specs.declared.launch.Live.{Live}
use Rattle.wg_machine.specs.declared.launch.Sent.{Sent}
use Rattle.wg_machine.specs.declared.shape.Shape.{Shape}
use Rattle.wg_machine.specs.Grids.{grid_of, groups_in}
use Rattle.wg_machine.specs.State.{born, kept}
use Rattle.wg_machine.specs.Units.{kind_at}

-- a record has a group
abbrev pub has_groups : Shape → Sent → Bool
has_groups shape s = nat_lt 0 (groups_in (grid_of (kind_at shape s.unit) s.words))

-- the records of the entries from a place on, each with its place as its number; those without a group are none
abbrev pub left_from : Shape → ℕ → List Sent → List Live
left_from shape place entries = flat_map kept (born shape place (drop place entries))

-- the entry at a place, if there is one, has a group
abbrev pub IsAtGroup : Shape → ℕ → List Sent → Type 0
IsAtGroup shape place entries = IfSome (slice_get entries place) (λ (s : Sent). has_groups shape s ≡ true)
