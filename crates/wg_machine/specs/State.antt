-- The state of the machine: the live records, the next number and the buffers.
use Rattle.std.specs.Prelude.{ℕ, ◌+◌, List, [], ◌∷◌, length}
use Rattle.std.specs.List.{flat_map}
use Rattle.wg_machine.specs.declared.shape.Shape.{Shape}
use Rattle.wg_machine.specs.declared.launch.Live.{Live}
use Rattle.wg_machine.specs.declared.launch.Sent.{Sent}
use Rattle.wg_machine.specs.Buffers.{Buffers}
use Rattle.wg_machine.specs.Grids.{grid_of, groups_of}
use Rattle.wg_machine.specs.Units.{kind_at}

-- The bag holds the live records, each once, in rising order of number.
pub record State : Type 0 where
  pub bag : List Live
  pub next : ℕ
  pub buffers : Buffers

-- a record with its grid, which is fixed at its birth, and all the groups of that
abbrev pub live_of : Shape → ℕ → Sent → Live
live_of shape number s =
    record {
      number = number;
      unit = s.unit;
      words = s.words;
      grid = grid_of (kind_at shape s.unit) s.words;
      groups = groups_of (grid_of (kind_at shape s.unit) s.words);
    }

-- records that come to be, numbered on from a number
abbrev pub born : Shape → ℕ → List Sent → List Live
born shape number [] = []
born shape number (s ∷ sent) = live_of shape number s ∷ born shape (number + 1) sent

-- A record without a group left is consumed; one born without a group never enters the bag. This project's own.
abbrev pub kept : Live → List Live
kept r = elim r.groups [ [] ↦ [] | (g ∷ gs) ↦ r ∷ [] ]

-- where a run starts: with the entry records, numbered from 0, and the script's buffers
abbrev pub start : Shape → List Sent → Buffers → State
start shape entries buffers = record { bag = flat_map kept (born shape 0 entries); next = length entries; buffers = buffers }
