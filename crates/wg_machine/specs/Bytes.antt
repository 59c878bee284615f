-- The bytes of live records, and of a plan's slots. Entry records take none. This project's own.
use Rattle.std.specs.Prelude.{ℕ, ◌*◌, ◌==◌, ◌&&◌, ◌≤◌, max, nat_lt, nat_le, if◌then◌else◌, List, [], ◌∷◌, length, sum_by, count_by}
use Rattle.std.specs.List.{range_with_len}
use Rattle.wg_machine.specs.declared.shape.Shape.{Shape}
use Rattle.wg_machine.specs.declared.launch.Live.{Live}
use Rattle.wg_machine.specs.Need.{most}
use Rattle.wg_machine.specs.State.{State}
use Rattle.wg_machine.specs.Step.{Passed}
use Rattle.wg_machine.specs.Units.{stride_at}

-- the bytes of the live records that were born of a launch: `entries` is the number of entry records
abbrev pub live_bytes : Shape → ℕ → State → ℕ
live_bytes shape entries s = sum_by (λ (r : Live). if nat_lt r.number entries then 0 else stride_at shape r.unit) s.bag

-- the least bytes of a plan: room for one launch of any unit
abbrev pub least : Shape → ℕ
least shape = sum_by (λ v. most shape v * stride_at shape v) (range_with_len 0 (length shape.units))

-- the bytes of a plan for so many launches out at a time
abbrev pub plan_bytes : Shape → ℕ → ℕ
plan_bytes shape width = width * least shape

-- the greatest number of live bytes at any prefix of a run
abbrev pub peak : Shape → ℕ → State → List Passed → ℕ
peak shape entries s [] = live_bytes shape entries s
peak shape entries s (p ∷ trail) = max (live_bytes shape entries s) (peak shape entries p.after trail)

-- how many live records of a unit were born of a launch
abbrev pub used : ℕ → State → ℕ → ℕ
used entries s v = count_by (λ (r : Live). (r.unit == v) && nat_le entries r.number) s.bag

-- the records at each unit fit the slots of a plan
abbrev pub KeepsSlots : Shape → ℕ → ℕ → State → Type 0
KeepsSlots shape width entries s = (v : ℕ) → used entries s v ≤ width * most shape v
