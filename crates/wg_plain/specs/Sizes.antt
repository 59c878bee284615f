-- The bytes of live records, and buffers that are counted by 32 bits.
use Rattle.std.specs.Prelude.{ℕ, ◌<◌, ◌^◌, nat_lt, if◌then◌else◌, List, length, sum_by}
use Rattle.wg_machine.specs.declared.shape.Shape.{Shape}
use Rattle.wg_machine.specs.declared.launch.Live.{Live}
use Rattle.wg_machine.specs.Buffers.{Buffers, buffer_at}
use Rattle.wg_machine.specs.Units.{stride_at}

-- the bytes of the records that were born of a launch: `entries` is the number of entry records
abbrev pub bytes_of_bag : Shape → ℕ → List Live → ℕ
bytes_of_bag shape entries bag = sum_by (λ (r : Live). if nat_lt r.number entries then 0 else stride_at shape r.unit) bag

-- the words of each buffer are counted by 32 bits
abbrev pub AreShort : Buffers → Type 0
AreShort buffers = (b : ℕ) → length (buffer_at buffers b) < 2 ^ 32
