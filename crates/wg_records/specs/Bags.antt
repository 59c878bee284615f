-- Which bag the live records of a replay are. This project's own.
use Rattle.std.specs.Prelude.{◌≡◌, ⊤, ℕ, ◌+◌, ◌≤◌, ◌==◌, nat_lt, if◌then◌else◌, List, [], ◌∷◌, length, Option, Some, None, sum_by}
use Rattle.std.specs.Map.{lookup}
use Rattle.wg_machine.specs.declared.launch.Live.{Live}
use Rattle.wg_machine.specs.declared.shape.Shape.{Shape}
use Rattle.wg_machine.specs.Run.{times}
use Rattle.wg_machine.specs.Units.{stride_at}
use Rattle.wg_records.specs.declared.live.LiveRecords.{LiveRecords}
use Rattle.wg_records.specs.declared.slot.Slot.{Slot}
use Rattle.wg_records.specs.Slots.{has_left}

-- the record of a number, if there is one
abbrev pub live_at : ℕ → List Live → Option Live
live_at n [] = None
live_at n (r ∷ bag) = if r.number == n then Some r else live_at n bag

-- numbers rise, from n on, and stay below the end
abbrev pub Rises : ℕ → List Live → ℕ → Type 0
Rises n [] end = n ≤ end
Rises n (r ∷ bag) end = (n ≤ r.number) × Rises (r.number + 1) bag end

-- the slot is that of a live record
pub record IsSlotOf (s : Slot) (r : Live) : Type 0 where
  pub unit : s.unit ≡ r.unit
  pub words : s.words ≡ r.words
  pub grid : s.grid ≡ r.grid
  pub left : s.left ≡ length r.groups
  pub groups : (at : List ℕ) → length at ≡ 3 → times at r.groups ≡ (if has_left s at then 1 else 0)

-- a slot stands exactly where there is a record, and is its slot
abbrev pub Matches : Option Slot → Option Live → Type 0
Matches None None = ⊤
Matches (Some s) (Some r) = IsSlotOf s r
Matches None (Some r) = ⊥
Matches (Some s) None = ⊥

-- the bytes of a record: those of an entry record are not counted
abbrev pub bytes_of : Shape → ℕ → ℕ → ℕ → ℕ
bytes_of shape handed number unit = if nat_lt number handed then 0 else stride_at shape unit

abbrev pub bytes_of_bag : Shape → ℕ → List Live → ℕ
bytes_of_bag shape handed bag = sum_by (λ (r : Live). bytes_of shape handed r.number r.unit) bag

-- what is kept at a number
abbrev pub slot_at : LiveRecords → ℕ → Option Slot
slot_at k n = lookup (λ m. n == m) k.slots.entries

-- The records are those of a bag, by number; their bytes are counted.
pub record Keeps (shape : Shape) (k : LiveRecords) (bag : List Live) : Type 0 where
  pub rises : Rises 0 bag k.next
  pub slots : (n : ℕ) → Matches (slot_at k n) (live_at n bag)
  pub bytes : k.bytes ≡ bytes_of_bag shape k.handed bag
