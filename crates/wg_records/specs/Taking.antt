-- What one record leaves after a group of it has run. This project's own.
use Rattle.std.specs.Prelude.{◌≡◌, ℕ, ◌-◌, ◌≤◌, ◌==◌, nat_le, if◌then◌else◌, false, List, Option, Some, None}
use Rattle.wg_machine.specs.declared.shape.Shape.{Shape}
use Rattle.wg_records.specs.declared.live.LiveRecords.{LiveRecords}
use Rattle.wg_records.specs.declared.slot.Slot.{Slot}
use Rattle.wg_records.specs.Bags.{bytes_of, slot_at}
use Rattle.wg_records.specs.Slots.{RunsGroup}

-- the slot after its group has run: none after the last one
abbrev pub IsLeft : List ℕ → Option (List ℕ) → Option Slot → Option Slot → Type 0
IsLeft at new None after = after ≡ None
IsLeft at new (Some s) None = s.left ≤ 1
IsLeft at new (Some s) (Some t) = (2 ≤ s.left) × RunsGroup at new s t

-- the bytes that go with a record's last group
abbrev pub bytes_gone : Shape → ℕ → ℕ → Option Slot → ℕ
bytes_gone shape handed number None = 0
bytes_gone shape handed number (Some s) = if nat_le s.left 1 then bytes_of shape handed number s.unit else 0

-- a group of the record of a number has run; all other records stay
pub record TakesAt (shape : Shape) (number : ℕ) (at : List ℕ) (new : Option (List ℕ)) (old k : LiveRecords) : Type 0 where
  pub next : k.next ≡ old.next
  pub handed : k.handed ≡ old.handed
  pub others : (n : ℕ) → (number == n) ≡ false → slot_at k n ≡ slot_at old n
  pub here : IsLeft at new (slot_at old number) (slot_at k number)
  pub bytes : k.bytes ≡ old.bytes - bytes_gone shape old.handed number (slot_at old number)
