-- The row by unit and the open row of the block that serve one unit's needs after another's. This project's own.
use Rattle.std.specs.Prelude.{◌≡◌, ℕ, ◌+◌, ◌*◌, ◌-◌, ◌^◌, ◌<◌, ◌≤◌, ◌==◌, ◌&&◌, Bool, if◌then◌else◌, List, length, get_or, nat_lt}
use Rattle.wg_machine.specs.declared.shape.Output.{Output}
use Rattle.wg_need.specs.declared.sums.Budget.{Budget}
use Rattle.wg_need.specs.declared.sums.Seen.{Seen}
use Rattle.wg_need.specs.declared.table.Need.{Need}

abbrev pub seen_at : List Seen → ℕ → Seen
seen_at seen v = get_or seen v (record { place = 0; budget = 0 })

-- in the row from a start on, a budget is the last that was added to a unit
abbrev pub is_on : ℕ → ℕ → List Seen → ℕ → Bool
is_on start budget seen v = nat_lt start (seen_at seen v).place && ((seen_at seen v).budget == budget)

-- what a budget has added to a unit
abbrev pub owed : Budget → ℕ → List Seen → ℕ → ℕ
owed b start seen v = if is_on start b.number seen v then b.most else 0

-- a need of the row, of some records, which its unit's place tells
pub record IsEntry (seen : List Seen) (k : ℕ) (n : Need) : Type 0 where
  pub within : n.unit < length seen
  pub place : (seen_at seen n.unit).place ≡ k + 1
  pub some : 0 < n.records
  pub small : n.records ≤ 2 ^ 32 * ((seen_at seen n.unit).budget + 1)

-- The needs from a start on are a row, each of another unit, and of budgets below a limit.
pub record IsOpenRow (start limit : ℕ) (seen : List Seen) (needs : List Need) : Type 0 where
  pub begun : start ≤ length needs
  pub low : (v : ℕ) → (seen_at seen v).place ≤ length needs
  pub own : (v : ℕ) → start < (seen_at seen v).place → (d : Need) → (get_or needs ((seen_at seen v).place - 1) d).unit ≡ v
  pub last : (v : ℕ) → start < (seen_at seen v).place → (seen_at seen v).budget < limit
  pub each : (k : ℕ) (d : Need) → start ≤ k → k < length needs → IsEntry seen k (get_or needs k d)

-- outputs in the order of their budgets
abbrev pub AreOrdered : List Output → Type 0
AreOrdered outputs = (i j : ℕ) (d e : Output) → i ≤ j → j < length outputs → (get_or outputs i d).budget ≤ (get_or outputs j e).budget

-- the outputs before a place are on budgets below one, and the others are not
pub record IsCursor (outputs : List Output) (budget at : ℕ) : Type 0 where
  pub before : (k : ℕ) (d : Output) → k < at → k < length outputs → (get_or outputs k d).budget < budget
  pub from : (k : ℕ) (d : Output) → at ≤ k → k < length outputs → budget ≤ (get_or outputs k d).budget
