-- The slots used and reserved at each unit, and when a unit has room. This project's own.
use Rattle.std.specs.Prelude.{◌≡◌, ℕ, ◌+◌, ◌<◌, ◌≤◌, List, length, slice_index}
use Rattle.wg_need.specs.declared.table.Need.{Need}
use Rattle.wg_need.specs.Rows as rows

-- by unit: the slots that there are, those used and those reserved, and what a launch of it may send
pub record Counts : Type 0 where
  pub bounds : List ℕ
  pub used : List ℕ
  pub reserved : List ℕ
  pub needs : List (List Need)

-- how many records a launch of u may send to v
abbrev pub need_at : Counts → ℕ → ℕ → ℕ
need_at c u v = rows.need_at c.needs u v

-- Each unit to which a launch of u may send has slots left for all that it may send there.
abbrev pub HasSlotsLeft : Counts → ℕ → Type 0
HasSlotsLeft c u =
    (v : ℕ) → 0 < need_at c u v → slice_index c.used v + slice_index c.reserved v + need_at c u v ≤ slice_index c.bounds v

-- what a launch of u may send is reserved, and all else stays
pub record Reserves (old new : Counts) (u : ℕ) : Type 0 where
  pub same : new ≡ record old { reserved = new.reserved }
  pub count : length new.reserved ≡ length old.reserved
  pub reserved : (v : ℕ) → slice_index new.reserved v ≡ slice_index old.reserved v + need_at old u v
