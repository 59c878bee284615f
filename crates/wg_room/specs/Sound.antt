-- What every room keeps.
use Rattle.std.specs.Prelude.{◌≡◌, ℕ, ◌+◌, ◌^◌, ◌<◌, ◌≤◌, All, List, length, slice_index}
use Rattle.wg_need.specs.declared.table.Need.{Need}
use Rattle.wg_need.specs.Rows.{IsSoundRow}
use Rattle.wg_room.specs.Counts.{Counts}

-- a need's unit has slots left for it
abbrev pub IsMet : List ℕ → List ℕ → List ℕ → Need → Type 0
IsMet bounds used reserved n =
    slice_index used n.unit + slice_index reserved n.unit + n.records ≤ slice_index bounds n.unit

pub record AreSound (c : Counts) : Type 0 where
  pub fit : (v : ℕ) → slice_index c.bounds v < 2 ^ 32
  pub used : length c.used ≡ length c.bounds
  pub reserved : length c.reserved ≡ length c.bounds
  pub needs : length c.needs ≡ length c.bounds
  pub rows : All (IsSoundRow (length c.bounds)) c.needs
