-- The rows of a shape's units, built unit by unit.
use Rattle.std.proofs.Common.{◌≡◌, ℕ, ◌+◌, ◌<◌, List, [], ◌∷◌, ◌++◌, length, All, slice_get, get_or, unwrap_or, take, drop, ◌≤◌, refl, arith, inl, inr, below_more, length-append}
use Rattle.std.proofs.lemmas.Bool.{cases_lt}
use Rattle.std.proofs.lemmas.List.{get_or_append_left, get_or_push}
use Rattle.std.proofs.lemmas.List.Elements.{All-push, All-nil}
use Rattle.std.proofs.lemmas.Option.{slice_get_read, slice_get_past, unwrap_or-slice_get}
use Rattle.wg_machine.specs.declared.shape.Unit.{Unit}
use Rattle.wg_machine.specs.Need.{need_of}
use Rattle.wg_need.specs.declared.sums.Seen.{Seen}
use Rattle.wg_need.specs.declared.table.Need.{Need}
use Rattle.wg_need.specs.Block.{rows_from, AreEnds}
use Rattle.wg_need.specs.Scratch.{seen_at}
use Rattle.wg_need.proofs.Blocks.{rows_closed, ends_closed}
use Rattle.wg_need.specs.Rows.{need_in, need_by}
use Rattle.wg_need.specs.Rows.{IsSoundRow}

-- the rows of the first units
pub record AreRows (units : List Unit) (count i : ℕ) (rows : List (List Need)) : Type 0 where
  pub count_is : length rows ≡ i
  pub sound : All (IsSoundRow count) rows
  pub needs : (u : ℕ) → u < i → (v : ℕ) → v < count → need_in (get_or rows u []) v ≡ need_by units u v

pub no_rows : (units : List Unit) (count : ℕ) → AreRows units count 0 []
no_rows units count = record { count_is = refl; sound = All-nil (IsSoundRow count); needs = λ u h. absurd (omega arith) }

pub one_row_more : (units : List Unit) (count i : ℕ) (rows : List (List Need)) (row : List Need) (unit : Unit)
    → i < length units → unit ≡ get_or units i unit
    → ((v : ℕ) → v < count → need_in row v ≡ need_of unit v) → IsSoundRow count row
    → AreRows units count i rows → AreRows units count (i + 1) (rows ++ row ∷ [])
one_row_more units count i rows row unit h is needs sound r =
    record {
      count_is = omega (arith, length-append rows (row ∷ []), r.count_is);
      sound = All-push (IsSoundRow count) rows row r.sound sound;
      needs = below_more (λ u. (v : ℕ) → v < count → need_in (get_or (rows ++ row ∷ []) u []) v ≡ need_by units u v) i before here;
    }
  where
    before : (u : ℕ) → u < i → (v : ℕ) → v < count → need_in (get_or (rows ++ row ∷ []) u []) v ≡ need_by units u v
    before u below v within = rw (get_or_append_left rows (row ∷ []) [] u (omega (arith, r.count_is))) (r.needs u below v within)

    here : (v : ℕ) → v < count → need_in (get_or (rows ++ row ∷ []) i []) v ≡ need_by units i v
    here v within = rw (get_or_push rows row [] i r.count_is, slice_get_read units (length units) i unit refl h is) (needs v within)

pub all_rows : (units : List Unit) (count : ℕ) (rows : List (List Need)) → AreRows units count (length units) rows
    → (u v : ℕ) → v < count → need_in (unwrap_or (slice_get rows u) []) v ≡ need_by units u v
all_rows units count rows r u v within =
    elim (cases_lt u (length units)) [
      | inl below ↦ rw (unwrap_or-slice_get rows u []) (r.needs u below v within)
      | inr past ↦ rw (slice_get_past rows u (omega (arith, r.count_is)), slice_get_past units u past) refl
    ]

-- what stands between two units: the rows of the units so far, and no place behind them
pub record AreBuilt (units : List Unit) (count i : ℕ) (ends : List ℕ) (needs : List Need) (seen : List Seen) : Type 0 where
  pub rows : AreRows units count i (rows_from 0 ends needs)
  pub ends_are : AreEnds 0 ends (length needs)
  pub low : (v : ℕ) → (seen_at seen v).place ≤ length needs

pub nothing_built : (units : List Unit) (count : ℕ) (seen : List Seen) → ((v : ℕ) → (seen_at seen v).place ≡ 0) → AreBuilt units count 0 [] [] seen
nothing_built units count seen none = record { rows = no_rows units count; ends_are = refl; low = λ v. omega (arith, none v) }

pub one_built : (units : List Unit) (count i : ℕ) (ends : List ℕ) (old new : List Need) (old_seen seen : List Seen) (unit : Unit)
    → i < length units → unit ≡ get_or units i unit → AreBuilt units count i ends old old_seen
    → ((v : ℕ) → v < count → need_in (drop (length old) new) v ≡ need_of unit v) → IsSoundRow count (drop (length old) new)
    → take (length old) new ≡ old → length old ≤ length new → ((v : ℕ) → (seen_at seen v).place ≤ length new)
    → AreBuilt units count (i + 1) (ends ++ length new ∷ []) new seen
one_built units count i ends old new old_seen seen unit h is built needs sound kept longer low =
    record {
      rows = rw (rows_closed 0 ends old new built.ends_are kept) (one_row_more units count i (rows_from 0 ends old) (drop (length old) new) unit h is needs sound built.rows);
      ends_are = ends_closed 0 ends (length old) (length new) built.ends_are longer;
      low = low;
    }
