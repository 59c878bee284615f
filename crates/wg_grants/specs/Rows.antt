-- Grants as rows that say which of the launch's new records are theirs, and the table of the latest grants. This project's own.
use Rattle.std.specs.Prelude.{◌≡◌, ℕ, ◌==◌, ◌&&◌, Bool, false, List, [], length, map, replicate, None}
use Rattle.std.specs.Map.{lookup}
use Rattle.wg_state.specs.Requests.{latest}
use Rattle.wg_state.specs.WordLists.{zeros}
use Rattle.wg_state.specs.declared.world.Grant.{Grant}
use Rattle.wg_state.specs.declared.world.Request.{Request}
use Rattle.wg_grants.specs.Spans.{part_of, LieFrom}
use Rattle.wg_grants.specs.declared.rows.LaneHandle.{LaneHandle}
use Rattle.wg_grants.specs.declared.rows.Row.{Row}
use Rattle.wg_grants.specs.declared.spans.Span.{Span}

-- a grant that is not closed, of so many records of so many words, all 0
abbrev pub granted : Request → ℕ → ℕ → Grant
granted r n words = record {
  handle = r.handle;
  lane = r.lane;
  output = r.output;
  element = r.element;
  complete = false;
  items = replicate n (zeros words);
}

abbrev pub row_grant : Row → List (List ℕ) → Grant
row_grant r items = record { handle = r.handle; lane = r.lane; output = r.output; element = r.element; complete = r.complete; items = items }

-- the grants of rows, by the launch's new records
abbrev pub grants_of : List Row → List (List ℕ) → List Grant
grants_of rows records = map (λ (r : Row). row_grant r (part_of r.span records)) rows

abbrev pub spans_of : List Row → List Span
spans_of rows = map (λ (r : Row). r.span) rows

abbrev pub is_key : LaneHandle → LaneHandle → Bool
is_key k other = (k.handle == other.handle) && (k.lane == other.lane)

abbrev pub key_of : ℕ → ℕ → LaneHandle
key_of handle lane = record { handle = handle; lane = lane }

-- the table tells the place of each handle's latest grant on each lane
abbrev pub AreFound : List Row → List (LaneHandle × ℕ) → Type 0
AreFound rows entries = (handle lane : ℕ) → lookup (is_key (key_of handle lane)) entries ≡ latest handle lane 0 None (grants_of rows [])

-- rows have their own records each, and the table is theirs
pub record IsKept (rows : List Row) (records : List (List ℕ)) (entries : List (LaneHandle × ℕ)) : Type 0 where
  pub lie : LieFrom 0 (spans_of rows) (length records)
  pub found : AreFound rows entries
