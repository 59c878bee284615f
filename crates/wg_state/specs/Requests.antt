-- Requests of new records (Work Graphs, "Output records"). That a request past its budget is granted none is this project's own rule.
use Rattle.std.specs.Prelude.{ℕ, zero, suc, ◌-◌, ◌==◌, ◌&&◌, nat_le, Bool, true, false, if◌then◌else◌, List, [], ◌∷◌, ◌++◌, replicate, slice_get, slice_index, slice_set, Option, Some, None, is_some, unwrap_or}
use Rattle.wg_machine.specs.declared.shape.Output.{Output}
use Rattle.wg_state.specs.declared.world.Grant.{Grant}
use Rattle.wg_state.specs.declared.world.Request.{Request}
use Rattle.wg_state.specs.declared.world.World.{World}
use Rattle.wg_state.specs.WordLists.{zeros}

abbrev pub target_in : Option Output → ℕ → Option ℕ
target_in None element = None
target_in (Some o) element = unwrap_or (slice_get o.elements element) None

-- the unit to which an element of an output sends, if any
abbrev pub target_of : List Output → ℕ → ℕ → Option ℕ
target_of outputs output element = target_in (slice_get outputs output) element

abbrev pub budget_of : Option Output → ℕ
budget_of None = 0
budget_of (Some o) = o.budget

abbrev pub record_words : Option Output → ℕ
record_words None = 0
record_words (Some o) = o.words

abbrev pub grant_for : List Output → Request → ℕ → Grant
grant_for outputs r n = record {
  handle = r.handle;
  lane = r.lane;
  output = r.output;
  element = r.element;
  complete = false;
  items = replicate n (zeros (record_words (slice_get outputs r.output)));
}

-- a new grant of so many records of zeros
abbrev pub with_grant : List Output → Request → ℕ → World → World
with_grant outputs r n w = record w { grants = w.grants ++ grant_for outputs r n ∷ [] }

-- a budget has so many fewer left
abbrev pub budget_taken : ℕ → ℕ → World → World
budget_taken budget n w = record w { left = slice_set w.left budget (slice_index w.left budget - n) }

abbrev pub denied_once : World → World
denied_once w = record w { denied = suc w.denied }

-- whether all that are asked for can be granted
abbrev pub is_granted : List Output → Request → World → Bool
is_granted outputs r w =
    if is_some (target_of outputs r.output r.element) then nat_le r.amount (slice_index w.left (budget_of (slice_get outputs r.output))) else false

-- at least one record is asked for: all are granted, or none and the request is denied
abbrev pub whole_or_none : List Output → Request → World → World
whole_or_none outputs r w =
    if is_granted outputs r w
    then with_grant outputs r r.amount (budget_taken (budget_of (slice_get outputs r.output)) r.amount w)
    else with_grant outputs r 0 (denied_once w)

-- a request of 0 is granted 0 at any element, and is not denied
abbrev pub asked : List Output → Request → ℕ → World → World
asked outputs r zero w = with_grant outputs r 0 w
asked outputs r (suc n) w = whole_or_none outputs r w

abbrev pub requested : List Output → Request → World → World
requested outputs r w = asked outputs r r.amount w

-- ---- the grants of a handle

abbrev pub is_numbered : Option ℕ → ℕ → Bool
is_numbered None n = false
is_numbered (Some m) n = m == n

-- the last grant of a handle's lane, by its number, counted from one on
abbrev pub latest : ℕ → ℕ → ℕ → Option ℕ → List Grant → Option ℕ
latest handle lane at found [] = found
latest handle lane at found (g ∷ grants) =
    latest handle lane (suc at) (if is_numbered g.handle handle && (g.lane == lane) then Some at else found) grants

-- ---- `OutputComplete`

abbrev pub closed_in : Option Grant → List Grant → ℕ → List Grant
closed_in None grants at = grants
closed_in (Some g) grants at = slice_set grants at (record g { complete = true })

abbrev pub closed : Option ℕ → World → World
closed None w = w
closed (Some at) w = record w { grants = closed_in (slice_get w.grants at) w.grants at }
