-- What the list of a function's events says, in one pass over it, with numbers by handle. Own.
use Rattle.std.specs.Prelude.{ℕ, zero, suc, max, ◌==◌, not, ◌||◌, nat_lt, if◌then◌else◌, List, [], ◌∷◌, ◌++◌}
use Rattle.wg_words.specs.declared.place.Place.{Place}
use Rattle.wg_typing.specs.RulesBadOutputCall.{is_finish_call}
use Rattle.wg_typing.specs.Sites.{at_if}
use Rattle.wg_typing.specs.declared.event.Event.{Event}
use Rattle.wg_typing.specs.declared.event.Event.TheVariants as event

-- ---- numbers by handle, which are 0 where none was put

abbrev pub number_at : ℕ → List ℕ → ℕ
number_at handle [] = 0
number_at zero (n ∷ rest) = n
number_at (suc handle) (n ∷ rest) = number_at handle rest

abbrev pub put : ℕ → ℕ → List ℕ → List ℕ
put zero n [] = n ∷ []
put zero n (x ∷ rest) = n ∷ rest
put (suc handle) n [] = 0 ∷ put handle n []
put (suc handle) n (x ∷ rest) = x ∷ put handle n rest

-- ---- how often each handle is completed

abbrev pub counted_with : List ℕ → Event → List ℕ
counted_with counts (event.Declares name words) = counts
counted_with counts (event.Requested name handle) = counts
counted_with counts (event.Completed handle) = put handle (suc (number_at handle counts)) counts
counted_with counts (event.Collective call path) = counts
counted_with counts (event.Returns place) = counts
counted_with counts (event.Calls chain) = counts
counted_with counts (event.Changes variable) = counts

abbrev pub counts_after : List ℕ → List Event → List ℕ
counts_after counts [] = counts
counts_after counts (e ∷ rest) = counts_after (counted_with counts e) rest

-- a handle that is not completed once
abbrev pub uncompleted_at : List ℕ → Event → List Place
uncompleted_at counts (event.Declares name words) = []
uncompleted_at counts (event.Requested name handle) = at_if (not (number_at handle counts == 1)) name.place
uncompleted_at counts (event.Completed handle) = []
uncompleted_at counts (event.Collective call path) = []
uncompleted_at counts (event.Returns place) = []
uncompleted_at counts (event.Calls chain) = []
uncompleted_at counts (event.Changes variable) = []

abbrev pub uncompleted_by : List ℕ → List Event → List Place
uncompleted_by counts [] = []
uncompleted_by counts (e ∷ rest) = uncompleted_at counts e ++ uncompleted_by counts rest

-- ---- where things happen for the last time, events counted from one on

-- the last completion of each handle, the last declaration that starts with `FinishedCrossGroupSharing()`, and the last collective statement
pub record Lasts : Type 0 where
  pub completed : List ℕ
  pub finish : ℕ
  pub collective : ℕ

abbrev pub no_lasts : Lasts
no_lasts = record { completed = []; finish = 0; collective = 0 }

abbrev pub last_with : ℕ → Lasts → Event → Lasts
last_with at l (event.Declares name words) = l
last_with at l (event.Requested name handle) = l
last_with at l (event.Completed handle) = record l { completed = put handle at l.completed }
last_with at l (event.Collective call path) = record l { finish = if is_finish_call call then at else l.finish; collective = at }
last_with at l (event.Returns place) = l
last_with at l (event.Calls chain) = l
last_with at l (event.Changes variable) = l

-- after so many events
abbrev pub lasts_after : ℕ → Lasts → List Event → Lasts
lasts_after at l [] = l
lasts_after at l (e ∷ rest) = lasts_after (suc at) (last_with (suc at) l e) rest

abbrev pub lasts_of : List Event → Lasts
lasts_of events = lasts_after 0 no_lasts events

-- ---- returns

-- of several lanes: a `return` before the last collective statement
abbrev pub early_at : ℕ → Lasts → Event → List Place
early_at at l (event.Declares name words) = []
early_at at l (event.Requested name handle) = []
early_at at l (event.Completed handle) = []
early_at at l (event.Collective call path) = []
early_at at l (event.Returns place) = at_if (nat_lt at l.collective) place
early_at at l (event.Calls chain) = []
early_at at l (event.Changes variable) = []

abbrev pub early_returns : ℕ → Lasts → List Event → List Place
early_returns at l [] = []
early_returns at l (e ∷ rest) = early_at (suc at) l e ++ early_returns (suc at) l rest

-- of one lane: the last completion of the handles that are declared so far
abbrev pub open_with : Lasts → ℕ → Event → ℕ
open_with l until (event.Declares name words) = until
open_with l until (event.Requested name handle) = max (number_at handle l.completed) until
open_with l until (event.Completed handle) = until
open_with l until (event.Collective call path) = until
open_with l until (event.Returns place) = until
open_with l until (event.Calls chain) = until
open_with l until (event.Changes variable) = until

-- a `return` before that completion, or before the last declaration that starts with `FinishedCrossGroupSharing()`
abbrev pub open_at : ℕ → Lasts → ℕ → Event → List Place
open_at at l until (event.Declares name words) = []
open_at at l until (event.Requested name handle) = []
open_at at l until (event.Completed handle) = []
open_at at l until (event.Collective call path) = []
open_at at l until (event.Returns place) = at_if (nat_lt at l.finish || nat_lt at until) place
open_at at l until (event.Calls chain) = []
open_at at l until (event.Changes variable) = []

abbrev pub open_returns : ℕ → Lasts → ℕ → List Event → List Place
open_returns at l until [] = []
open_returns at l until (e ∷ rest) = open_at (suc at) l until e ++ open_returns (suc at) l (open_with l until e) rest
