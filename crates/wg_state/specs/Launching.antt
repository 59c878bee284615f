-- What the lanes of a launch share before they run, and what the launch did once they have run.
use Rattle.std.specs.Prelude.{ℕ, ◌-◌, Bool, if◌then◌else◌, List, [], map, Option, Some, None}
use Rattle.wg_machine.specs.declared.launch.Launch.{Launch}
use Rattle.wg_machine.specs.declared.launch.Record.{Record}
use Rattle.wg_machine.specs.declared.shape.Unit.{Unit}
use Rattle.wg_machine.specs.Buffers.{Buffers}
use Rattle.wg_machine.specs.LaunchMeaning.{Meaning, Outcome}
use Rattle.wg_state.specs.declared.world.World.{World}
use Rattle.wg_state.specs.Sending.{sent_through}
use Rattle.wg_state.specs.Turns.{Ending, Spent, Done}
use Rattle.wg_state.specs.WordLists.{list_at}

abbrev pub record_words_of : Launch → List (List ℕ)
record_words_of launch = map (λ (r : Record). r.words) launch.records

-- with groupshared variables of these words
abbrev pub world_before : List (List ℕ) → Unit → Launch → Buffers → World
world_before shared unit launch buffers = record {
  shared = shared;
  inputs = record_words_of launch;
  grants = [];
  left = unit.budgets;
  denied = 0;
  buffers = buffers;
}

-- the words that the groups of a record share from now on, where the launch's unit is shared: those of its one record
abbrev pub new_words : Bool → List (List ℕ) → Option (List ℕ)
new_words shared inputs = if shared then Some (list_at inputs 0) else None

-- where so many turns were given and so many are left
abbrev pub outcome_with : Unit → ℕ → World → ℕ → Outcome
outcome_with unit turns w left = record {
  sent = sent_through 0 unit.outputs w.grants;
  denied = w.denied;
  turns = turns - left;
  buffers = w.buffers;
  shared = new_words unit.shared w.inputs;
}

-- by how the lanes ended; none where they were spent
abbrev pub outcome_after : {A : Type 0} → Unit → ℕ → Ending World A → Option Outcome
outcome_after unit turns Spent = None
outcome_after unit turns (Done a w left) = Some (outcome_with unit turns w left)

-- nothing is sent and nothing is changed, as where a node has no body; whether the unit is shared
abbrev pub does_nothing : Bool → Meaning
does_nothing shared launch buffers turns =
    Some (record { sent = []; denied = 0; turns = 0; buffers = buffers; shared = new_words shared (record_words_of launch) })
