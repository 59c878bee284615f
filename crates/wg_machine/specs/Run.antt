-- Runs of the machine, and what a journal uses of each record.
use Rattle.std.specs.Prelude.{◌≡◌, ℕ, ◌&&◌, List, [], ◌∷◌, ◌++◌, length, Contains, slice_get, unwrap_or, sum_by, count_by}
use Rattle.std.specs.List.{flat_map}
use Rattle.std.specs.Option.{option_map}
use Rattle.wg_words.specs.Each.{Each}
use Rattle.wg_machine.specs.declared.shape.Shape.{Shape}
use Rattle.wg_machine.specs.declared.launch.Live.{Live}
use Rattle.wg_machine.specs.declared.launch.Sent.{Sent}
use Rattle.wg_machine.specs.declared.launch.Entry.{Entry}
use Rattle.wg_machine.specs.Grids.{same_group}
use Rattle.wg_machine.specs.LaunchMeaning.{Meaning}
use Rattle.wg_machine.specs.State.{State, born}
use Rattle.wg_machine.specs.Step.{Passed, Step, has_number}

-- One step after another. The entries are the journal; the trail tells what each of them stands for.
abbrev pub IsRun : Shape → Meaning → ℕ → State → List Entry → List Passed → State → Type 0
IsRun shape made turns s [] [] final = final ≡ s
IsRun shape made turns s (e ∷ entries) (p ∷ trail) final = Step shape made turns s e p × IsRun shape made turns p.after entries trail final
IsRun shape made turns s [] (p ∷ trail) final = ⊥
IsRun shape made turns s (e ∷ entries) [] final = ⊥

-- nothing is left to run
abbrev pub IsComplete : State → Type 0
IsComplete s = s.bag ≡ []

-- a fact of the state at every prefix of a run
abbrev pub EachState : (State → Type 0) → State → List Passed → Type 0
EachState P s [] = P s
EachState P s (p ∷ trail) = P s × EachState P p.after trail

-- the requests that were granted none
abbrev pub denied_of : List Passed → ℕ
denied_of trail = sum_by (λ (p : Passed). p.outcome.denied) trail

-- how many entries take a group of a record
abbrev pub uses : ℕ → List ℕ → List Entry → ℕ
uses r at entries = count_by (λ (e : Entry). same_group e.at at && has_number e.inputs r) entries

-- each record of a run that came to be, in order of number, with all its groups
abbrev pub all_born : Shape → List Sent → List Passed → List Live
all_born shape script trail = born shape 0 (script ++ flat_map (λ (p : Passed). p.outcome.sent) trail)

-- the groups of the record of a number; none past the last record
abbrev pub groups_at : List Live → ℕ → List (List ℕ)
groups_at all r = unwrap_or (option_map (λ (x : Live). x.groups) (slice_get all r)) []

-- how often a group stands in a list
abbrev pub times : List ℕ → List (List ℕ) → ℕ
times at groups = count_by (λ (g : List ℕ). same_group g at) groups

-- Each group of each record is taken once, and nothing else is.
abbrev pub EachOnce : List Live → List Entry → Type 0
EachOnce all entries = (r : ℕ) (at : List ℕ) → uses r at entries ≡ times at (groups_at all r)

-- An entry has three coordinates, and they name a group of each record that it takes: one of the grid of its birth.
pub record NamesGroup (all : List Live) (e : Entry) : Type 0 where
  pub three : length e.at ≡ 3
  pub of_each : Each (λ r. Contains (groups_at all r) e.at) e.inputs
