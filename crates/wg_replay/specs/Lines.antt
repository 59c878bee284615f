-- When a launch line of a journal is right, and what is wrong with one that is not. This project's own.
use Rattle.std.specs.Prelude.{◌≡◌, ◌≢◌, ◌⊎◌, ⊤, ℕ, ◌<◌, ◌≤◌, List, Option, Some, None}
use Rattle.wg_machine.specs.declared.launch.Entry.{Entry}
use Rattle.wg_machine.specs.declared.launch.Launch.{Launch}
use Rattle.wg_machine.specs.declared.launch.Limits.{Limits}
use Rattle.wg_machine.specs.declared.launch.Made.{Made}
use Rattle.wg_machine.specs.declared.memory.Write.{Write}
use Rattle.wg_machine.specs.declared.shape.Shape.{Shape}
use Rattle.wg_machine.specs.Buffers.{Buffers, all_written}
use Rattle.wg_machine.specs.Bytes.{live_bytes}
use Rattle.wg_machine.specs.LaunchMeaning.{Meaning, Outcome, outcome_of}
use Rattle.wg_machine.specs.State.{State}
use Rattle.wg_machine.specs.Step.{Passed, Step, entry_of}
use Rattle.wg_records.specs.Named.{IsNamed}
use Rattle.wg_replay.specs.declared.ran.Ran.{Ran}
use Rattle.wg_replay.specs.declared.ran.Ran.TheVariants as ran
use Rattle.wg_replay.specs.declared.replay.LineFault.{LineFault}
use Rattle.wg_replay.specs.declared.replay.LineFault.TheVariants as fault

-- What launch lines are judged by: the graph with its bodies, the turns of a launch and the launches of a run, the
-- number of entry records, and the bytes of the plan.
pub record Terms : Type 0 where
  pub shape : Shape
  pub made : Meaning
  pub turns : ℕ
  pub launches : ℕ
  pub handed : ℕ
  pub bytes : ℕ

-- the bag allows no launch of the entry's unit, group and records
abbrev pub NamesNone : Shape → State → Entry → Type 0
NamesNone shape s e = (l : Launch) → IsNamed shape s.bag e l → ⊥

-- the entry's launch spends its turns
pub record Spends (shape : Shape) (made : Meaning) (turns : ℕ) (s : State) (e : Entry) : Type 0 where
  pub launch : Launch
  pub named : IsNamed shape s.bag e launch
  pub spent : made launch s.buffers turns ≡ None

-- the entry's launch gives other numbers than the entry has
pub record GivesOthers (shape : Shape) (made : Meaning) (turns : ℕ) (s : State) (e : Entry) : Type 0 where
  pub launch : Launch
  pub outcome : Outcome
  pub named : IsNamed shape s.bag e launch
  pub runs : made launch s.buffers turns ≡ Some outcome
  pub differs : e ≢ entry_of launch e.at s.next outcome

-- A launch line that stands after so many others is right: a run may have that many launches, it is a step, and the
-- bytes that live after the step are within the plan.
pub record IsRightLine (t : Terms) (before : ℕ) (s : State) (e : Entry) (p : Passed) : Type 0 where
  pub place : before < t.launches
  pub step : Step t.shape t.made t.turns s e p
  pub bytes : live_bytes t.shape t.handed p.after ≤ t.bytes

-- no run has so many launches, or the bag has no such launch, or it gives other numbers
abbrev pub IsWrongLine : Terms → ℕ → State → Entry → Type 0
IsWrongLine t before s e =
    (t.launches ≤ before) ⊎ (NamesNone t.shape s e ⊎ GivesOthers t.shape t.made t.turns s e)

abbrev pub IsSpentLine : Terms → ℕ → State → Entry → Type 0
IsSpentLine t before s e = (before < t.launches) × Spends t.shape t.made t.turns s e

pub record IsOverLine (t : Terms) (before : ℕ) (s : State) (e : Entry) : Type 0 where
  pub place : before < t.launches
  pub passed : Passed
  pub step : Step t.shape t.made t.turns s e passed
  pub over : t.bytes < live_bytes t.shape t.handed passed.after

-- what is wrong with a launch line; want of memory needs no cause
abbrev pub IsFault : Terms → ℕ → State → Entry → LineFault → Type 0
IsFault t before s e fault.Wrong = IsWrongLine t before s e
IsFault t before s e fault.TurnsSpent = IsSpentLine t before s e
IsFault t before s e fault.OverBytes = IsOverLine t before s e
IsFault t before s e fault.Memory = ⊤

-- what is wrong with an entry, of itself
abbrev pub IsNoStep : Shape → Meaning → ℕ → State → Entry → LineFault → Type 0
IsNoStep shape made turns s e fault.Wrong = NamesNone shape s e ⊎ GivesOthers shape made turns s e
IsNoStep shape made turns s e fault.TurnsSpent = Spends shape made turns s e
IsNoStep shape made turns s e fault.OverBytes = ⊥
IsNoStep shape made turns s e fault.Memory = ⊤

-- what a launch did over buffers
abbrev pub RanIs : Meaning → ℕ → Launch → Buffers → Ran → Type 0
RanIs made turns l buffers ran.NoLaunch = ⊥
RanIs made turns l buffers ran.Spent = made l buffers turns ≡ None
RanIs made turns l buffers (ran.Did m writes) = made l buffers turns ≡ Some (outcome_of m (all_written buffers writes))

-- the launch of an entry, and what it did
pub record RunsAs (shape : Shape) (made : Meaning) (turns : ℕ) (s : State) (e : Entry) (m : Made) (after : Buffers) : Type 0 where
  pub launch : Launch
  pub named : IsNamed shape s.bag e launch
  pub runs : made launch s.buffers turns ≡ Some (outcome_of m after)

abbrev pub EntryRuns : Shape → Meaning → ℕ → State → Entry → Ran → Type 0
EntryRuns shape made turns s e ran.NoLaunch = NamesNone shape s e
EntryRuns shape made turns s e ran.Spent = Spends shape made turns s e
EntryRuns shape made turns s e (ran.Did m writes) = RunsAs shape made turns s e m (all_written s.buffers writes)

-- what a guess tells of its launch
abbrev pub RanAs : Option Made → List Write → Ran → Type 0
RanAs answer writes ran.NoLaunch = ⊥
RanAs answer writes ran.Spent = answer ≡ None
RanAs answer writes (ran.Did m ws) = (answer ≡ Some m) × (ws ≡ writes)

-- the terms of a replay within limits
abbrev pub terms : Shape → Meaning → Limits → ℕ → ℕ → Terms
terms shape made limits handed bytes =
    record { shape = shape; made = made; turns = limits.turns; launches = limits.launches; handed = handed; bytes = bytes }
