-- When the launch lines of a journal are right, and which of them is the first that is not. This project's own.
use Rattle.std.specs.Prelude.{◌≡◌, ℕ, ◌+◌, ◌≤◌, List, ◌∷◌, ◌++◌, length}
use Rattle.wg_machine.specs.declared.launch.Entry.{Entry}
use Rattle.wg_machine.specs.declared.launch.Sent.{Sent}
use Rattle.wg_machine.specs.declared.shape.Shape.{Shape}
use Rattle.wg_machine.specs.Buffers.{Buffers}
use Rattle.wg_machine.specs.Bytes.{live_bytes, peak}
use Rattle.wg_machine.specs.Run.{IsRun, EachState, denied_of}
use Rattle.wg_machine.specs.State.{State, start}
use Rattle.wg_machine.specs.Step.{Passed}
use Rattle.wg_replay.specs.declared.replay.LineFault.{LineFault}
use Rattle.wg_replay.specs.declared.replay.Replay.{Replay}
use Rattle.wg_replay.specs.Lines.{IsFault, Terms}
use Rattle.wg_replay.specs.States.{IsAt}

-- Launch lines are right: they are a run of the machine from a state on, with no more launches than a run may have, and
-- no more bytes than the plan's live at any of its states.
pub record AreRight (t : Terms) (first : State) (entries : List Entry) (trail : List Passed) (s : State) : Type 0 where
  pub run : IsRun t.shape t.made t.turns first entries trail s
  pub few : length entries ≤ t.launches
  pub bytes : EachState (λ (u : State). live_bytes t.shape t.handed u ≤ t.bytes) first trail

-- The launch line of a number, counted from 1, has a fault, and all lines before it are right.
pub record HasFault (t : Terms) (first : State) (entries : List Entry) (line : ℕ) (f : LineFault) : Type 0 where
  pub before : List Entry
  pub entry : Entry
  pub later : List Entry
  pub split : entries ≡ before ++ entry ∷ later
  pub trail : List Passed
  pub state : State
  pub right : AreRight t first before trail state
  pub number : line ≡ length before + 1
  pub fault : IsFault t (length before) state entry f

-- a replay has come to where right launch lines lead
pub record HasReplayed (t : Terms) (first : State) (entries : List Entry) (trail : List Passed) (s : State) (r : Replay) : Type 0 where
  pub right : AreRight t first entries trail s
  pub at : IsAt t.shape r.records r.buffers s
  pub handed : r.records.handed ≡ t.handed
  pub denied : r.denied ≡ denied_of trail
  pub peak : r.peak ≡ peak t.shape t.handed first trail

-- where launch lines lead, if they are right
pub record Leads (t : Terms) (first : State) (entries : List Entry) (r : Replay) : Type 0 where
  pub trail : List Passed
  pub state : State
  pub replayed : HasReplayed t first entries trail state r

-- a replay stands at the start of a script, and nothing was counted
pub record IsBegun (shape : Shape) (script : List Sent) (buffers : Buffers) (r : Replay) : Type 0 where
  pub at : IsAt shape r.records r.buffers (start shape script buffers)
  pub next : r.records.next ≡ length script
  pub handed : r.records.handed ≡ length script
  pub bytes : r.records.bytes ≡ 0
  pub denied : r.denied ≡ 0
  pub peak : r.peak ≡ 0
