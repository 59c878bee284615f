-- Which state of the machine a replay has come to. This project's own.
use Rattle.std.specs.Prelude.{◌≡◌, ◌+◌, max, length}
use Rattle.wg_machine.specs.declared.shape.Shape.{Shape}
use Rattle.wg_machine.specs.Buffers.{Buffers}
use Rattle.wg_machine.specs.Bytes.{live_bytes}
use Rattle.wg_machine.specs.Fitting.{BagFits}
use Rattle.wg_machine.specs.State.{State}
use Rattle.wg_machine.specs.Step.{Passed}
use Rattle.wg_records.specs.declared.live.LiveRecords.{LiveRecords}
use Rattle.wg_records.specs.Bags.{Keeps}
use Rattle.wg_replay.specs.declared.replay.Replay.{Replay}

-- The live records and the buffers are those of a state whose bag fits the shape, with as many buffers as that names.
pub record IsAt (shape : Shape) (k : LiveRecords) (held : Buffers) (s : State) : Type 0 where
  pub keeps : Keeps shape k s.bag
  pub next : k.next ≡ s.next
  pub buffers : held ≡ s.buffers
  pub fits : BagFits shape s.bag
  pub many : length s.buffers ≡ length shape.buffers

-- the replay goes on by a step: to the state after it, with the denied requests and the greatest bytes until then
pub record Follows (shape : Shape) (old new : Replay) (p : Passed) : Type 0 where
  pub at : IsAt shape new.records new.buffers p.after
  pub denied : new.denied ≡ old.denied + p.outcome.denied
  pub peak : new.peak ≡ max old.peak (live_bytes shape new.records.handed p.after)
