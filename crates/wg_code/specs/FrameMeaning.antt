-- What a body of a node's parts does on one lane, from a frame to a frame. Own.
use Rattle.std.specs.Prelude.{◌≡◌, ℕ, ◌+◌, ◌-◌, Bool, List, [], ◌∷◌, length, Contains, slice_get, Option, Some, None}
use Rattle.wg_machine.specs.Buffers.{Buffers}
use Rattle.wg_machine.specs.declared.launch.Launch.{Launch}
use Rattle.wg_machine.specs.declared.launch.Record.{Record}
use Rattle.wg_machine.specs.declared.shape.Unit.{Unit as Node}
use Rattle.wg_state.specs.Launching.{record_words_of}
use Rattle.wg_state.specs.Turns.{Ending, Spent, Done}
use Rattle.wg_code.specs.declared.code.NodeCode.{NodeCode}
use Rattle.wg_code.specs.declared.code.RawCode.{RawCode}
use Rattle.wg_code.specs.declared.frame.Frame.{Frame}
use Rattle.wg_code.specs.declared.op.Op.{Op}
use Rattle.wg_code.specs.CodeMeaning.{node_does}
use Rattle.wg_code.specs.Flow.{Outside}
use Rattle.wg_code.specs.PartBodies.{bodies_in}
use Rattle.wg_code.specs.PartMeaning.{lane_runs}

-- the launch of which a frame's lane is one
abbrev pub launch_of : Frame → Launch
launch_of frame = record { unit = frame.unit; records = frame.inputs; group = frame.group; grid = frame.grid; last = frame.last }

-- what the lane shares with the others, over buffers
abbrev pub outside_of : Frame → Buffers → Outside
outside_of frame buffers = (
  frame.shared,
  record {
    shared = [];
    inputs = record_words_of (launch_of frame);
    grants = frame.grants;
    left = frame.left;
    denied = frame.denied;
    buffers = buffers;
  },
)

-- records with their numbers and with these words
abbrev pub with_words : List Record → List (List ℕ) → List Record
with_words [] lists = []
with_words (r ∷ rest) [] = []
with_words (r ∷ rest) (words ∷ lists) = record r { words = words } ∷ with_words rest lists

-- a frame after so many more turns
abbrev pub frame_after : Frame → List ℕ → Outside → ℕ → Frame
frame_after frame registers w turns = record frame {
  registers = registers;
  shared = w.0;
  inputs = with_words frame.inputs w.1.inputs;
  left = w.1.left;
  grants = w.1.grants;
  denied = w.1.denied;
  turns = frame.turns + turns;
}

-- how a lane's body ends: it spends its turns, it goes wrong, or it makes a frame and buffers
pub data LaneVerdict : Type 0 where
  LaneSpends : LaneVerdict
  LaneGoesWrong : LaneVerdict
  LaneMakes : Frame → Buffers → LaneVerdict

abbrev pub lane_verdict_of : Frame → ℕ → Ending Outside (Option (List ℕ)) → LaneVerdict
lane_verdict_of frame turns Spent = LaneSpends
lane_verdict_of frame turns (Done None w left) = LaneGoesWrong
lane_verdict_of frame turns (Done (Some registers) w left) = LaneMakes (frame_after frame registers w (turns - left)) w.1.buffers

abbrev pub node_lane_verdict : Bool → RawCode → Option NodeCode → Node → List Op → Frame → Buffers → ℕ → LaneVerdict
node_lane_verdict strict code None unit body frame buffers turns = LaneGoesWrong
node_lane_verdict strict code (Some node) unit body frame buffers turns =
    lane_verdict_of frame turns (lane_runs strict (node_does strict code node unit (launch_of frame) body frame.lane) frame.registers (outside_of frame buffers) turns)

abbrev pub unit_lane_verdict : Bool → RawCode → Option Node → List Op → Frame → Buffers → ℕ → LaneVerdict
unit_lane_verdict strict code None body frame buffers turns = LaneGoesWrong
unit_lane_verdict strict code (Some unit) body frame buffers turns =
    node_lane_verdict strict code (slice_get code.nodes unit.node) unit body frame buffers turns

-- a body on a frame over buffers, where so many turns may be made; on one of a unit that is not there, or without code, it goes wrong
abbrev pub lane_verdict : Bool → RawCode → List Op → Frame → Buffers → ℕ → LaneVerdict
lane_verdict strict code body frame buffers turns = unit_lane_verdict strict code (slice_get code.shape.units frame.unit) body frame buffers turns

-- A frame fits a body: the body is that of a part of its unit's node, and it has the node's registers and the groupshared words.
pub record FrameFits (code : RawCode) (body : List Op) (frame : Frame) : Type 0 where
  pub unit : Node
  pub node : NodeCode
  pub is_unit : slice_get code.shape.units frame.unit ≡ Some unit
  pub is_node : slice_get code.nodes unit.node ≡ Some node
  pub is_body : Contains (bodies_in node.parts) body
  pub registers : length frame.registers ≡ node.registers
  pub shared : length frame.shared ≡ code.shared
