-- What a launch of node code does: its parts over its lanes, from groupshared words, registers and new records of zeros. Own.
use Rattle.std.specs.Prelude.{ℕ, Bool, true, List, [], ◌∷◌, ◌++◌, length, replicate, slice_get, Option, Some, None}
use Rattle.wg_machine.specs.Buffers.{Buffers}
use Rattle.wg_machine.specs.LaunchMeaning.{Meaning, Outcome}
use Rattle.wg_machine.specs.declared.launch.Launch.{Launch}
use Rattle.wg_machine.specs.declared.shape.Unit.{Unit as Node}
use Rattle.wg_state.specs.Lanes.{lanes_in, coordinates_of, dispatch_of}
use Rattle.wg_state.specs.Launching.{world_before, outcome_with}
use Rattle.wg_state.specs.Turns.{Ending, Spent, Done, pure}
use Rattle.wg_state.specs.WordLists.{zeros}
use Rattle.wg_code.specs.declared.code.NodeCode.{NodeCode}
use Rattle.wg_code.specs.declared.code.RawCode.{RawCode}
use Rattle.wg_code.specs.declared.op.Op.{Op}
use Rattle.wg_code.specs.Flow.{Outside}
use Rattle.wg_code.specs.Functions.{in_function, callees}
use Rattle.wg_code.specs.Lane.{Around}
use Rattle.wg_code.specs.OpMeaning.{ops_do}
use Rattle.wg_code.specs.PartMeaning.{Lanes, LaneActions, parts_run}

-- the group's coordinates, the thread's in its group and in the grid, and its index in the group (HLSL, `SV_GroupID` and the others)
abbrev pub numbers_of : List ℕ → List ℕ → ℕ → List ℕ
numbers_of group threads lane = group ++ coordinates_of threads lane ++ dispatch_of group threads lane ++ lane ∷ []

abbrev pub around_of : RawCode → NodeCode → Node → Launch → ℕ → Around
around_of code node unit launch lane = record {
  functions = code.functions;
  buffers = length code.shape.buffers;
  handles = node.handles;
  outputs = unit.outputs;
  level = unit.level;
  lane = lane;
  numbers = numbers_of (coordinates_of launch.grid launch.group) node.threads lane;
  last = launch.last;
}

-- a body on a lane; at most 33 bodies lie on a chain of calls, the node's own among them
abbrev pub node_does : Bool → RawCode → NodeCode → Node → Launch → List Op → LaneActions
node_does strict code node unit launch body lane =
    ops_do strict (around_of code node unit launch lane) (callees strict (in_function (around_of code node unit launch lane)) 33) body

abbrev pub first_lanes : NodeCode → Lanes
first_lanes node = replicate (lanes_in node.threads) (zeros node.registers)

abbrev pub outside_before : RawCode → Node → Launch → Buffers → Outside
outside_before code unit launch buffers = (zeros code.shared, world_before [] unit launch buffers)

-- how a launch ends: it spends its turns, it goes wrong, or it is done
pub data Verdict : Type 0 where
  SpendsTurns : Verdict
  GoesWrong : Verdict
  Makes : Outcome → Verdict

abbrev pub verdict_of : Node → ℕ → Ending Outside (Option Lanes) → Verdict
verdict_of unit turns Spent = SpendsTurns
verdict_of unit turns (Done None w left) = GoesWrong
verdict_of unit turns (Done (Some lanes) w left) = Makes (outcome_with unit turns w.1 left)

abbrev pub node_ends : Bool → RawCode → Option NodeCode → Node → Launch → Buffers → ℕ → Ending Outside (Option Lanes)
node_ends strict code None unit launch buffers turns = pure None (outside_before code unit launch buffers) turns
node_ends strict code (Some node) unit launch buffers turns =
    parts_run strict (node_does strict code node unit launch) node.parts (first_lanes node) (outside_before code unit launch buffers) turns

-- a launch of a unit that is not there, or of a node without code, goes wrong
abbrev pub unit_verdict : Bool → RawCode → Option Node → Launch → Buffers → ℕ → Verdict
unit_verdict strict code None launch buffers turns = GoesWrong
unit_verdict strict code (Some unit) launch buffers turns =
    verdict_of unit turns (node_ends strict code (slice_get code.nodes unit.node) unit launch buffers turns)

abbrev pub verdict : Bool → RawCode → Launch → Buffers → ℕ → Verdict
verdict strict code launch buffers turns = unit_verdict strict code (slice_get code.shape.units launch.unit) launch buffers turns

abbrev pub made_of : Verdict → Option Outcome
made_of SpendsTurns = None
made_of GoesWrong = None
made_of (Makes o) = Some o

-- what a launch does, for the machine
abbrev pub code_made : RawCode → Meaning
code_made code launch buffers turns = made_of (verdict true code launch buffers turns)
