-- What the parts of a node's code do over its lanes. Own.
use Rattle.std.specs.Prelude.{ℕ, suc, ◌&&◌, not, nat_lt, Bool, if◌then◌else◌, List, [], ◌∷◌, map, length, slice_index, Option, Some, None}
use Rattle.wg_words.specs.Truth.{is_true}
use Rattle.wg_state.specs.Turns.{Action, Ending, Spent, Done, ◌>>=◌, pure}
use Rattle.wg_code.specs.declared.code.Part.{Part, fold-Part}
use Rattle.wg_code.specs.declared.code.Part.TheOpen.{Part-F}
use Rattle.wg_code.specs.declared.op.Op.{Op}
use Rattle.wg_code.specs.Flow.{Outside}
use Rattle.wg_code.specs.Functions.{went_wrong, unless}
use Rattle.wg_code.specs.Lane.{Site, Exit}

-- the lanes' registers
abbrev pub Lanes : Type 0
Lanes = List (List ℕ)

-- what is done on a lane, by its number
abbrev pub LaneActions : Type 0
LaneActions = ℕ → Action Site Exit

-- new registers, or none where it went wrong
abbrev pub Running : Type 0 → Type 0
Running A = Action Outside (Option A)

abbrev pub then_run : {A B : Type 0} → Option A → (A → Running B) → Running B
then_run None k = pure None
then_run (Some a) k = k a

abbrev pub lane_left : Bool → Ending Site Exit → Ending Outside (Option (List ℕ))
lane_left strict Spent = Spent
lane_left strict (Done exit f t) = Done (unless (went_wrong strict exit) f.registers) (f.shared, f.world) t

abbrev pub lane_runs : Bool → Action Site Exit → List ℕ → Running (List ℕ)
lane_runs strict body registers = λ w t. lane_left strict (body (record { registers = registers; shared = w.0; world = w.1 }) t)

abbrev pub put_first : List ℕ → Option Lanes → Option Lanes
put_first lane None = None
put_first lane (Some rest) = Some (lane ∷ rest)

-- the lanes one after another, from a number on
abbrev pub lanes_run : Bool → LaneActions → ℕ → Lanes → Running Lanes
lanes_run strict bodies at [] = pure (Some [])
lanes_run strict bodies at (lane ∷ rest) = lane_runs strict (bodies at) lane >>= (λ ran. then_run ran (λ first.
    lanes_run strict bodies (suc at) rest >>= (λ others. pure (put_first first others))))

abbrev pub first_runs : Bool → LaneActions → Lanes → Running Lanes
first_runs strict bodies [] = pure (Some [])
first_runs strict bodies (lane ∷ rest) = lane_runs strict (bodies 0) lane >>= (λ ran. then_run ran (λ first. pure (Some (first ∷ rest))))

abbrev pub parts_in_order : List (Lanes → Running Lanes) → Lanes → Running Lanes
parts_in_order [] lanes = pure (Some lanes)
parts_in_order (part ∷ rest) lanes = part lanes >>= (λ ran. then_run ran (parts_in_order rest))

-- lane 0's registers
abbrev pub first_lane : Lanes → List ℕ
first_lane [] = []
first_lane (lane ∷ rest) = lane

abbrev pub chosen : Bool → ℕ → (Lanes → Running Lanes) → (Lanes → Running Lanes) → Lanes → Running Lanes
chosen strict a first second lanes =
    if strict && not (nat_lt a (length (first_lane lanes))) then pure None
    else if is_true (slice_index (first_lane lanes) a) then first lanes else second lanes

abbrev pub part_step : Bool → (List Op → LaneActions) → Part-F (Lanes → Running Lanes) → Lanes → Running Lanes
part_step strict bodies (Part-F.Lanes body) = lanes_run strict (bodies body) 0
part_step strict bodies (Part-F.First body) = first_runs strict (bodies body)
part_step strict bodies (Part-F.Choose a first second) = chosen strict a (parts_in_order first) (parts_in_order second)

abbrev pub part_runs : Bool → (List Op → LaneActions) → Part → Lanes → Running Lanes
part_runs strict bodies = fold-Part (Lanes → Running Lanes) (part_step strict bodies)

abbrev pub parts_run : Bool → (List Op → LaneActions) → List Part → Lanes → Running Lanes
parts_run strict bodies parts = parts_in_order (map (part_runs strict bodies) parts)
