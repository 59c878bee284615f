-- Which code is valid: all that it names is there, calls go to smaller depths, and requests stand where each runs once.
use Rattle.std.specs.Prelude.{ℕ, ◌+◌, ◌^◌, Bool, true, false, ◌&&◌, ◌||◌, not, min, nat_lt, nat_le, ◌==◌, if◌then◌else◌, List, [], ◌∷◌, map, length, slice_get, Option, Some, None}
use Rattle.std.specs.List.{list_all}
use Rattle.wg_words.specs.declared.limits.TheConstants.{MOST_LANES, MOST_SHARED_WORDS, MOST_CODE_WEIGHT}
use Rattle.wg_machine.specs.declared.shape.Kind.{Kind}
use Rattle.wg_machine.specs.declared.shape.Kind.TheVariants as kind
use Rattle.wg_machine.specs.declared.shape.Unit.{Unit}
use Rattle.wg_state.specs.Lanes.{lanes_in}
use Rattle.wg_code.specs.Counts.{requests_in_parts}
use Rattle.wg_code.specs.Named.{Tables, names_there}
use Rattle.wg_code.specs.declared.code.Function.{Function}
use Rattle.wg_code.specs.declared.code.Handle.{Handle}
use Rattle.wg_code.specs.declared.code.NodeCode.{NodeCode}
use Rattle.wg_code.specs.declared.code.Part.{Part, fold-Part}
use Rattle.wg_code.specs.declared.code.Part.TheOpen.{Part-F}
use Rattle.wg_code.specs.declared.code.RawCode.{RawCode}
use Rattle.wg_code.specs.declared.op.Op.{Op, fold-Op}
use Rattle.wg_code.specs.declared.op.Op.TheOpen.{Op-F}

-- ---- operations

-- the tables of a body, whether it is a node's, and the depth below which functions may be called
pub record Scope : Type 0 where
  pub tables : Tables
  pub node : Bool
  pub depth : ℕ

abbrev pub is_below : ℕ → Option Function → Bool
is_below depth None = false
is_below depth (Some f) = nat_lt f.depth depth

-- whether an operation may stand in a loop, or outside of loops
abbrev pub may_stand : {A : Type 0} → Scope → Bool → Op-F A → Bool
may_stand k in_loop (Op-F.Request handle element amount) = k.node && not in_loop
may_stand k in_loop (Op-F.Increment output element amount) = k.node && not in_loop
may_stand k in_loop (Op-F.Complete handle) = k.node && not in_loop
may_stand k in_loop Op-F.Break = in_loop
may_stand k in_loop Op-F.Continue = in_loop
may_stand k in_loop (Op-F.Call function args results) = is_below k.depth (slice_get k.tables.functions function)
may_stand k in_loop _ = true

-- by whether a loop holds the operation
abbrev pub Judged : Type 0
Judged = Bool → Bool

abbrev pub all_valid : Bool → List Judged → Bool
all_valid in_loop ops = list_all (λ (valid : Judged). valid in_loop) ops

abbrev pub blocks_valid : Bool → Op-F Judged → Bool
blocks_valid in_loop (Op-F.If a first second) = all_valid in_loop first && all_valid in_loop second
blocks_valid in_loop (Op-F.Loop test a body step) = all_valid true test && (all_valid true body && all_valid true step)
blocks_valid in_loop _ = true

abbrev pub valid_step : Scope → Op-F Judged → Judged
valid_step k op in_loop = names_there k.tables op && (may_stand k in_loop op && blocks_valid in_loop op)

abbrev pub is_valid : Scope → Op → Judged
is_valid k = fold-Op Judged (valid_step k)

abbrev pub are_valid : Scope → Bool → List Op → Bool
are_valid k in_loop ops = all_valid in_loop (map (is_valid k) ops)

-- ---- functions

abbrev pub function_scope : RawCode → Function → Scope
function_scope code f = record {
  tables = record {
    registers = f.registers;
    shared = code.shared;
    buffers = length code.shape.buffers;
    outputs = 0;
    handles = [];
    functions = code.functions;
  };
  node = false;
  depth = f.depth;
}

-- at most 33 bodies lie on a chain of calls, a node's own among them
abbrev pub is_valid_function : RawCode → Function → Bool
is_valid_function code f =
    (nat_le f.params f.registers && nat_le f.results f.registers) && (nat_le f.depth 32 && are_valid (function_scope code f) false f.body)

-- ---- nodes

-- how many outputs each unit of a node has; all that a number can name where it has no unit
abbrev pub outputs_of : List Unit → ℕ → ℕ
outputs_of [] node = 2 ^ 32
outputs_of (u ∷ rest) node = if u.node == node then min (length u.outputs) (outputs_of rest node) else outputs_of rest node

abbrev pub node_scope : RawCode → ℕ → NodeCode → Scope
node_scope code at node = record {
  tables = record {
    registers = node.registers;
    shared = code.shared;
    buffers = length code.shape.buffers;
    outputs = outputs_of code.shape.units at;
    handles = node.handles;
    functions = code.functions;
  };
  node = true;
  depth = 33;
}

abbrev pub part_step : Scope → Part-F Bool → Bool
part_step k (Part-F.Lanes body) = are_valid k false body
part_step k (Part-F.First body) = are_valid k false body
part_step k (Part-F.Choose a first second) = nat_lt a k.tables.registers && (list_all (λ b. b) first && list_all (λ b. b) second)

abbrev pub parts_valid : Scope → List Part → Bool
parts_valid k parts = list_all (λ b. b) (map (fold-Part Bool (part_step k)) parts)

abbrev pub is_thread : Kind → Bool
is_thread kind.Thread = true
is_thread (kind.Coalescing most) = false
is_thread (kind.Grid x y z) = false
is_thread (kind.GridField first parts x y z) = false

-- whether some unit of a node is launched by threads (Work Graphs, "Thread launch nodes")
abbrev pub has_threads : List Unit → ℕ → Bool
has_threads [] node = false
has_threads (u ∷ rest) node = ((u.node == node) && is_thread u.kind) || has_threads rest node

abbrev pub threads_fit : List Unit → ℕ → ℕ → Bool
threads_fit units node lanes = (nat_le 1 lanes && nat_le lanes MOST_LANES) && (not (has_threads units node) || (lanes == 1))

abbrev pub is_valid_node : RawCode → ℕ → NodeCode → Bool
is_valid_node code at node =
    (threads_fit code.shape.units at (lanes_in node.threads) && list_all (λ (h : Handle). nat_lt h.output (outputs_of code.shape.units at)) node.handles)
    && (parts_valid (node_scope code at node) node.parts && nat_le (requests_in_parts node.parts) MOST_CODE_WEIGHT)

abbrev pub are_valid_nodes : RawCode → ℕ → List NodeCode → Bool
are_valid_nodes code at [] = true
are_valid_nodes code at (node ∷ rest) = is_valid_node code at node && are_valid_nodes code (at + 1) rest

abbrev pub valid : RawCode → Bool
valid code =
    (nat_le code.shared MOST_SHARED_WORDS && (length code.nodes == length code.shape.nodes))
    && (list_all (is_valid_function code) code.functions && are_valid_nodes code 0 code.nodes)
