-- The shape of a graph of the first form: a thread node of one level for each pair, in order of the text.
use Rattle.std.specs.Prelude.{ℕ, ◌+◌, Bool, true, false, if◌then◌else◌, List, [], ◌∷◌, ◌++◌, map, Option, Some, None, nat_lt, ◌&&◌}
use Rattle.std.specs.Option.{option_map}
use Rattle.std.specs.List.{list_any, position}
use Rattle.wg_machine.specs.declared.shape.Kind.TheVariants.{Thread}
use Rattle.wg_machine.specs.declared.shape.NodeName.{NodeName}
use Rattle.wg_machine.specs.declared.shape.Output.{Output}
use Rattle.wg_machine.specs.declared.shape.Shape.{Shape}
use Rattle.wg_machine.specs.declared.shape.Unit.{Unit}
use Rattle.wg_machine.specs.Need.{is_target}
use Rattle.wg_machine.specs.Unrolling.{depth_of}
use Rattle.wg_tool.specs.declared.pair.Pair.{Pair}
use Rattle.wg_tool.specs.declared.pair.Sends.{Sends}
use Rattle.wg_tool.specs.FirstForm.{is_named}

-- the number of the pair that a node sends to, of those from a number on
abbrev pub target_in : ℕ → Option Sends → List Pair → Option ℕ
target_in k None pairs = None
target_in k (Some s) pairs = option_map (λ i. k + i) (position (is_named s.target) pairs)

abbrev pub targets_from : ℕ → List Pair → List (Option ℕ)
targets_from k [] = []
targets_from k (p ∷ pairs) = target_in (k + 1) p.sends pairs ∷ targets_from (k + 1) pairs

-- for each pair the number of the later one that it sends to
abbrev pub targets_of : List Pair → List (Option ℕ)
targets_of pairs = targets_from 0 pairs

-- nothing is sent to the unit
abbrev pub is_free : List (Option ℕ) → ℕ → Bool
is_free targets k = if list_any (is_target k) targets then false else true

abbrev pub budgets_of : Option ℕ → List ℕ
budgets_of None = []
budgets_of (Some t) = 1 ∷ []

abbrev pub outputs_of : Option ℕ → List Output
outputs_of None = []
outputs_of (Some t) = record { budget = 0; words = 1; elements = Some t ∷ [] } ∷ []

-- the unit of a number, of its depth and target
abbrev pub unit_of : List (Option ℕ) → ℕ → ℕ → Option ℕ → Unit
unit_of targets k depth target =
    record {
      node = k;
      level = 0;
      depth = depth;
      words = 1;
      stride = 4;
      kind = Thread;
      entry = is_free targets k;
      budgets = budgets_of target;
      outputs = outputs_of target;
      bools = [];
      shared = false;
    }

-- the units from a number on, after those that were built
abbrev pub later_units : List (Option ℕ) → List Unit → ℕ → List (Option ℕ) → List Unit
later_units targets built k [] = []
later_units targets built k (t ∷ ts) =
    let u = unit_of targets k (depth_of built k) t in u ∷ later_units targets (built ++ u ∷ []) (k + 1) ts

-- Each unit's depth is that over the units before it, since it sends to a later one.
abbrev pub units_of : List (Option ℕ) → List Unit
units_of targets = later_units targets [] 0 targets

abbrev pub node_of : Pair → NodeName
node_of p = record { name = p.name; index = 0 }

abbrev pub shape_of : List Pair → Shape
shape_of pairs = record { nodes = map node_of pairs; units = units_of (targets_of pairs); buffers = [] }

-- what a unit of a number sends goes to a later unit, of so many
abbrev pub goes_later : ℕ → ℕ → Option ℕ → Bool
goes_later n k None = true
goes_later n k (Some t) = nat_lt k t && nat_lt t n

-- the units from a number on send to later ones
abbrev pub are_later : ℕ → ℕ → List (Option ℕ) → Bool
are_later n k [] = true
are_later n k (t ∷ ts) = goes_later n k t && are_later n (k + 1) ts
