-- The shape of a graph, as a relation: its units are its nodes at their levels, by node and then by falling level, and each is as the
-- attributes of its node and the types of its records say (DirectX-Specs, Work Graphs; levels, depths and slots are this project's own).
use Rattle.std.specs.Prelude.{◌≡◌, ⊤, ℕ, zero, suc, ◌==◌, ◌&&◌, ◌||◌, not, max, Bool, if◌then◌else◌, List, [], ◌∷◌, map, length, slice_get, Option, Some, None}
use Rattle.std.specs.List.{AllZip, list_any, range_with_len}
use Rattle.wg_machine.specs.declared.shape.NodeName.{NodeName}
use Rattle.wg_machine.specs.declared.shape.Output.{Output}
use Rattle.wg_machine.specs.declared.shape.Shape.{Shape}
use Rattle.wg_machine.specs.declared.shape.Unit.{Unit}
use Rattle.wg_machine.specs.Units.{stride_of}
use Rattle.wg_machine.specs.Unrolling.{unrolled, node_and_level}
use Rattle.wg_typed.specs.declared.typed.Typed.{Typed}
use Rattle.wg_typed.specs.declared.typed.TypedBuffer.{TypedBuffer}
use Rattle.wg_node_attributes.specs.declared.attributes.NodeAttrs.{NodeAttrs}
use Rattle.wg_node_attributes.specs.declared.attributes.OutputAttr.{OutputAttr}
use Rattle.wg_shapes.specs.Chain.{IsLongest}
use Rattle.wg_shapes.specs.Level.{Sends, top_level, top_levels}
use Rattle.wg_shapes.specs.Naming.{elements_of, targets}
use Rattle.wg_shapes.specs.Records.{bool_words, input_record, output_record, record_words, shares_input}

-- ---- targets

abbrev pub one_lower : ℕ → ℕ → Option (ℕ × ℕ)
one_lower n zero = None
one_lower n (suc level) = Some (n, level)

-- the node and level at which a record arrives that a node at a level sends to an element: none where there is no such node, or where it
-- is the node itself at level 0
abbrev pub arrival : List NodeAttrs → ℕ → ℕ → Option ℕ → Option (ℕ × ℕ)
arrival nodes n level None = None
arrival nodes n level (Some m) = if m == n then one_lower n level else Some (m, top_level nodes m)

-- a number of a unit is that of a node at a level
abbrev pub IsUnitAt : List Unit → Option (ℕ × ℕ) → Option ℕ → Type 0
IsUnitAt units None None = ⊤
IsUnitAt units None (Some t) = ⊥
IsUnitAt units (Some p) None = ⊥
IsUnitAt units (Some p) (Some t) = slice_get (map node_and_level units) t ≡ Some p

-- ---- budgets

-- the `MaxRecords` of a budget, which each output on it has
abbrev pub most_of : List OutputAttr → ℕ → ℕ
most_of [] budget = 0
most_of (o ∷ rest) budget = if o.budget == budget then o.most else most_of rest budget

-- one more than the greatest number of a budget
abbrev pub budget_count : List OutputAttr → ℕ
budget_count [] = 0
budget_count (o ∷ rest) = max (suc o.budget) (budget_count rest)

abbrev pub budgets_of : List OutputAttr → List ℕ
budgets_of outputs = map (most_of outputs) (range_with_len 0 (budget_count outputs))

-- ---- entries

-- Another node targets this one.
abbrev pub is_targeted : List NodeAttrs → ℕ → Bool
is_targeted nodes n = list_any (λ m. not (m == n) && targets nodes m n) (range_with_len 0 (length nodes))

-- A record of a script arrives at the top level of a node that is marked or that no other node targets.
abbrev pub is_entry : List NodeAttrs → ℕ → ℕ → NodeAttrs → Bool
is_entry nodes n level a = level == top_level nodes n && (a.marked || not (is_targeted nodes n))

-- ---- units

pub record IsOutputOf (typed : Typed) (nodes : List NodeAttrs) (units : List Unit) (a : NodeAttrs) (at : ℕ × ℕ) (from : OutputAttr) (o : Output) : Type 0 where
  pub budget : o.budget ≡ from.budget
  pub words : o.words ≡ record_words typed.structs (output_record typed a from)
  pub elements : AllZip (λ (e : Option ℕ) (t : Option ℕ). IsUnitAt units (arrival nodes at.0 at.1 e) t) (elements_of nodes from) o.elements

pub record IsUnitOf (typed : Typed) (nodes : List NodeAttrs) (units : List Unit) (a : NodeAttrs) (u : Unit) : Type 0 where
  pub depth : IsLongest (Sends nodes) u.depth (node_and_level u)
  pub words : u.words ≡ record_words typed.structs (input_record typed a)
  pub stride : u.stride ≡ stride_of u.words
  pub kind : u.kind ≡ a.kind
  pub entry : u.entry ≡ is_entry nodes u.node u.level a
  pub budgets : u.budgets ≡ budgets_of a.outputs
  pub outputs : AllZip (λ (from : OutputAttr) (o : Output). IsOutputOf typed nodes units a (node_and_level u) from o) a.outputs u.outputs
  pub bools : u.bools ≡ bool_words typed.structs (input_record typed a)
  pub shared : u.shared ≡ shares_input typed a

-- a unit is one of a node
pub record IsUnitOfNode (typed : Typed) (nodes : List NodeAttrs) (units : List Unit) (u : Unit) : Type 0 where
  pub node : NodeAttrs
  pub there : slice_get nodes u.node ≡ Some node
  pub is : IsUnitOf typed nodes units node u

abbrev pub node_name : NodeAttrs → NodeName
node_name a = record { name = a.name; index = a.index }

abbrev pub buffer_name : TypedBuffer → List ℕ
buffer_name b = b.name.name

pub record IsShapeOf (typed : Typed) (nodes : List NodeAttrs) (shape : Shape) : Type 0 where
  pub nodes_are : shape.nodes ≡ map node_name nodes
  pub unrolling : map node_and_level shape.units ≡ unrolled 0 (top_levels nodes)
  pub units_are : (k : ℕ) (u : Unit) → slice_get shape.units k ≡ Some u → IsUnitOfNode typed nodes shape.units u
  pub buffers_are : shape.buffers ≡ map buffer_name typed.buffers
