-- What holds of the shape of every accepted graph: the limits of this project and the rules of the unrolling.
use Rattle.std.specs.Prelude.{◌≡◌, ◌≢◌, ◌⊎◌, ⊤, ℕ, ◌+◌, ◌*◌, ◌<◌, ◌≤◌, List, [], ◌∷◌, length, map, slice_get, Option, Some, None, IsTrue}
use Rattle.wg_machine.specs.declared.shape.Kind.{Kind}
use Rattle.wg_machine.specs.declared.shape.Kind.TheVariants.{Thread, Coalescing, Grid, GridField}
use Rattle.wg_machine.specs.declared.shape.NodeName.{NodeName}
use Rattle.wg_machine.specs.declared.shape.Output.{Output}
use Rattle.wg_words.specs.Characters.{is_identifier}
use Rattle.wg_words.specs.Each.{Each}
use Rattle.wg_words.specs.declared.limits.TheConstants.{GRID_BOUND, MOST_AXIS_GROUPS, MOST_BUFFERS, MOST_ELEMENTS, MOST_NODES, MOST_OUTPUTS, MOST_RECORDS, MOST_RECORD_WORDS, MOST_RECURSION_DEPTH, MOST_UNIT_CHAIN}
use Rattle.wg_machine.specs.declared.shape.Shape.{Shape}
use Rattle.wg_machine.specs.declared.shape.Unit.{Unit}
use Rattle.wg_machine.specs.Units.{is_broadcasting, stride_of}
use Rattle.wg_machine.specs.Unrolling.{unrolled, node_and_level, depth_of, IsFirst}

pub record IsBetween (least most n : ℕ) : Type 0 where
  pub low : least ≤ n
  pub high : n ≤ most

-- a declared grid (Work Graphs, "NodeDispatchGrid")
pub record IsGoodGrid (x y z : ℕ) : Type 0 where
  pub x_fits : IsBetween 1 MOST_AXIS_GROUPS x
  pub y_fits : IsBetween 1 MOST_AXIS_GROUPS y
  pub z_fits : IsBetween 1 MOST_AXIS_GROUPS z
  pub product : x * y * z < GRID_BOUND

-- a field with a grid has 1 to 3 parts, and lies inside the record
pub record IsGoodField (words first parts x y z : ℕ) : Type 0 where
  pub grid : IsGoodGrid x y z
  pub parts_few : IsBetween 1 3 parts
  pub inside : first + parts ≤ words

abbrev pub IsGoodKind : ℕ → Kind → Type 0
IsGoodKind words Thread = ⊤
IsGoodKind words (Coalescing most) = IsBetween 1 MOST_RECORDS most
IsGoodKind words (Grid x y z) = IsGoodGrid x y z
IsGoodKind words (GridField first parts x y z) = IsGoodField words first parts x y z

-- An element's target is deeper and takes the output's words. It is the own node one level lower, or the first unit
-- of another node.
pub record IsGoodTarget (shape : Shape) (u : Unit) (o : Output) (t : ℕ) : Type 0 where
  pub target : Unit
  pub there : slice_get shape.units t ≡ Some target
  pub deeper : u.depth < target.depth
  pub words : target.words ≡ o.words
  pub place : ((target.node ≡ u.node) × (target.level + 1 ≡ u.level)) ⊎ ((target.node ≢ u.node) × IsFirst shape t)

abbrev pub IsGoodElement : Shape → Unit → Output → Option ℕ → Type 0
IsGoodElement shape u o None = ⊤
IsGoodElement shape u o (Some t) = IsGoodTarget shape u o t

pub record IsGoodOutput (shape : Shape) (u : Unit) (o : Output) : Type 0 where
  pub budget : o.budget < length u.budgets
  pub words : o.words ≤ MOST_RECORD_WORDS
  pub count : IsBetween 1 MOST_ELEMENTS (length o.elements)
  pub elements : Each (IsGoodElement shape u o) o.elements

-- each number is above the one before it, and below the end
abbrev pub RisesBelow : ℕ → ℕ → List ℕ → Type 0
RisesBelow least end [] = ⊤
RisesBelow least end (n ∷ ns) = (least ≤ n) × (n < end) × RisesBelow (n + 1) end ns

pub record IsGoodUnit (shape : Shape) (k : ℕ) (u : Unit) : Type 0 where
  pub depth : u.depth ≡ depth_of shape.units k
  pub chain : u.depth ≤ MOST_UNIT_CHAIN
  pub words : u.words ≤ MOST_RECORD_WORDS
  pub stride : u.stride ≡ stride_of u.words
  pub kind : IsGoodKind u.words u.kind
  pub entry : IsTrue u.entry → IsFirst shape k
  pub budgets : Each (IsBetween 1 MOST_RECORDS) u.budgets
  pub few_outputs : length u.outputs ≤ MOST_OUTPUTS
  pub outputs : Each (IsGoodOutput shape u) u.outputs
  pub bools : RisesBelow 0 u.words u.bools
  pub shared : IsTrue u.shared → IsTrue (is_broadcasting u.kind)

-- what the levels of a node have in common
abbrev pub form_of : Output → ℕ × ℕ × ℕ
form_of o = (o.budget, o.words, length o.elements)

pub record IsAlike (a b : Unit) : Type 0 where
  pub words : a.words ≡ b.words
  pub kind : a.kind ≡ b.kind
  pub budgets : a.budgets ≡ b.budgets
  pub bools : a.bools ≡ b.bools
  pub shared : a.shared ≡ b.shared
  pub outputs : map form_of a.outputs ≡ map form_of b.outputs

-- the units are the nodes at their levels, in order
pub record IsUnrolled (shape : Shape) : Type 0 where
  pub depths : List ℕ
  pub count : length depths ≡ length shape.nodes
  pub few : Each (λ d. d ≤ MOST_RECURSION_DEPTH) depths
  pub units : map node_and_level shape.units ≡ unrolled 0 depths

pub record IsGoodShape (shape : Shape) : Type 0 where
  pub few_nodes : length shape.nodes ≤ MOST_NODES
  pub node_names : Each (λ (n : NodeName). IsTrue (is_identifier n.name)) shape.nodes
  pub nodes_differ : (i j : ℕ) (n : NodeName) → slice_get shape.nodes i ≡ Some n → slice_get shape.nodes j ≡ Some n → i ≡ j
  pub unrolling : IsUnrolled shape
  pub units : (k : ℕ) (u : Unit) → slice_get shape.units k ≡ Some u → IsGoodUnit shape k u
  pub alike : (i j : ℕ) (a b : Unit) → slice_get shape.units i ≡ Some a → slice_get shape.units j ≡ Some b → a.node ≡ b.node → IsAlike a b
  pub few_buffers : length shape.buffers ≤ MOST_BUFFERS
  pub buffer_names : Each (λ name. IsTrue (is_identifier name)) shape.buffers
  pub buffers_differ : (i j : ℕ) (name : List ℕ) → slice_get shape.buffers i ≡ Some name → slice_get shape.buffers j ≡ Some name → i ≡ j
