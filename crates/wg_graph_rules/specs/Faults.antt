-- The first rule on graphs that a text breaks. The rules are tried in the order of their numbers, each over the nodes in the order of the
-- text; a fault is told where the rules before its own are kept, at the first place where its own is broken. This project's own.
use Rattle.std.specs.Prelude.{◌≡◌, ⊤, ℕ, List, [], ◌∷◌, slice_get, Option, Some, None}
use Rattle.wg_words.specs.declared.place.Place.{Place}
use Rattle.wg_typed.specs.declared.typed.Typed.{Typed}
use Rattle.wg_node_attributes.specs.declared.attributes.NodeAttrs.{NodeAttrs}
use Rattle.wg_shapes.specs.ChainTooLong.{EndsLongChain}
use Rattle.wg_shapes.specs.Cycle.{OnCycle}
use Rattle.wg_shapes.specs.FirstNode.{IsFirstNode}
use Rattle.wg_shapes.specs.NoEntry.{no_entry}
use Rattle.wg_shapes.specs.NoTarget.{no_target}
use Rattle.wg_shapes.specs.Places.{first_place, node_place}
use Rattle.wg_shapes.specs.SparseNotAllowed.{sparse_not_allowed}
use Rattle.wg_shapes.specs.TooManyNodes.{too_many_nodes}
use Rattle.wg_shapes.specs.TwoOfOneName.{two_of_one_name}
use Rattle.wg_graph_rules.specs.RecordDiffers.{record_differs}
use Rattle.wg_graph_rules.specs.declared.fault.GraphFault.{GraphFault}
use Rattle.wg_graph_rules.specs.declared.fault.GraphFault.TheVariants.{NoEntry, TwoOfOneName, TooManyNodes, NoTarget, SparseNotAllowed, RecordDiffers, Cycle, ChainTooLong, Memory}

abbrev pub first_of : List Place → Option Place
first_of [] = None
first_of (p ∷ rest) = Some p

-- ---- graphs that keep rules: each of these is the rule of its name, and those before it

abbrev pub KeepsNoEntry : List NodeAttrs → Type 0
KeepsNoEntry nodes = no_entry nodes ≡ []

pub record KeepsTwoOfOneName (typed : Typed) (nodes : List NodeAttrs) : Type 0 where
  pub before : KeepsNoEntry nodes
  pub none : two_of_one_name typed nodes ≡ []

pub record KeepsTooManyNodes (typed : Typed) (nodes : List NodeAttrs) : Type 0 where
  pub before : KeepsTwoOfOneName typed nodes
  pub none : too_many_nodes typed nodes ≡ []

pub record KeepsNoTarget (typed : Typed) (nodes : List NodeAttrs) : Type 0 where
  pub before : KeepsTooManyNodes typed nodes
  pub none : no_target typed nodes ≡ []

pub record KeepsSparseNotAllowed (typed : Typed) (nodes : List NodeAttrs) : Type 0 where
  pub before : KeepsNoTarget typed nodes
  pub none : sparse_not_allowed typed nodes ≡ []

pub record KeepsRecordDiffers (typed : Typed) (nodes : List NodeAttrs) : Type 0 where
  pub before : KeepsSparseNotAllowed typed nodes
  pub none : record_differs typed nodes ≡ []

pub record KeepsCycle (typed : Typed) (nodes : List NodeAttrs) : Type 0 where
  pub before : KeepsRecordDiffers typed nodes
  pub none : (n : ℕ) → OnCycle nodes n → ⊥

-- the last of the rules, so all are kept
pub record KeepsRules (typed : Typed) (nodes : List NodeAttrs) : Type 0 where
  pub before : KeepsCycle typed nodes
  pub none : (n : ℕ) → EndsLongChain nodes n → ⊥

-- ---- faults

abbrev pub place_of_node : Typed → Option NodeAttrs → Place
place_of_node typed None = first_place
place_of_node typed (Some a) = node_place typed a

-- the first node of which something holds, and its place
pub record IsFirstAt (typed : Typed) (nodes : List NodeAttrs) (P : ℕ → Type 0) (n : ℕ) (place : Place) : Type 0 where
  pub first : IsFirstNode P n
  pub there : place ≡ place_of_node typed (slice_get nodes n)

-- want of memory may come at any time
abbrev pub IsFirstFault : Typed → List NodeAttrs → GraphFault → Type 0
IsFirstFault typed nodes Memory = ⊤
IsFirstFault typed nodes NoEntry = first_of (no_entry nodes) ≡ Some first_place
IsFirstFault typed nodes (TwoOfOneName place) = KeepsNoEntry nodes × (first_of (two_of_one_name typed nodes) ≡ Some place)
IsFirstFault typed nodes (TooManyNodes place) = KeepsTwoOfOneName typed nodes × (first_of (too_many_nodes typed nodes) ≡ Some place)
IsFirstFault typed nodes (NoTarget place) = KeepsTooManyNodes typed nodes × (first_of (no_target typed nodes) ≡ Some place)
IsFirstFault typed nodes (SparseNotAllowed place) = KeepsNoTarget typed nodes × (first_of (sparse_not_allowed typed nodes) ≡ Some place)
IsFirstFault typed nodes (RecordDiffers place) = KeepsSparseNotAllowed typed nodes × (first_of (record_differs typed nodes) ≡ Some place)
IsFirstFault typed nodes (Cycle node place) = KeepsRecordDiffers typed nodes × IsFirstAt typed nodes (OnCycle nodes) node place
IsFirstFault typed nodes (ChainTooLong node place) = KeepsCycle typed nodes × IsFirstAt typed nodes (EndsLongChain nodes) node place

-- what a search of some of the rules finds: that they are kept, or the first fault
abbrev pub IsFound : Type 0 → Typed → List NodeAttrs → Option GraphFault → Type 0
IsFound Keeps typed nodes None = Keeps
IsFound Keeps typed nodes (Some f) = IsFirstFault typed nodes f
