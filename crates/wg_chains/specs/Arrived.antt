-- The depths of nodes, found in rounds. Own.
use Rattle.std.specs.Prelude.{◌≡◌, ◌≢◌, ◌⊎◌, ⊤, ℕ, suc, ◌+◌, ◌<◌, ◌≤◌, min, max, Bool, if◌then◌else◌, List, slice_get, Option, Some, None, unwrap_or, IsTrue, length}
use Rattle.wg_node_attributes.specs.declared.attributes.NodeAttrs.{NodeAttrs}
use Rattle.wg_shapes.specs.Chain.{Chain}
use Rattle.wg_shapes.specs.FirstNode.{IsFirstNode}
use Rattle.wg_shapes.specs.Level.{Sends, depth_if, top_level}
use Rattle.wg_shapes.specs.Naming.{targets}
use Rattle.wg_chains.specs.Rows.{leads}

-- how many units a node that targets itself has below its top level
abbrev pub lower_levels : List NodeAttrs → ℕ → ℕ
lower_levels nodes n = if targets nodes n n then top_level nodes n else 0

-- the depth of a node's last unit, where its first one has its number among these
abbrev pub last_of : List NodeAttrs → List ℕ → ℕ → ℕ
last_of nodes depths n = unwrap_or (slice_get depths n) 0 + lower_levels nodes n

-- the same by rows of flags
abbrev pub lower_in : List NodeAttrs → List (List Bool) → ℕ → ℕ
lower_in nodes rows n = if leads rows n n then depth_if (slice_get nodes n) else 0

abbrev pub last_in : List NodeAttrs → List (List Bool) → List ℕ → ℕ → ℕ
last_in nodes rows depths n = unwrap_or (slice_get depths n) 0 + lower_in nodes rows n

abbrev pub deeper_of : ℕ → Bool → ℕ → ℕ
deeper_of best counts last = if counts then max best (min 33 (suc last)) else best

-- one more than the greatest depth of the last units of the other nodes that target this one, up to 33; 1 where there are none
pub record IsArrived (nodes : List NodeAttrs) (depths : List ℕ) (n d : ℕ) : Type 0 where
  pub least : 1 ≤ d
  pub above : (i : ℕ) → i ≢ n → IsTrue (targets nodes i n) → min 33 (suc (last_of nodes depths i)) ≤ d
  pub from : (d ≡ 1) ⊎ ((i : ℕ) × (i ≢ n) × IsTrue (targets nodes i n) × (d ≤ suc (last_of nodes depths i)))

-- a chain of so many units ends at a node's first unit, and none that is longer, as far as k steps show and up to 33
pub record IsReached (nodes : List NodeAttrs) (k n d : ℕ) : Type 0 where
  pub chain : Chain (Sends nodes) d (n, top_level nodes n)
  pub longest : (m : ℕ) → Chain (Sends nodes) m (n, top_level nodes n) → min 33 (min m (suc k)) ≤ d

pub record AreReached (nodes : List NodeAttrs) (k : ℕ) (depths : List ℕ) : Type 0 where
  pub count : length depths ≡ length nodes
  pub each : (n d : ℕ) → slice_get depths n ≡ Some d → IsReached nodes k n d

-- the first node of which P holds; none where it holds of no node
abbrev pub IsFirstOrNone : (ℕ → Type 0) → Option ℕ → Type 0
IsFirstOrNone P None = (n : ℕ) → P n → ⊥
IsFirstOrNone P (Some n) = IsFirstNode P n
