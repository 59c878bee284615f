-- Rule 507 of graphs: a cycle other than a node that targets itself under a declared depth (DirectX-Specs, Work Graphs, "Recursion"). Its
-- number is own.
use Rattle.std.specs.Prelude.{ℕ, ◌==◌, ◌&&◌, not, is_some, Bool, false, List, slice_get, Option, Some, None, IsTrue}
use Rattle.wg_node_attributes.specs.declared.attributes.NodeAttrs.{NodeAttrs}
use Rattle.wg_shapes.specs.Naming.{targets}

abbrev pub recurs_if : Option NodeAttrs → Bool
recurs_if None = false
recurs_if (Some a) = is_some a.recursion

-- a node targets another, or itself without a declared depth
abbrev pub joins : List NodeAttrs → ℕ → ℕ → Bool
joins nodes n m = targets nodes n m && not (n == m && recurs_if (slice_get nodes n))

-- one or more steps of R lead from one number to another
pub data Leads (R : ℕ → ℕ → Bool) (from : ℕ) : ℕ → Type 0 where
  at_once : {to : ℕ} → IsTrue (R from to) → Leads R from to
  through : {by to : ℕ} → Leads R from by → IsTrue (R by to) → Leads R from to

-- the node lies on a cycle
abbrev pub OnCycle : List NodeAttrs → ℕ → Type 0
OnCycle nodes n = Leads (joins nodes) n n
