-- The grid of thread groups that a record launches (Work Graphs, "Broadcasting launch nodes").
use Rattle.std.specs.Prelude.{ℕ, ◌+◌, ◌*◌, ◌==◌, ◌&&◌, min, nat_lt, Bool, if◌then◌else◌, List, [], ◌∷◌, length, map, slice_index}
use Rattle.std.specs.List.{list_any, flat_map, range_with_len}
use Rattle.wg_machine.specs.declared.shape.Kind.{Kind}
use Rattle.wg_machine.specs.declared.shape.Kind.TheVariants.{Thread, Coalescing, Grid, GridField}

-- A component of a grid that a record holds, clipped to the most; 1 where the field has no such part. Clipping is
-- this project's own rule.
abbrev pub clipped : ℕ → ℕ → List ℕ → ℕ → ℕ → ℕ
clipped first parts words k most = if nat_lt k parts then min most (slice_index words (first + k)) else 1

-- the grid that a record of these words launches
abbrev pub grid_of : Kind → List ℕ → List ℕ
grid_of Thread words = 1 ∷ 1 ∷ 1 ∷ []
grid_of (Coalescing most) words = 1 ∷ 1 ∷ 1 ∷ []
grid_of (Grid x y z) words = x ∷ y ∷ z ∷ []
grid_of (GridField first parts x y z) words =
    clipped first parts words 0 x ∷ clipped first parts words 1 y ∷ clipped first parts words 2 z ∷ []

-- how many groups a grid has
abbrev pub groups_in : List ℕ → ℕ
groups_in grid = slice_index grid 0 * slice_index grid 1 * slice_index grid 2

-- the groups of a grid by their coordinates, x running fastest
abbrev pub groups_of : List ℕ → List (List ℕ)
groups_of grid =
    flat_map (λ z. flat_map (λ y. map (λ x. x ∷ y ∷ z ∷ []) (range_with_len 0 (slice_index grid 0))) (range_with_len 0 (slice_index grid 1))) (range_with_len 0 (slice_index grid 2))

-- a group's linear number in its grid
abbrev pub place_of : List ℕ → List ℕ → ℕ
place_of grid at =
    slice_index at 2 * slice_index grid 0 * slice_index grid 1 + slice_index at 1 * slice_index grid 0 + slice_index at 0

-- the same coordinates, and as many
abbrev pub same_group : List ℕ → List ℕ → Bool
same_group a b =
    (length a == length b) && (slice_index a 0 == slice_index b 0) && (slice_index a 1 == slice_index b 1)
    && (slice_index a 2 == slice_index b 2)

abbrev pub has_group : List (List ℕ) → List ℕ → Bool
has_group groups at = list_any (λ (g : List ℕ). same_group g at) groups

-- the groups without the first that is the given one
abbrev pub without_group : List ℕ → List (List ℕ) → List (List ℕ)
without_group at [] = []
without_group at (g ∷ groups) = if same_group g at then groups else g ∷ without_group at groups
