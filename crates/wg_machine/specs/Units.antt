-- What a shape says of a unit by its number; 0, false or thread launch where it has no such unit.
use Rattle.std.specs.Prelude.{ℕ, ◌*◌, max, Bool, true, false, slice_get, unwrap_or}
use Rattle.std.specs.Option.{option_map}
use Rattle.wg_machine.specs.declared.shape.Kind.{Kind}
use Rattle.wg_machine.specs.declared.shape.Kind.TheVariants.{Thread, Coalescing, Grid, GridField}
use Rattle.wg_machine.specs.declared.shape.Shape.{Shape}
use Rattle.wg_machine.specs.declared.shape.Unit.{Unit}

abbrev pub kind_at : Shape → ℕ → Kind
kind_at shape u = unwrap_or (option_map (λ (n : Unit). n.kind) (slice_get shape.units u)) Thread

abbrev pub words_at : Shape → ℕ → ℕ
words_at shape u = unwrap_or (option_map (λ (n : Unit). n.words) (slice_get shape.units u)) 0

abbrev pub stride_at : Shape → ℕ → ℕ
stride_at shape u = unwrap_or (option_map (λ (n : Unit). n.stride) (slice_get shape.units u)) 0

abbrev pub depth_at : Shape → ℕ → ℕ
depth_at shape u = unwrap_or (option_map (λ (n : Unit). n.depth) (slice_get shape.units u)) 0

-- whether the groups of a record share its words (Work Graphs, "RWDispatchNodeInputRecord")
abbrev pub shared_at : Shape → ℕ → Bool
shared_at shape u = unwrap_or (option_map (λ (n : Unit). n.shared) (slice_get shape.units u)) false

-- the bytes of a slot for records of so many words; this project's own rule
abbrev pub stride_of : ℕ → ℕ
stride_of words = max 4 (4 * words)

-- how many records one launch may take (Work Graphs, "Coalescing launch nodes")
abbrev pub most_inputs : Kind → ℕ
most_inputs Thread = 1
most_inputs (Coalescing most) = most
most_inputs (Grid x y z) = 1
most_inputs (GridField first parts x y z) = 1

abbrev pub is_coalescing : Kind → Bool
is_coalescing Thread = false
is_coalescing (Coalescing most) = true
is_coalescing (Grid x y z) = false
is_coalescing (GridField first parts x y z) = false

abbrev pub is_broadcasting : Kind → Bool
is_broadcasting Thread = false
is_broadcasting (Coalescing most) = false
is_broadcasting (Grid x y z) = true
is_broadcasting (GridField first parts x y z) = true
