use Rattle.std.proofs.Common.{◌≡◌, ℕ, ◌++◌, [], ◌∷◌, map}
use Rattle.std.specs.Prelude.{slice_index}
use Rattle.std.specs.List.{flat_map, range_with_len}
use Rattle.wg_plain.proofs.grid.push_plane.Given as goal

abbrev pub invariant-loop-y : goal.invariant-loop-y
invariant-loop-y l = l.groups ≡ l.initial.groups ++ flat_map (λ (y : ℕ). map (λ (x : ℕ). x ∷ y ∷ l.z ∷ []) (range_with_len 0 (slice_index l.grid 0))) (range_with_len 0 l.y)
