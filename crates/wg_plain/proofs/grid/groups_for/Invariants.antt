use Rattle.std.proofs.Common.{◌≡◌, ℕ, [], ◌∷◌, map}
use Rattle.std.specs.Prelude.{slice_index}
use Rattle.std.specs.List.{flat_map, range_with_len}
use Rattle.wg_plain.proofs.grid.groups_for.Given as goal

abbrev pub invariant-loop-z : goal.invariant-loop-z
invariant-loop-z l = l.groups ≡ flat_map (λ (z : ℕ). flat_map (λ (y : ℕ). map (λ (x : ℕ). x ∷ y ∷ z ∷ []) (range_with_len 0 (slice_index l.grid 0))) (range_with_len 0 (slice_index l.grid 1))) (range_with_len 0 l.z)
