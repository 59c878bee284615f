use Rattle.std.proofs.Common.{◌≡◌, ℕ, ◌++◌, [], ◌∷◌, map}
use Rattle.std.specs.List.{range_with_len}
use Rattle.wg_plain.proofs.grid.push_row.Given as goal

abbrev pub invariant-loop-x : goal.invariant-loop-x
invariant-loop-x l = l.groups ≡ l.initial.groups ++ map (λ (x : ℕ). x ∷ l.y ∷ l.z ∷ []) (range_with_len 0 l.x)
