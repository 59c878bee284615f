use Rattle.std.proofs.Common.{◌≡◌, ◌++◌, ℕ, map, take, replicate}
use Rattle.std.specs.Prelude.{slice_index}
use Rattle.wg_operations.proofs.calls.window.Given as goal

abbrev pub invariant-loop-at : goal.invariant-loop-at
invariant-loop-at l = l.list.items ≡ take l.at (map (λ (r : ℕ). slice_index l.registers r) l.args ++ replicate l.count 0)
