use Rattle.std.proofs.Common.{◌≡◌, ◌<◌, ◌&&◌, ◌==◌, ℕ, not, false}
use Rattle.wg_shapes.specs.Naming.{targets}
use Rattle.wg_graph.proofs.fields.is_targeted.Given as goal

abbrev pub invariant-loop-m : goal.invariant-loop-m
invariant-loop-m l = (i : ℕ) → i < l.m → (not (i == l.n) && targets l.nodes i l.n) ≡ false
