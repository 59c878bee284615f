use Rattle.std.proofs.Common.{◌∙◌, ap, ℕ, List, ◌++◌, ◌∷◌, [], map}
use Rattle.std.specs.Prelude.{slice_index}
use Rattle.std.specs.List.{flat_map, range_with_len}
use Rattle.wg_plain.proofs.Grids.{flat_more}
use Rattle.wg_plain.proofs.grid.groups_for.Goals as goal

pub loop-z-preserved : goal.loop-z-preserved
loop-z-preserved c =
    let plane = λ (z : ℕ). flat_map (λ (y : ℕ). map (λ (x : ℕ). x ∷ y ∷ z ∷ []) (range_with_len 0 (slice_index c.args.grid.now 0))) (range_with_len 0 (slice_index c.args.grid.now 1)) in
    flat_more plane [] c.push_plane.new.groups c.loop-z.z
    (c.in_ok-push_plane.ensures ∙ ap (λ (l : List (List ℕ)). l ++ plane c.loop-z.z) c.loop-z.invariant)
