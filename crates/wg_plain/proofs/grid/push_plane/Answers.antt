use Rattle.std.proofs.Common.{◌∙◌, ap, ℕ, List, ◌++◌, ◌∷◌, [], map}
use Rattle.std.specs.Prelude.{slice_index}
use Rattle.std.specs.List.{range_with_len}
use Rattle.wg_plain.proofs.Grids.{flat_more}
use Rattle.wg_plain.proofs.grid.push_plane.Goals as goal

pub loop-y-preserved : goal.loop-y-preserved
loop-y-preserved c =
    let row = λ (y : ℕ). map (λ (x : ℕ). x ∷ y ∷ c.args.z ∷ []) (range_with_len 0 (slice_index c.args.grid.now 0)) in
    flat_more row c.args.groups.now c.push_row.new.groups c.loop-y.y
    (c.in_ok-push_row.ensures ∙ ap (λ (l : List (List ℕ)). l ++ row c.loop-y.y) c.loop-y.invariant)
