use Rattle.std.proofs.Common.{◌∙◌, ap, ℕ, List, ◌++◌, ◌∷◌, []}
use Rattle.wg_plain.proofs.Grids.{map_more}
use Rattle.wg_plain.proofs.grid.push_row.Goals as goal

pub loop-x-preserved : goal.loop-x-preserved
loop-x-preserved c = map_more (λ (x : ℕ). x ∷ c.args.y ∷ c.args.z ∷ []) c.args.groups.now c.push.new.self c.loop-x.x
    (c.in_ok-push.ensures.ok ∙ ap (λ (l : List (List ℕ)). l ++ (c.loop-x.x ∷ c.args.y ∷ c.args.z ∷ []) ∷ []) c.loop-x.invariant)
