use Rattle.std.proofs.Common.{◌∙◌, ℕ, List, length, ap}
use Rattle.std.specs.List.{sum_by}
use Rattle.wg_slots.specs.SlotsOf.{row_words}
use Rattle.wg_slots.proofs.Rows.{laid_sum}
use Rattle.wg_slots.proofs.slots.Slots.block.Goals as goal

pub returns : goal.returns
returns c =
    let sum = laid_sum c.self.inside.block.items c.self.inside.units.items (length c.self.inside.block.items) c.self.invariant in
    ap (λ (l : List ℕ). length l) c.as_slice.ensures.value ∙ (sum ∙ ap (sum_by row_words) c.self.view_is)
