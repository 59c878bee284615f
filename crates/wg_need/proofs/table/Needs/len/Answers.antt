use Rattle.std.proofs.Common.{length, ap, sym, ◌∙◌}
use Rattle.wg_need.proofs.Blocks.{count_rows}
use Rattle.wg_need.proofs.table.Needs.len.Goals as goal

pub returns : goal.returns
returns c = ap length c.as_slice.ensures.value ∙ sym (count_rows 0 c.self.inside.ends.items c.self.inside.needs.items) ∙ ap length c.self.view_is
