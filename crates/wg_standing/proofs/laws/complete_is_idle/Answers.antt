use Rattle.std.proofs.Common.{◌∙◌}
use Rattle.wg_standing.proofs.Stands.{complete_idle}
use Rattle.wg_standing.proofs.laws.complete_is_idle.Goals as goal

pub returns : goal.returns
returns c = λ made script start_buffers core s empty. complete_idle core core.bag s.placed (s.bag ∙ empty)
