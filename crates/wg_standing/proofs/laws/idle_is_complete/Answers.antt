use Rattle.std.proofs.Common.{sym, ◌∙◌}
use Rattle.wg_standing.proofs.Stands.{idle_complete}
use Rattle.wg_standing.proofs.laws.idle_is_complete.Goals as goal

pub returns : goal.returns
returns c = λ made script start_buffers core s idle. sym s.bag ∙ idle_complete core core.bag s.placed idle
