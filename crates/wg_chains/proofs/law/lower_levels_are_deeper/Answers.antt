use Rattle.wg_chains.proofs.Reached.{longest_at}
use Rattle.wg_chains.proofs.law.lower_levels_are_deeper.Goals as goal

pub returns : goal.returns
returns c = record { deeper = λ nodes depths n d level r none e le. longest_at nodes n d level (r.each n d e) (none n) le }
