use Rattle.wg_limits.proofs.Chains.{chain_within}
use Rattle.wg_limits.proofs.law.calls_are_few.Goals as goal

pub returns : goal.returns
returns c = record { few = chain_within }
