use Rattle.wg_worlds.specs.Kept.{one_grant}
use Rattle.wg_worlds.proofs.laws.each_request_has_its_grant.Goals as goal

pub returns : goal.returns
returns c = one_grant
