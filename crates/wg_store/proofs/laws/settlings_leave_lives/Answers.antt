use Rattle.wg_store.proofs.Lives.{apart_before, lives_settled}
use Rattle.wg_store.proofs.laws.settlings_leave_lives.Goals as goal

pub returns : goal.returns
returns c = λ before o later new entries slots apart counted. lives_settled before o later new entries slots (apart_before before o later apart) counted
