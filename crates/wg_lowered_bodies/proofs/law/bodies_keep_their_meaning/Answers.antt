use Rattle.wg_lowered_bodies.proofs.Statements.{bodies_go}
use Rattle.wg_lowered_bodies.proofs.law.bodies_keep_their_meaning.Goals as goal

pub returns : goal.returns
returns c = record { body = bodies_go }
