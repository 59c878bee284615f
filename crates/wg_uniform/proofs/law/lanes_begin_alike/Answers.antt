use Rattle.wg_uniform.proofs.Launch.{begin_alike}
use Rattle.wg_uniform.proofs.law.lanes_begin_alike.Goals as goal

pub returns : goal.returns
returns c = record { begin = λ structs f group threads lane other w ids. begin_alike structs group threads lane other f w ids }
