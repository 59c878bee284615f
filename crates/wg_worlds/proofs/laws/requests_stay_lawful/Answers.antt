use Rattle.wg_worlds.specs.Kept.{request_kept}
use Rattle.wg_worlds.proofs.laws.requests_stay_lawful.Goals as goal

pub returns : goal.returns
returns c = λ unit inputs buffers w r l. request_kept unit inputs buffers r w l
