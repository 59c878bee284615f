use Rattle.wg_engine.proofs.Beginnings.{begun_sound}
use Rattle.wg_engine.proofs.engine.Core.begin.Goals as goal

pub invariant_of-result : goal.invariant_of-result
invariant_of-result g c = begun_sound c.beginnings_place.ensures (g.K.Keeping.seen c.args.keep) c.args.buffers c.requires.begun c.requires.many
