use Rattle.std.proofs.Common.{None, [], refl}
use Rattle.wg_machine.specs.LaunchMeaning.{Meaning}
use Rattle.wg_machine.specs.State.{start}
use Rattle.wg_replay.proofs.replay.Replay.start.Goals as goal

-- bodies whose launches are all spent
spent : Meaning
spent l m t = None

pub returns-clause-at : goal.returns-clause-at
unfolding spent
returns-clause-at c =
    let G = c.args.shape.now in
    let script = c.args.script.now in
    let buffers = c.args.buffers in
    let fits = c.runs_fit.ensures G spent 0 script buffers [] [] (start G script buffers) c.requires.good (λ l m t f. tt) c.requires.arrive refl in
    record {
      keeps = c.in_ok-start.ensures.keeps;
      next = c.in_ok-start.ensures.next;
      buffers = refl;
      fits = fits.bag;
      many = c.requires.many;
    }
