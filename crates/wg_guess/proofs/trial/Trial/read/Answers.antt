use Rattle.std.proofs.Common.{sym, arith}
use Rattle.wg_guess.proofs.Words.{word_past}
use Rattle.wg_guess.proofs.trial.Trial.read.Goals as goal

pub returns-then-place-length-clause-value : goal.returns-then-place-length-clause-value
returns-then-place-length-clause-value g c = λ start agree.
    sym (word_past (g.V.View.buffers c.args.self.now.view.now) start c.args.self.now.writes.items c.args.place agree.lengths (omega arith))
