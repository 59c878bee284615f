use Rattle.std.proofs.Common.{refl, sym, ◌∙◌, subst, List}
use Rattle.wg_machine.specs.declared.memory.Seen.{Seen}
use Rattle.wg_guess.specs.Logs.{IsLoggedOnce}
use Rattle.wg_guess.proofs.make.guessed_from.Goals as goal

pub returns-clause-once : goal.returns-clause-once
returns-clause-once g c = subst (λ (l : List Seen). IsLoggedOnce l) (sym (c.from_vec.ensures ∙ c.into_parts-log.ensures.log)) (c.into_parts-log.ensures.sound (g.V.View.buffers c.args.trial.view.now) refl).once
