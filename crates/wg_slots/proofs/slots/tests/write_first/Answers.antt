use Rattle.std.proofs.Common.{ap, ◌∙◌}
use Rattle.wg_slots.proofs.slots.tests.write_first.Goals as goal

pub returns-then-waiting-gt0-clause-words : goal.returns-then-waiting-gt0-clause-words
returns-then-waiting-gt0-clause-words c = ap (λ k. k.words) (c.write_front.ensures.writes c.front-slot.result.0 c.front-slot.ensures.slot).same ∙ c.requires.words
