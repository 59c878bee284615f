use Rattle.wg_driver.proofs.calls.call.Goals as goal

pub settle-requires-clause-truth : goal.settle-requires-clause-truth
settle-requires-clause-truth g c = c.take-guess.ensures.taken _ _ _ c.requires.truths

pub returns-in-Settle-default-Some-clause-truths : goal.returns-in-Settle-default-Some-clause-truths
returns-in-Settle-default-Some-clause-truths g c = c.take-guess.ensures.truths _ _ _ c.requires.truths
