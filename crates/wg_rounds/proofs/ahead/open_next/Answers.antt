use Rattle.wg_rounds.proofs.Choosing.{not_now_none}
use Rattle.wg_rounds.proofs.ahead.open_next.Goals as goal

pub returns-in-NotNow-clause-opens : goal.returns-in-NotNow-clause-opens
returns-in-NotNow-clause-opens g c = let o = c.in-NotNow.ensures.opens in (not_now_none c.args.core.now o.2, o.1, o.3)
